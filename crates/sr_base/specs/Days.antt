-- Which numbers of days are dates.
use Rattle.std.specs.Prelude.{ℤ, pos, negsuc, ◌≤ℤ◌}

-- days since 1970-01-01, from 0001-01-01 to 9999-12-31
pub record IsDay (days : ℤ) : Type 0 where
  pub first : negsuc 719161 ≤ℤ days
  pub last : days ≤ℤ pos 2932896
