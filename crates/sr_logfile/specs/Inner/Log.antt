-- A log, as contracts see it.
-- Here is what no contract of the program says by itself.
use Rattle.std.specs.Prelude.{ℕ, ◌≤◌}
use Rattle.sr_base.specs.Values.{farthest_offset}

-- positions come in order, up to the last offset
pub record InOrder (base end : ℕ) : Type 0 where
  pub order : base ≤ end
  pub limit : end ≤ farthest_offset
