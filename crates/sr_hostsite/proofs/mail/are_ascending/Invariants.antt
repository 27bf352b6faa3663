use Rattle.std.proofs.Common.{◌≡◌, ℕ, ◌+◌, ◌-◌, ◌<◌, ◌≤◌, [], length, get_or}
use Rattle.std.specs.Ordering.{nat_cmp}
use Rattle.std.specs.Cmp.Lexicographic.{slice_cmp}
use Rattle.std.specs.declared.cmp.Ordering.TheVariants.{Less}
use Rattle.sr_hostsite.proofs.mail.are_ascending.Given as goal

-- each name so far is below the next
abbrev pub invariant-names : goal.invariant-names
invariant-names l = record {
  low : 1 ≤ l.i;
  rises : (k : ℕ) → k + 1 < l.i → slice_cmp nat_cmp (get_or l.names k []) (get_or l.names (k + 1) []) ≡ Less;
}

abbrev pub decreases-names : goal.decreases-names
decreases-names l = length l.names - l.i
