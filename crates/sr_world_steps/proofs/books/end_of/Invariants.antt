use Rattle.std.proofs.Common.{◌≡◌, length}
use Rattle.sr_world_steps.specs.Inner.Booked.{end_in}
use Rattle.sr_world_steps.proofs.books.end_of.Given as goal

-- the end is that of all entries, with those that are left
abbrev pub invariant-entries : goal.invariant-entries
invariant-entries l = end_in l.end l.left ≡ end_in 0 l.log

abbrev pub decreases-entries : goal.decreases-entries
decreases-entries l = length l.left
