use Rattle.std.proofs.Common.{◌≡◌, length}
use Rattle.sr_world_steps.specs.Inner.Sending.{ends_at}
use Rattle.sr_world_steps.proofs.sending.ends_at.Given as goal

-- one of all ends there where one of those that are left does
abbrev pub invariant-members : goal.invariant-members
invariant-members l = ends_at l.left l.fn.end.0 ≡ ends_at l.members l.fn.end.0

abbrev pub decreases-members : goal.decreases-members
decreases-members l = length l.left
