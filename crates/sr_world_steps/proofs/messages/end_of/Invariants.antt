use Rattle.std.proofs.Common.{◌≡◌, length}
use Rattle.sr_mail_cut.specs.Bodies.{last_at}
use Rattle.sr_world_steps.proofs.messages.end_of.Given as goal

-- the end is that of the members that are left, behind this one
abbrev pub invariant-members : goal.invariant-members
invariant-members l = last_at l.end l.left ≡ last_at l.fn.before l.members

abbrev pub decreases-members : goal.decreases-members
decreases-members l = length l.left
