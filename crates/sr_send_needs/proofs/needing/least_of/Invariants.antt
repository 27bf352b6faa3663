use Rattle.std.proofs.Common.{length}
use Rattle.std.specs.List.{AllByRecursion}
use Rattle.sr_send_needs.specs.Inner.Seeking.{HasConfirmed, SoughtTo}
use Rattle.sr_send_needs.proofs.needing.least_of.Given as goal

-- the least need of the users before those that are left
abbrev pub invariant-users : goal.invariant-users
invariant-users g l = SoughtTo l.db l.least l.left l.users (g.S.Held.seen l.fn.site) (g.S.Held.seen l.site) × AllByRecursion (HasConfirmed l.db l.start.at.0) l.left

abbrev pub decreases-users : goal.decreases-users
decreases-users g l = length l.left
