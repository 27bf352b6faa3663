use Rattle.std.proofs.Common.{◌≤◌, length}
use Rattle.sr_send_needs.specs.Inner.Seeking.{AreGranted, ConfirmedButBy}
use Rattle.sr_send_needs.proofs.needing.all_confirmed.Given as goal

-- the users before those that are left have confirmed so much
abbrev pub invariant-users : goal.invariant-users
invariant-users l = ConfirmedButBy l.db l.least.0 l.left l.users × AreGranted l.db l.left × (l.db.log.base ≤ l.least.0)

abbrev pub decreases-users : goal.decreases-users
decreases-users l = length l.left
