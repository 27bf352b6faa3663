use Rattle.std.proofs.Common.{length}
use Rattle.sr_receive_gather.proofs.Bagging.{IsLooking}
use Rattle.sr_receive_gather.proofs.adding.place_of.Given as goal

-- none of the partner mails before those that are left is the user's
abbrev pub invariant-partner_mails : goal.invariant-partner_mails
invariant-partner_mails l = IsLooking l.partner_mails l.user l.left l.at

abbrev pub decreases-partner_mails : goal.decreases-partner_mails
decreases-partner_mails l = length l.left
