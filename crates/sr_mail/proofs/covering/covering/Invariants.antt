use Rattle.std.proofs.Common.{◌-◌}
use Rattle.sr_mail.proofs.Spanning.{Swept}
use Rattle.sr_mail.proofs.covering.covering.Given as goal

abbrev pub invariant-spans : goal.invariant-spans
invariant-spans l = Swept l.spans l.chosen.items l.reached l.left

abbrev pub decreases-spans : goal.decreases-spans
decreases-spans l = l.total - l.reached
