use Rattle.std.proofs.Common.{length}
use Rattle.sr_agent.specs.Inner.Sharing.{SentUpToBut}
use Rattle.sr_agent.proofs.sharing.least_sent.Given as goal

-- so much was sent to each of the partners before those that are left
abbrev pub invariant-partners : goal.invariant-partners
invariant-partners l = SentUpToBut l.db l.least.0 l.left l.partners

abbrev pub decreases-partners : goal.decreases-partners
decreases-partners l = length l.left
