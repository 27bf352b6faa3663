use Rattle.sr_mail.proofs.Shelved.{ends_item}
use Rattle.sr_mail.proofs.shelf.farthest_of.Goals as goal

pub loop-held-preserved : goal.loop-held-preserved
loop-held-preserved c =
    ends_item c.loop-held.farthest c.farther-farthest.result c.args.windows.now c.loop-held.held-index c.held-item.result c.loop-held-test.true c.held-item.is c.farther-farthest.ensures.before c.farther-farthest.ensures.ready c.loop-held.invariant
