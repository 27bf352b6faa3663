use Rattle.sr_mail_cut.proofs.Items.{body_item, spelled_item}
use Rattle.sr_mail_cut.proofs.bodies.body.Goals as goal

pub loop-transaction-preserved : goal.loop-transaction-preserved
loop-transaction-preserved c = record {
  written = body_item c.args.transactions.now c.loop-transaction.transaction-index c.transaction-item.result c.loop-transaction.out.items c.write.new.out.items c.loop-transaction-test.true c.transaction-item.is c.loop-transaction.invariant.written c.in_ok-write.ensures.ok;
  spelled = spelled_item c.args.transactions.now c.loop-transaction.transaction-index c.transaction-item.result c.loop-transaction-test.true c.transaction-item.is c.loop-transaction.invariant.spelled c.in_ok-write.ensures.kept;
}
