use Rattle.sr_database_did.specs.Inner.Places.{at}
use Rattle.sr_receive_gather.specs.Windows.{past}
use Rattle.sr_receive.specs.Inner.Running.{stand}
use Rattle.sr_receive.proofs.Acting.{acted_none}
use Rattle.sr_receive.proofs.Taken.{past_left, past_taken}
use Rattle.sr_receive.proofs.pass.Pass.take_past.Goals as goal

pub returns-then-received-transaction-clause-ran : goal.returns-then-received-transaction-clause-ran
returns-then-received-transaction-clause-ran g c inbox rest =
    rw (past_taken c.args.received c.args.transaction.now rest c.if-received-transaction.true) (c.take_one.ensures.ran inbox (past c.args.received rest))

pub returns-clause-ran : goal.returns-clause-ran
returns-clause-ran g c inbox rest =
    rw (past_left c.args.received c.args.transaction.now rest c.if-received-transaction.false)
    (acted_none (stand c.args.self.now inbox (past c.args.received rest)) (at g.S.Held.seen c.args.self.now.place) c.requires.ready.ready.usable)
