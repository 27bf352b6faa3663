use Rattle.std.proofs.Common.{List, length}
use Rattle.std.specs.List.{AllByRecursion}
use Rattle.std.specs.Prelude.{Ok}
use Rattle.sr_logform.specs.Inner.Ops.{IsShortTransaction}
use Rattle.sr_mail.specs.Inboxes.{Gathered}
use Rattle.sr_receive_gather.specs.Windows.{past}
use Rattle.sr_receive.specs.Inner.Running.{KeepsLoans, Runs}
use Rattle.sr_receive.proofs.pass.Pass.take_all.Given as goal

-- of those past what was received the ones before those that are left are taken
abbrev pub invariant-transactions : goal.invariant-transactions
invariant-transactions g l = record {
  ran : (inbox : List Gathered) → Runs g.S.Held.seen l.fn.self inbox (past l.fn.self.progress.received.0 l.transactions) l.self inbox (past l.received l.left) (Ok tt);
  loans : KeepsLoans l.fn.self l.self;
  short : AllByRecursion IsShortTransaction l.left;
}

abbrev pub decreases-transactions : goal.decreases-transactions
decreases-transactions g l = length l.left
