use Rattle.std.proofs.Common.{rules, List, [], Ok, Err, subst}
use Rattle.std.specs.List.{AllByRecursion}
use Rattle.sr_database_did.specs.Inner.Places.{at}
use Rattle.sr_logform.specs.Inner.Ops.{IsShortTransaction}
use Rattle.sr_logform.specs.declared.op.Transaction.{Transaction}
use Rattle.sr_receive.specs.Inner.Running.{stand}
use Rattle.sr_receive.proofs.Acting.{acted_none, ran_on, ready_acted}
use Rattle.sr_receive.proofs.Leading.{no_length, none_there}
use Rattle.sr_receive.proofs.pass.Pass.take_all.Goals as goal

pub transactions-init : goal.transactions-init
transactions-init g c = record {
  ran = λ inbox. acted_none _ (at g.S.Held.seen c.args.self.now.place) c.requires.ready.ready.usable;
  loans = search rules;
  short = c.requires.short;
}

pub take_past-requires : goal.take_past-requires
take_past-requires g c = record {
  ready = ready_acted _ _ _ _ (c.transactions.invariant.ran []) c.requires.ready;
  short = (subst (λ (l : List Transaction). AllByRecursion IsShortTransaction l) c.in-Some.ensures.cases.0 c.transactions.invariant.short).0;
}

pub returns-in-Err-clause-ran : goal.returns-in-Err-clause-ran
returns-in-Err-clause-ran g c inbox =
    ran_on _ _ (stand c.take_past.new.self inbox []) _ _ _ (Err c.in-Err.fault) (rw c.in-Some.ensures.cases.0 at (c.transactions.invariant.ran inbox)) (c.in-Err.ensures.ran inbox c.in-Some.rest.now)

pub transactions-preserved : goal.transactions-preserved
transactions-preserved g c = record {
  ran = λ inbox. ran_on _ _ _ _ _ _ (Ok tt) (rw c.in-Some.ensures.cases.0 at (c.transactions.invariant.ran inbox)) (c.in-Ok.ensures.ran inbox c.in-Some.rest.now);
  loans = search rules;
  short = (subst (λ (l : List Transaction). AllByRecursion IsShortTransaction l) c.in-Some.ensures.cases.0 c.transactions.invariant.short).1;
}

pub returns-clause-ran : goal.returns-clause-ran
returns-clause-ran g c inbox = rw (no_length c.transactions.left.now (none_there c.split_first.result _ _ c.in_default.not-Some c.split_first.ensures.cases)) at (c.transactions.invariant.ran inbox)
