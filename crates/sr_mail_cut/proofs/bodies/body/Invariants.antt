use Rattle.std.proofs.Common.{◌≡◌, take}
use Rattle.std.specs.List.{AllByRecursion}
use Rattle.sr_logform.specs.Ops.{IsTransaction}
use Rattle.sr_mail_cut.specs.Bodies.{body_spelling}
use Rattle.sr_mail_cut.proofs.bodies.body.Given as goal

abbrev pub invariant-loop-transaction : goal.invariant-loop-transaction
invariant-loop-transaction l = record {
  written : l.out.items ≡ body_spelling (take l.transaction-index l.transactions);
  spelled : AllByRecursion IsTransaction (take l.transaction-index l.transactions);
}
