use Rattle.std.proofs.Common.{◌≡◌, ◌++◌, length}
use Rattle.std.specs.List.{AllByRecursion}
use Rattle.sr_logform.specs.Ops.{IsTransaction}
use Rattle.sr_mail_cut.specs.Bodies.{body_spelling, AreRising, last_offset}
use Rattle.sr_mail_cut.proofs.bodies.read_body.Given as goal

abbrev pub invariant-transactions : goal.invariant-transactions
invariant-transactions l = record {
  spelled : AllByRecursion IsTransaction l.transactions.items;
  rising : AreRising l.transactions.items;
  last : l.last ≡ last_offset l.transactions.items;
  parts : l.bytes ≡ body_spelling l.transactions.items ++ l.rest;
}

abbrev pub decreases-transactions : goal.decreases-transactions
decreases-transactions l = length l.rest
