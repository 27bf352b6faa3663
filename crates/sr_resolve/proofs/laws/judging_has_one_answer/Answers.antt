use Rattle.sr_resolve.proofs.Once.{one_statement, one_outcome}
use Rattle.sr_resolve.proofs.laws.judging_has_one_answer.Goals as goal

pub returns : goal.returns
returns c = record {
  statement = one_statement;
  outcome = one_outcome;
}
