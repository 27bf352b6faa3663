use Rattle.sr_eval.proofs.Places.{resolved_meaning}
use Rattle.sr_eval.proofs.laws.a_resolved_expression_means_the_same.Goals as goal

pub returns : goal.returns
returns c = record { same = resolved_meaning }
