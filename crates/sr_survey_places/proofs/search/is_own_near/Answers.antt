use Rattle.sr_survey_places.proofs.Finding.{own_here}
use Rattle.sr_survey_places.proofs.search.is_own_near.Goals as goal

pub returns-then-own-near-clause-own : goal.returns-then-own-near-clause-own
returns-then-own-near-clause-own c = λ _. own_here c.args.own.now c.args.near c.args.place _ c.if-near-own.true c.if-own-near.true
