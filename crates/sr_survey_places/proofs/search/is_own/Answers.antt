use Rattle.std.proofs.lemmas.Bool.{eqb-false}
use Rattle.sr_survey_places.proofs.Finding.{not_own}
use Rattle.sr_survey_places.proofs.search.is_own.Goals as goal

pub returns-then-at-own-clause-other : goal.returns-then-at-own-clause-other
returns-then-at-own-clause-other c = λ e. not_own c.args.own.now c.args.place _ c.count_before-at.result c.requires c.count_before-at.ensures.passed c.count_before-at.ensures.left (λ l same. eqb-false _ _ e same)
