use Rattle.sr_survey.proofs.Jumping.{told_named, told_now}
use Rattle.sr_survey.proofs.laws.what_is_given_is_told_by_the_catalog_of_now.Goals as goal

pub returns : goal.returns
returns c = record {
  told = λ publisher user es s meant stored has first rest r e begun. told_now publisher user es first rest r s meant stored has e begun;
  named = λ publisher user es s meant stored has first rest r e begun there. told_named publisher user es first rest r s.catalog meant stored e (has.texts user first rest r e there);
}
