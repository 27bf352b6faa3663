use Rattle.sr_survey.proofs.Jumping.{jumped}
use Rattle.sr_survey.proofs.laws.nothing_is_due_before_the_next.Goals as goal

pub returns : goal.returns
returns c = record { due = λ publisher user es s sent next has is_next first rest r e begun. jumped publisher user es first rest r s sent next has is_next e begun }
