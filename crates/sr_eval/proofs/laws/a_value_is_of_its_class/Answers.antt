use Rattle.sr_eval.proofs.Typed.{have_their_class}
use Rattle.sr_eval.proofs.laws.a_value_is_of_its_class.Goals as goal

pub returns : goal.returns
returns c = record { class = have_their_class }
