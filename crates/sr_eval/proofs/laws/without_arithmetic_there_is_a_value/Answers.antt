use Rattle.sr_eval.proofs.Plain.{plain_have_values}
use Rattle.sr_eval.proofs.laws.without_arithmetic_there_is_a_value.Goals as goal

pub returns : goal.returns
returns c = record { value = plain_have_values }
