use Rattle.sr_msgform.proofs.Whole.{length-message}
use Rattle.sr_msgform.proofs.laws.a_message_has_its_length.Goals as goal

pub returns : goal.returns
returns c = length-message
