use Rattle.sr_msgform.proofs.Whole.{one_message}
use Rattle.sr_msgform.proofs.laws.no_bytes_spell_two_messages.Goals as goal

pub returns : goal.returns
returns c = one_message
