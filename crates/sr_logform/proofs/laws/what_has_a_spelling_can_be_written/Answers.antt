use Rattle.sr_logform.proofs.Shorter.{short_entry, short_op, short_transaction}
use Rattle.sr_logform.proofs.laws.what_has_a_spelling_can_be_written.Goals as goal

pub returns : goal.returns
returns c = record { entries = short_entry; ops = short_op; transactions = short_transaction }
