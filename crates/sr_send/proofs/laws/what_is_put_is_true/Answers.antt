use Rattle.sr_send.proofs.TrueSentMessages.{all_true}
use Rattle.sr_send.proofs.laws.what_is_put_is_true.Goals as goal

pub returns : goal.returns
returns c = all_true
