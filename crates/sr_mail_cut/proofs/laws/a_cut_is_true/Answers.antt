use Rattle.sr_mail_cut.proofs.Truth.{cut_true}
use Rattle.sr_mail_cut.proofs.laws.a_cut_is_true.Goals as goal

pub returns : goal.returns
returns c = cut_true
