use Rattle.sr_mail_cut.proofs.Truth.{cut_keeps}
use Rattle.sr_mail_cut.proofs.laws.a_cut_keeps_the_rules.Goals as goal

pub returns : goal.returns
returns c = cut_keeps
