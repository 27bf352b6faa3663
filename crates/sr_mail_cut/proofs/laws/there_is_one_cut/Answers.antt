use Rattle.sr_mail_cut.proofs.Existing.{cut_there}
use Rattle.sr_mail_cut.proofs.Once.{cut_once}
use Rattle.sr_mail_cut.proofs.laws.there_is_one_cut.Goals as goal

pub returns : goal.returns
returns c = record { once = cut_once; there = λ head prev transactions limit room. cut_there head limit room prev transactions }
