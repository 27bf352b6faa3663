use Rattle.sr_mail_cut.proofs.Parting.{body_once}
use Rattle.sr_mail_cut.proofs.laws.a_body_is_spelled_once.Goals as goal

pub returns : goal.returns
returns c = body_once
