use Rattle.sr_mail.proofs.Covered.{assembled_true}
use Rattle.sr_mail.proofs.laws.true_fragments_make_the_body.Goals as goal

pub returns : goal.returns
returns c = assembled_true
