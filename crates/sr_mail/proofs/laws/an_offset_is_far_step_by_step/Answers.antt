use Rattle.std.proofs.Common.{IsTrue}
use Rattle.sr_mail.proofs.Far.{far_here, far_on}
use Rattle.sr_mail.proofs.laws.an_offset_is_far_step_by_step.Goals as goal

pub returns : goal.returns
returns c = record { stays = λ of_kind from none. far_here (λ w. IsTrue (of_kind w)) from none; goes_on = λ of_kind from far w is leads further. far_on (λ w. IsTrue (of_kind w)) from far w is leads further }
