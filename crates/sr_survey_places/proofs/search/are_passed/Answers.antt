use Rattle.std.proofs.Common.{leb-true}
use Rattle.sr_survey_places.proofs.Finding.{all_passed}
use Rattle.sr_survey_places.proofs.search.are_passed.Goals as goal

pub returns : goal.returns
returns c = record { passed = λ h. all_passed c.args.places.now _ c.args.sent c.requires (leb-true _ _ h) }
