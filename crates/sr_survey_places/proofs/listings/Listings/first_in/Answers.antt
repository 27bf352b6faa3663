use Rattle.std.proofs.Common.{subst}
use Rattle.std.specs.List.{Contains}
use Rattle.sr_survey_places.specs.Inner.Search.{IsFirstOther}
use Rattle.sr_survey_places.proofs.listings.Listings.first_in.Goals as goal

pub returns : goal.returns
returns c = record { first = subst (λ xs. IsFirstOther (Contains xs) c.args.own.now c.args.passed c.args.limit c.first_other.result) c.places.ensures.places c.first_other.ensures.first }
