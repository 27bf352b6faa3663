use Rattle.std.proofs.Common.{sym, subst}
use Rattle.sr_survey_places.specs.Inner.Search.{InOrder, places_in}
use Rattle.sr_survey_places.proofs.listings.Listings.places.Goals as goal

pub returns-in-Some-clause-order : goal.returns-in-Some-clause-order
returns-in-Some-clause-order c = subst InOrder (sym c.as_slice.ensures.items) (subst (λ o. InOrder (places_in o)) (sym c.in-Some.ensures.value) (c.args.self.now.in_order c.args.key.now))
