-- What stays where a place is not listed.
use Rattle.std.proofs.Common.{◌≡◌, not, ◌||◌, is_some, List, length, ap, ◌∙◌}
use Rattle.std.specs.List.{sum_by}
use Rattle.std.specs.Map.{lookup, values_of}
use Rattle.sr_survey_places.specs.Inner.Ready.{IsReady}
use Rattle.sr_survey_places.specs.Inner.Search.{places_in}
use Rattle.sr_survey_places.specs.Inner.Keys.{is_shared, key_eq}
use Rattle.sr_survey_places.specs.Inner.Listed.{ByKey, IsLeft}
use Rattle.sr_survey_places.specs.declared.key.Key.{Key}
use Rattle.sr_survey_places.specs.declared.place.Place.{Place}

pub unchanged_left : (a b : ByKey) → b.entries ≡ a.entries → IsLeft a b
unchanged_left a b same = record {
  same = λ q. ap (λ es. places_in (lookup (key_eq q) es)) same;
  begun = λ q. ap (λ es. not (is_shared q) || is_some (lookup (key_eq q) es)) same;
  count = ap (λ es. sum_by (λ (places : List Place). length places) (values_of es)) same;
}

pub ready_left : (a b c : ByKey) (k : Key) → IsReady a k b → IsLeft b c → IsLeft a c
ready_left a b c k ready left = record {
  same = λ q. left.same q ∙ ready.left.same q;
  begun = λ q. left.begun q ∙ ready.left.begun q;
  count = left.count ∙ ready.left.count;
}
