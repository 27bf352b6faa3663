-- Offices with a key more, and with a later start.
use Rattle.std.specs.Prelude.{ℕ, Bool, cond, List, [], ◌∷◌, ◌++◌, Option, max}
use Rattle.std.specs.List.{list_any}
use Rattle.std.specs.Ordering.{is_eq}
use Rattle.sr_survey.specs.Inner.Following.{keys_in, since_in}
use Rattle.sr_survey.specs.declared.office.Office.{Office}
use Rattle.sr_survey_places.specs.Inner.Keys.{key_cmp}
use Rattle.sr_survey_places.specs.declared.key.Key.{Key}

-- whether a key is among others
abbrev pub has_key : List Key → Key → Bool
has_key keys k = list_any (λ q. is_eq (key_cmp k q)) keys

-- the keys with one, which is not put twice
abbrev pub with_one : List Key → Key → List Key
with_one keys k = cond (has_key keys k) keys (keys ++ k ∷ [])

abbrev pub with_key : Option Office → Key → Office
with_key held k = record { keys = with_one (keys_in held) k; since = since_in held }

abbrev pub with_since : Option Office → ℕ → Office
with_since held at = record { keys = keys_in held; since = max (since_in held) at }
