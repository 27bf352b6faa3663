-- The first place that is listed for a user.
use Rattle.std.proofs.Common.{ℕ, ◌<◌, ◌≤◌, List, [], ◌∷◌, Option, Some, None, sym, inl, inr, ⊎_elim}
use Rattle.std.proofs.lemmas.Bool.{cases_lt}
use Rattle.sr_book.specs.Entries.{Name}
use Rattle.sr_survey.proofs.Members.{In, contains_from_in, in_from_contains}
use Rattle.sr_survey.specs.Inner.Following.{keys_at}
use Rattle.sr_survey.specs.Inner.Surveyed.{IsHis, IsListed, IsNext, IsShownBy, IsShown, IsNextShown}
use Rattle.sr_survey.specs.declared.survey.Survey.{Survey}
use Rattle.sr_survey_places.specs.Inner.Search.{IsOwn}
use Rattle.sr_survey_places.specs.Inner.Listed.{under, IsUnder, IsFirstAmong}
use Rattle.sr_survey_places.specs.declared.key.Key.{Key}
use Rattle.sr_survey_places.specs.declared.key.Key.TheVariants as keyed
use Rattle.sr_survey_places.specs.declared.place.Place.{Place}

-- the keys of a user
abbrev his_keys : Survey → Name → List Key
his_keys s user = keyed.To user ∷ keyed.Text user ∷ keyed.Each ∷ keys_at s.offices user

his_in : (s : Survey) (user : Name) (k : Key) → IsHis s user k → In (his_keys s user) k
his_in s user k (inl e) = inl (sym e)
his_in s user k (inr (inl e)) = inr (inl (sym e))
his_in s user k (inr (inr (inl e))) = inr (inr (inl (sym e)))
his_in s user k (inr (inr (inr h))) = inr (inr (inr (in_from_contains (keys_at s.offices user) k h)))

in_his : (s : Survey) (user : Name) (k : Key) → In (his_keys s user) k → IsHis s user k
in_his s user k (inl e) = inl (sym e)
in_his s user k (inr (inl e)) = inr (inl (sym e))
in_his s user k (inr (inr (inl e))) = inr (inr (inl (sym e)))
in_his s user k (inr (inr (inr h))) = inr (inr (inr (contains_from_in (keys_at s.offices user) k h)))

under_his : (s : Survey) (user : Name) (x : Place) → IsListed s user x → IsUnder s.places.lists (his_keys s user) x
under_his s user x is = record { key = is.key; among = contains_from_in (his_keys s user) is.key (his_in s user is.key is.his); there = is.there }

listed_under : (s : Survey) (user : Name) (x : Place) → IsUnder s.places.lists (his_keys s user) x → ¬ (IsOwn (under s.places.lists (keyed.From user)) x) → IsListed s user x
listed_under s user x u other = record { key = u.key; his = in_his s user u.key (in_from_contains (his_keys s user) u.key u.among); there = u.there; other = other }

pub first_is_next : (s : Survey) (user : Name) (sent : ℕ) (o : Option Place) → IsFirstAmong s.places.lists (his_keys s user) (keyed.From user) sent o → IsNext s user sent o
first_is_next s user sent None first = λ x is. ⊎_elim (λ (late : sent < x.end). absurd (is.other (first x (under_his s user x is) late))) (λ (h : x.end ≤ sent). h) (cases_lt sent x.end)
first_is_next s user sent (Some p) first = (listed_under s user p first.0 first.2, first.1, λ x is late. first.3 x (under_his s user x is) late is.other)

-- ---- without the statements that are passed on to him

-- his keys but for that one
abbrev shown_keys : Survey → Name → List Key
shown_keys s user = keyed.To user ∷ keyed.Each ∷ keys_at s.offices user

shown_in : (s : Survey) (user : Name) (k : Key) → IsShownBy s user k → In (shown_keys s user) k
shown_in s user k (inl e) = inl (sym e)
shown_in s user k (inr (inl e)) = inr (inl (sym e))
shown_in s user k (inr (inr h)) = inr (inr (in_from_contains (keys_at s.offices user) k h))

in_shown : (s : Survey) (user : Name) (k : Key) → In (shown_keys s user) k → IsShownBy s user k
in_shown s user k (inl e) = inl (sym e)
in_shown s user k (inr (inl e)) = inr (inl (sym e))
in_shown s user k (inr (inr h)) = inr (inr (contains_from_in (keys_at s.offices user) k h))

under_shown : (s : Survey) (user : Name) (x : Place) → IsShown s user x → IsUnder s.places.lists (shown_keys s user) x
under_shown s user x is = record { key = is.key; among = contains_from_in (shown_keys s user) is.key (shown_in s user is.key is.his); there = is.there }

shown_under : (s : Survey) (user : Name) (x : Place) → IsUnder s.places.lists (shown_keys s user) x → ¬ (IsOwn (under s.places.lists (keyed.From user)) x) → IsShown s user x
shown_under s user x u other = record { key = u.key; his = in_shown s user u.key (in_from_contains (shown_keys s user) u.key u.among); there = u.there; other = other }

pub first_is_shown : (s : Survey) (user : Name) (sent : ℕ) (o : Option Place) → IsFirstAmong s.places.lists (shown_keys s user) (keyed.From user) sent o → IsNextShown s user sent o
first_is_shown s user sent None first = λ x is. ⊎_elim (λ (late : sent < x.end). absurd (is.other (first x (under_shown s user x is) late))) (λ (h : x.end ≤ sent). h) (cases_lt sent x.end)
first_is_shown s user sent (Some p) first = (shown_under s user p first.0 first.2, first.1, λ x is late. first.3 x (under_shown s user x is) late is.other)
