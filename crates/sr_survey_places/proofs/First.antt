-- The first place under several keys that is none of others.
use Rattle.std.proofs.Common.{◌≡◌, ◌⊎◌, ℕ, ◌<◌, ◌≤◌, Bool, true, false, leb, leb-true, cond, List, [], ◌∷◌, ◌++◌, Option, Some, None, refl, sym, inl, inr, subst, arith, ⊎_elim}
use Rattle.std.proofs.lemmas.Bool.{leb-false, cases_lt}
use Rattle.std.proofs.lemmas.List.Elements.{Contains-append_left, Contains-append_right, Contains-append_cases, Contains-push, Contains-push_cases}
use Rattle.std.specs.List.{Contains}
use Rattle.sr_survey_places.specs.Inner.Search.{IsWithin, IsOwn, IsFirstOther, earlier}
use Rattle.sr_survey_places.specs.Inner.Listed.{ByKey, under, IsUnder}
use Rattle.sr_survey_places.specs.declared.key.Key.{Key}
use Rattle.sr_survey_places.specs.declared.place.Place.{Place}

-- what lies past a limit lies no sooner than what lies within it
no_sooner : (limit : Option ℕ) (at later : ℕ) → IsWithin limit at → (IsWithin limit later → ⊥) → at ≤ later
no_sooner None at later within past = absurd (past tt)
no_sooner (Some l) at later within past = ⊎_elim (λ (h : l < later). let w : at ≤ l = within in omega arith) (λ (h : later ≤ l). absurd (past h)) (cases_lt l later)

module _ (own : List Place) (passed : ℕ) (limit : Option ℕ) where
  -- where there is none among some places, one of others ends no later than any of them
  before_all : (P : Place → Type 0) (at : ℕ) → IsFirstOther P own passed limit None → IsWithin limit at → (x : Place) → P x → passed < x.end → (IsOwn own x → ⊥) → at ≤ x.end
  before_all P at none within x h late other = no_sooner limit at x.end within (λ w. other (none x h late w))

  -- the first of some places and the first of others: the one that ends first
  first_of_two : (P Q R : Place → Type 0) → ((x : Place) → P x → R x) → ((x : Place) → Q x → R x) → ((x : Place) → R x → P x ⊎ Q x) → (o p : Option Place)
      → IsFirstOther P own passed limit o → IsFirstOther Q own passed limit p → IsFirstOther R own passed limit (earlier o p)
  first_of_two P Q R left right parted None None a b = λ x r late within. ⊎_elim (λ h. a x h late within) (λ h. b x h late within) (parted x r)
  first_of_two P Q R left right parted None (Some q) a b = (
    right q b.0,
    b.1,
    b.2,
    b.3,
    λ x r late other. ⊎_elim (λ h. before_all P q.end a b.2 x h late other) (λ h. b.4 x h late other) (parted x r),
  )
  first_of_two P Q R left right parted (Some p) None a b = (
    left p a.0,
    a.1,
    a.2,
    a.3,
    λ x r late other. ⊎_elim (λ h. a.4 x h late other) (λ h. before_all Q p.end b a.2 x h late other) (parted x r),
  )
  first_of_two P Q R left right parted (Some p) (Some q) a b = go (leb p.end q.end) refl where
    go : (t : Bool) → leb p.end q.end ≡ t → IsFirstOther R own passed limit (cond t (Some p) (Some q))
    go true e =
        let le : p.end ≤ q.end = leb-true p.end q.end e in
        (left p a.0, a.1, a.2, a.3, λ x r late other. ⊎_elim (λ h. a.4 x h late other) (λ h. let no_less : q.end ≤ x.end = b.4 x h late other in omega arith) (parted x r))
    go false e =
        let less : q.end < p.end = leb-false p.end q.end e in
        (right q b.0, b.1, b.2, b.3, λ x r late other. ⊎_elim (λ h. let no_less : p.end ≤ x.end = a.4 x h late other in omega arith) (λ h. b.4 x h late other) (parted x r))

  module _ (lists : ByKey) where
    under_left : (done : List Key) (k : Key) (x : Place) → IsUnder lists done x → IsUnder lists (done ++ k ∷ []) x
    under_left done k x u = record { key = u.key; among = Contains-append_left done (k ∷ []) u.key u.among; there = u.there }

    under_last : (done : List Key) (k : Key) (x : Place) → Contains (under lists k) x → IsUnder lists (done ++ k ∷ []) x
    under_last done k x h = record { key = k; among = Contains-push done k; there = h }

    -- a place under keys is under those before or under the last
    parted : (done : List Key) (k : Key) (x : Place) → IsUnder lists (done ++ k ∷ []) x → IsUnder lists done x ⊎ Contains (under lists k) x
    parted done k x u = go (Contains-push_cases done k u.key u.among) where
      go : Contains done u.key ⊎ (k ≡ u.key) → IsUnder lists done x ⊎ Contains (under lists k) x
      go (inl h) = inl (record { key = u.key; among = h; there = u.there })
      go (inr e) = inr (subst (λ q. Contains (under lists q) x) (sym e) u.there)

    pub first_none : IsFirstOther (IsUnder lists []) own passed limit None
    first_none x u late within = let none : u.among.0 < 0 = u.among.1 in absurd (omega arith)

    pub first_more : (done : List Key) (k : Key) (o p : Option Place) → IsFirstOther (IsUnder lists done) own passed limit o → IsFirstOther (Contains (under lists k)) own passed limit p
        → IsFirstOther (IsUnder lists (done ++ k ∷ [])) own passed limit (earlier o p)
    first_more done k o p a b = first_of_two (IsUnder lists done) (Contains (under lists k)) (IsUnder lists (done ++ k ∷ [])) (under_left done k) (under_last done k) (parted done k) o p a b

    wide_left : (ks js : List Key) (x : Place) → IsUnder lists ks x → IsUnder lists (ks ++ js) x
    wide_left ks js x u = record { key = u.key; among = Contains-append_left ks js u.key u.among; there = u.there }

    wide_right : (ks js : List Key) (x : Place) → IsUnder lists js x → IsUnder lists (ks ++ js) x
    wide_right ks js x u = record { key = u.key; among = Contains-append_right ks js u.key u.among; there = u.there }

    either : (ks js : List Key) (x : Place) → IsUnder lists (ks ++ js) x → IsUnder lists ks x ⊎ IsUnder lists js x
    either ks js x u = go (Contains-append_cases ks js u.key u.among) where
      go : Contains ks u.key ⊎ Contains js u.key → IsUnder lists ks x ⊎ IsUnder lists js x
      go (inl h) = inl (record { key = u.key; among = h; there = u.there })
      go (inr h) = inr (record { key = u.key; among = h; there = u.there })

    -- the first under some keys and the first under others: the one that ends first
    pub first_both : (ks js : List Key) (o p : Option Place) → IsFirstOther (IsUnder lists ks) own passed limit o → IsFirstOther (IsUnder lists js) own passed limit p
        → IsFirstOther (IsUnder lists (ks ++ js)) own passed limit (earlier o p)
    first_both ks js o p a b = first_of_two (IsUnder lists ks) (IsUnder lists js) (IsUnder lists (ks ++ js)) (wide_left ks js) (wide_right ks js) (either ks js) o p a b
