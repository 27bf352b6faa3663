-- A place is listed under several keys, one after the other.
use Rattle.std.proofs.Common.{◌≡◌, ◌⊎◌, ℕ, ◌≤◌, ◌+◌, true, List, [], ◌++◌, length, get_or, refl, inl, inr, arith, length-append, ◌∙◌}
use Rattle.std.proofs.lemmas.List.Elements.{All-nil, All-append, Contains-append_left, Contains-append_right}
use Rattle.std.specs.List.{Contains}
use Rattle.sr_survey_places.specs.Inner.Listed.{ByKey, under, is_begun, count_of, IsListedUnder}
use Rattle.sr_survey_places.specs.declared.key.Key.{Key}
use Rattle.sr_survey_places.specs.declared.place.Place.{Place}

pub listed_none : (m : ByKey) (p : Place) → IsListedUnder m [] p m
listed_none m p = record { there = All-nil (λ key. is_begun m key ≡ true → Contains (under m key) p); stays = λ q x h. h; only = λ q x h. inl h; begun = λ q. refl; count = omega arith }

pub listed_both : (a b c : ByKey) (ks js : List Key) (p : Place) → IsListedUnder a ks p b → IsListedUnder b js p c → IsListedUnder a (ks ++ js) p c
listed_both a b c ks js p first second = record {
  there = All-append (λ key. is_begun a key ≡ true → Contains (under c key) p) ks js
      (λ i d l h. second.stays (get_or ks i d) p (first.there i d l h)) (λ i d l h. second.there i d l (first.begun (get_or js i d) ∙ h));
  stays = λ q x h. second.stays q x (first.stays q x h);
  only = λ q x h. from q x (second.only q x h);
  begun = λ q. second.begun q ∙ first.begun q;
  count = counted (count_of a) (count_of b) (count_of c) first.count second.count;
} where
  counted : (x y z : ℕ) → y ≤ x + length ks → z ≤ y + length js → z ≤ x + length (ks ++ js)
  counted x y z f g = omega (arith, length-append ks js)

  from_first : (q : Key) (x : Place) → Contains (under a q) x ⊎ (Contains ks q × (x ≡ p)) → Contains (under a q) x ⊎ (Contains (ks ++ js) q × (x ≡ p))
  from_first q x (inl h) = inl h
  from_first q x (inr h) = inr (Contains-append_left ks js q h.0, h.1)

  from : (q : Key) (x : Place) → Contains (under b q) x ⊎ (Contains js q × (x ≡ p)) → Contains (under a q) x ⊎ (Contains (ks ++ js) q × (x ≡ p))
  from q x (inl h) = from_first q x (first.only q x h)
  from q x (inr h) = inr (Contains-append_right ks js q h.0, h.1)
