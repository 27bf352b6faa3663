-- A history with one entry more, in two parts.
use Rattle.std.proofs.Common.{◌≡◌, ◌⊎◌, ◌+◌, ◌<◌, ◌≤◌, List, [], ◌∷◌, ◌++◌, refl, sym, ap, inl, inr, subst, arith, append_assoc, ◌∙◌}
use Rattle.sr_database_history.proofs.Joined.{end_from-append, end_from-more, le-end_from}
use Rattle.sr_database_history.specs.Folds.{size, end_of}
use Rattle.sr_database_history.specs.Recorded.{Recorded}

-- the second part is empty, or the entry is its last
pub record EndsIn {A : Type 0} (xs : List A) (x : A) (first rest : List A) : Type 0 where
  pub before : List A
  pub parts : xs ≡ first ++ before
  pub rest_is : rest ≡ before ++ x ∷ []

pub split_end : {A : Type 0} (xs : List A) (x : A) (first rest : List A) → xs ++ x ∷ [] ≡ first ++ rest → ((first ≡ xs ++ x ∷ []) × (rest ≡ [])) ⊎ EndsIn xs x first rest
split_end xs x [] rest e = inr (record { before = xs; parts = refl; rest_is = sym e })
split_end [] x (y ∷ []) rest e = let head : x ≡ y = cc in let tail : [] ≡ rest = cc in inl (ap (λ z. z ∷ []) (sym head), sym tail)
split_end [] x (y ∷ z ∷ first) rest e = let impossible : [] ≡ z ∷ (first ++ rest) = cc in cc
split_end {A} (w ∷ xs) x (y ∷ first) rest e = go (split_end xs x first rest tail) where
  head : w ≡ y
  head = cc

  tail : xs ++ x ∷ [] ≡ first ++ rest
  tail = cc

  go : ((first ≡ xs ++ x ∷ []) × (rest ≡ [])) ⊎ EndsIn xs x first rest → ((y ∷ first ≡ w ∷ (xs ++ x ∷ [])) × (rest ≡ [])) ⊎ EndsIn (w ∷ xs) x (y ∷ first) rest
  go (inl h) = inl ((let e : y ∷ first ≡ w ∷ (xs ++ x ∷ []) = cc in e), h.1)
  go (inr h) = inr (record { before = h.before; parts = (let e : w ∷ xs ≡ y ∷ (first ++ h.before) = cc in e); rest_is = h.rest_is })

-- an entry is the last one, or stands among those before
pub split_entry : {A : Type 0} (xs : List A) (x : A) (first : List A) (y : A) (rest : List A) → xs ++ x ∷ [] ≡ first ++ y ∷ rest
    → ((first ≡ xs) × (y ≡ x)) ⊎ ((before : List A) × (xs ≡ first ++ y ∷ before))
split_entry [] x [] y rest e = inl (refl, (let h : y ≡ x = cc in h))
split_entry [] x (z ∷ []) y rest e = let impossible : [] ≡ y ∷ rest = cc in cc
split_entry [] x (z ∷ w ∷ first) y rest e = let impossible : [] ≡ w ∷ (first ++ y ∷ rest) = cc in cc
split_entry (w ∷ xs) x [] y rest e = let head : w ≡ y = cc in inr (xs, ap (λ z. z ∷ xs) head)
split_entry {A} (w ∷ xs) x (z ∷ first) y rest e = go (split_entry xs x first y rest tail) where
  head : w ≡ z
  head = cc

  tail : xs ++ x ∷ [] ≡ first ++ y ∷ rest
  tail = cc

  go : ((first ≡ xs) × (y ≡ x)) ⊎ ((before : List A) × (xs ≡ first ++ y ∷ before)) → ((z ∷ first ≡ w ∷ xs) × (y ≡ x)) ⊎ ((before : List A) × (w ∷ xs ≡ z ∷ (first ++ y ∷ before)))
  go (inl h) = inl ((let same : z ∷ first ≡ w ∷ xs = cc in same), h.1)
  go (inr h) = inr (h.0, (let same : w ∷ xs ≡ z ∷ (first ++ y ∷ h.0) = cc in same))

-- an end is past those before it
pub past_end : (first : List Recorded) (r : Recorded) → end_of first < end_of (first ++ r ∷ [])
past_end first r = let more : end_of (first ++ r ∷ []) ≡ end_of first + (size r + 5) = end_from-more 0 first r in omega arith

pub end_before : (first rest : List Recorded) → end_of first ≤ end_of (first ++ rest)
end_before first rest = subst (λ n. end_of first ≤ n) (sym (end_from-append 0 first rest)) (le-end_from (end_of first) rest)

pub entry_ends_before : (done first rest : List Recorded) (r : Recorded) → done ≡ first ++ r ∷ rest → end_of (first ++ r ∷ []) ≤ end_of done
entry_ends_before done first rest r e = subst (λ n. end_of (first ++ r ∷ []) ≤ n) (ap end_of (append_assoc first (r ∷ []) rest ∙ sym e)) (end_before (first ++ r ∷ []) rest)
