-- Counts of started subscriptions, kept as subscriptions come, change and go.
use Rattle.std.proofs.Common.{◌≡◌, ℕ, ◌+◌, Bool, true, false, ◌&&◌, ◌||◌, cond, List, [], ◌∷◌, Option, Some, refl, ap, sym, ◌∙◌, arith}
use Rattle.std.specs.Prelude.{nat_lt, bytes_eq}
use Rattle.std.specs.List.{list_any, count_by}
use Rattle.std.specs.Map.{lookup}
use Rattle.std.specs.Option.{unwrap_or}
use Rattle.std.proofs.lemmas.Bool.{lt-ltb, false_from_ne_true, true≢false}
use Rattle.std.proofs.lemmas.List.Sums.{sum_by-cons}
use Rattle.std.proofs.lemmas.Slice.Eq.{bytes_eq-Decides}
use Rattle.indexmap.specs.IndexMap.{insert_entry}
use Rattle.sr_catalog_schema.specs.Inner.Keys.{pair_key, starts_under, count_under, IsCounted, IsChanged}
use Rattle.sr_catalog_schema.specs.declared.subscription.Subscription.{Subscription}
use Rattle.sr_catalog_schema.proofs.Spelled.{pair_is}

-- whether there is one, by the count
any_counted : {A : Type 0} (p : A → Bool) (xs : List A) → nat_lt 0 (count_by p xs) ≡ list_any p xs
any_counted p [] = refl
any_counted {A} p (x ∷ xs) = ap (λ n. nat_lt 0 n) (sum_by-cons (λ y. cond (p y) 1 0) x xs) ∙ by (p x) (count_by p xs) (list_any p xs) (any_counted p xs)
  where
    by : (b : Bool) (n : ℕ) (rest : Bool) → nat_lt 0 n ≡ rest → nat_lt 0 (cond b 1 0 + n) ≡ (b || rest)
    by true n rest e = lt-ltb 0 (1 + n) (omega arith)
    by false n rest e =
        let same : 0 + n ≡ n = omega arith in
        ap (λ m. nat_lt 0 m) same ∙ e

-- a count that is put under a key
module _ {K : Type 0} (f : K → List ℕ) (eq : K → K → Bool) (same : (x y : K) → eq x y ≡ bytes_eq (f x) (f y)) (key : K) (v : ℕ) (q : List ℕ) where
  abbrev here : K → Bool
  here k = bytes_eq q (f k)

  swapped : (mine theirs : Bool) (w : ℕ) (rest : Option ℕ) → (mine ≡ true → theirs ≡ false) → cond theirs (Some w) (cond mine (Some v) rest) ≡ cond mine (Some v) (cond theirs (Some w) rest)
  swapped true theirs w rest apart = rw (apart refl) refl
  swapped false theirs w rest apart = refl

  apart : (k : K) → eq key k ≡ false → here key ≡ true → here k ≡ false
  apart k h mine =
      false_from_ne_true (here k) (λ t.
      let one : f key ≡ f k = sym ((bytes_eq-Decides q (f key)).0 mine) ∙ (bytes_eq-Decides q (f k)).0 t in
      true≢false (sym ((bytes_eq-Decides (f key) (f k)).1 one) ∙ (sym (same key k) ∙ h)))

  kept : (mine : Bool) (w : ℕ) (rest : Option ℕ) → cond mine (Some v) rest ≡ cond mine (Some v) (cond mine (Some w) rest)
  kept true w rest = refl
  kept false w rest = refl

  lookup_put : (es : List (K × ℕ)) → lookup here (insert_entry eq es key v) ≡ cond (here key) (Some v) (lookup here es)
  lookup_put [] = refl
  lookup_put (e ∷ es) = by (eq key e.0) refl (lookup_put es)
    where
      by : (b : Bool) → eq key e.0 ≡ b → lookup here (insert_entry eq es key v) ≡ cond (here key) (Some v) (lookup here es)
          → lookup here (insert_entry eq (e ∷ es) key v) ≡ cond (here key) (Some v) (lookup here (e ∷ es))
      by true h rest =
          let one : f key ≡ f e.0 = (bytes_eq-Decides (f key) (f e.0)).0 (sym (same key e.0) ∙ h) in
          let heres : here key ≡ here e.0 = ap (bytes_eq q) one in
          rw (h, heres) (kept (here e.0) e.1 (lookup here es))
      by false h rest = rw h (ap (cond (here e.0) (Some e.1)) rest ∙ swapped (here key) (here e.0) e.1 (lookup here es) (apart e.0 h))

module _ {K : Type 0} (f : K → List ℕ) (eq : K → K → Bool) (same : (x y : K) → eq x y ≡ bytes_eq (f x) (f y)) where
  -- the counts after `change`
  pub changed_by : (old new : List (K × ℕ)) (key : K) (was now : Bool) (before after : ℕ) → before ≡ count_under f old (f key) → after + cond was 1 0 ≡ before + cond now 1 0
      → new ≡ insert_entry eq old key after → IsChanged f old new (f key) was now
  changed_by old new key was now before after had moved put = record {
    counts = λ q.
        ap (λ es. count_under f es q + cond (bytes_eq q (f key)) (cond was 1 0) 0) put
        ∙ ap (λ o. unwrap_or o 0 + cond (bytes_eq q (f key)) (cond was 1 0) 0) (lookup_put f eq same key after q old)
        ∙ by q (bytes_eq q (f key)) refl;
  }
    where
      by : (q : List ℕ) (b : Bool) → bytes_eq q (f key) ≡ b
          → unwrap_or (cond (bytes_eq q (f key)) (Some after) (lookup (λ k. bytes_eq q (f k)) old)) 0 + cond (bytes_eq q (f key)) (cond was 1 0) 0
          ≡ count_under f old q + cond (bytes_eq q (f key)) (cond now 1 0) 0
      by q true e = rw e (moved ∙ ap (λ n. n + cond now 1 0) (had ∙ ap (count_under f old) (sym ((bytes_eq-Decides q (f key)).0 e))))
      by q false e = rw e refl

-- ---- the subscriptions that are counted

module _ {K : Type 0} (f : K → List ℕ) where
  -- the counts answer whether a user has a started subscription of a publication
  pub counted_any : (entries : List (K × ℕ)) (items : List Subscription) (user publication : List ℕ) → IsCounted f entries items
      → nat_lt 0 (count_under f entries (pair_key user publication)) ≡ list_any (λ s. s.started && (bytes_eq user s.user && bytes_eq publication s.publication)) items
  counted_any entries items user publication counted =
      ap (λ n. nat_lt 0 n) (counted.counts (pair_key user publication))
      ∙ any_counted (starts_under (pair_key user publication)) items
      ∙ (λ i. list_any (λ s. s.started && pair_is user publication s.user s.publication i) items)
