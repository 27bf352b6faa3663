-- Items of which one at most passes a test: where it stands, and what is left without it or with it changed.
use Rattle.std.proofs.Common.{◌≡◌, ℕ, zero, suc, ◌+◌, ◌<◌, Bool, true, false, ◌&&◌, ◌||◌, not, cond, List, [], ◌∷◌, length, map, Some, None, refl, ap, sym, subst, ◌∙◌, arith, find, position, get_or, set}
use Rattle.std.specs.Prelude.{filter, is_some, nat_lt, bytes_eq, remove}
use Rattle.std.specs.List.{AllByRecursion, IsDistinct, list_any, position_or_len}
use Rattle.std.specs.Option.{option_map_or}
use Rattle.std.proofs.lemmas.Bool.{or_parts, ltb-true}
use Rattle.std.proofs.lemmas.Map.Keys.{IsDistinct-head, IsDistinct-tail}
use Rattle.std.proofs.lemmas.Option.{cond_some}
use Rattle.std.proofs.lemmas.Slice.Eq.{bytes_eq-Decides}
use Rattle.sr_catalog_schema.specs.Inner.Singles.{IsSingle}
use Rattle.sr_catalog_schema.proofs.Places.{list_any-map, find-no_place}

-- ---- where a test holds of no item

pub none_changes : {A : Type 0} (p : A → Bool) (f : A → A) (xs : List A) → list_any p xs ≡ false → map (λ x. cond (p x) (f x) x) xs ≡ xs
none_changes p f [] h = refl
none_changes p f (x ∷ xs) h =
    let parts = or_parts (p x) (list_any p xs) h in
    λ i. cond (parts.0 i) (f x) x ∷ none_changes p f xs parts.1 i

pub none_goes : {A : Type 0} (p : A → Bool) (xs : List A) → list_any p xs ≡ false → filter (λ x. not (p x)) xs ≡ xs
none_goes p [] h = refl
none_goes p (x ∷ xs) h =
    let parts = or_parts (p x) (list_any p xs) h in
    λ i. cond (not (parts.0 i)) (x ∷ none_goes p xs parts.1 i) (none_goes p xs parts.1 i)

none_both : {A : Type 0} (p g : A → Bool) (xs : List A) → list_any p xs ≡ false → list_any (λ x. p x && g x) xs ≡ false
none_both p g [] h = refl
none_both p g (x ∷ xs) h =
    let parts = or_parts (p x) (list_any p xs) h in
    λ i. (parts.0 i && g x) || none_both p g xs parts.1 i

-- ---- where it holds of one at most

pub one_changes : {A : Type 0} (p : A → Bool) (f : A → A) (xs : List A) (d : A) → IsSingle p xs
    → map (λ x. cond (p x) (f x) x) xs ≡ set xs (position_or_len p xs) (f (get_or xs (position_or_len p xs) d))
unfolding IsSingle
one_changes p f [] d single = refl
one_changes {A} p f (x ∷ xs) d single = by (p x) refl (one_changes p f xs d single.1)
  where
    by : (b : Bool) → p x ≡ b → map (λ y. cond (p y) (f y) y) xs ≡ set xs (position_or_len p xs) (f (get_or xs (position_or_len p xs) d))
        → map (λ y. cond (p y) (f y) y) (x ∷ xs) ≡ set (x ∷ xs) (position_or_len p (x ∷ xs)) (f (get_or (x ∷ xs) (position_or_len p (x ∷ xs)) d))
    by true e rest = rw e (ap (λ l. f x ∷ l) (none_changes p f xs (single.0 e)))
    by false e rest =
        let next : suc (position_or_len p xs) ≡ 1 + position_or_len p xs = omega arith in
        rw e (ap (λ l. x ∷ l) rest ∙ ap (λ n. set (x ∷ xs) n (f (get_or (x ∷ xs) n d))) next)

pub one_goes : {A : Type 0} (p : A → Bool) (xs : List A) → IsSingle p xs → filter (λ x. not (p x)) xs ≡ remove xs (position_or_len p xs)
unfolding IsSingle
one_goes p [] single = refl
one_goes {A} p (x ∷ xs) single = by (p x) refl (one_goes p xs single.1)
  where
    by : (b : Bool) → p x ≡ b → filter (λ y. not (p y)) xs ≡ remove xs (position_or_len p xs) → filter (λ y. not (p y)) (x ∷ xs) ≡ remove (x ∷ xs) (position_or_len p (x ∷ xs))
    by true e rest = rw e (none_goes p xs (single.0 e))
    by false e rest =
        let next : suc (position_or_len p xs) ≡ 1 + position_or_len p xs = omega arith in
        rw e (ap (λ l. x ∷ l) rest ∙ ap (λ n. remove (x ∷ xs) n) next)

settled : (b : Bool) → (b || false) ≡ b
settled true = refl
settled false = refl

-- a second test of the one
pub any_both : {A : Type 0} (p g : A → Bool) (xs : List A) → IsSingle p xs → list_any (λ x. p x && g x) xs ≡ option_map_or g (find p xs) false
unfolding IsSingle
any_both p g [] single = refl
any_both {A} p g (x ∷ xs) single = by (p x) refl (any_both p g xs single.1)
  where
    by : (b : Bool) → p x ≡ b → list_any (λ y. p y && g y) xs ≡ option_map_or g (find p xs) false → list_any (λ y. p y && g y) (x ∷ xs) ≡ option_map_or g (find p (x ∷ xs)) false
    by true e rest = rw e (ap (λ b. g x || b) (none_both p g xs (single.0 e)) ∙ settled (g x))
    by false e rest = rw e rest

-- ---- places

pub any_found : {A : Type 0} (p : A → Bool) (xs : List A) → is_some (find p xs) ≡ list_any p xs
any_found p [] = refl
any_found {A} p (x ∷ xs) = by (p x) refl (any_found p xs)
  where
    by : (b : Bool) → p x ≡ b → is_some (find p xs) ≡ list_any p xs → is_some (find p (x ∷ xs)) ≡ list_any p (x ∷ xs)
    by true e rest = rw e refl
    by false e rest = rw e rest

pub place_is : {A : Type 0} (p : A → Bool) (xs : List A) (i : ℕ) → position p xs ≡ Some i → (position_or_len p xs ≡ i) × (i < length xs)
place_is p xs i h =
    let parts = cond_some (nat_lt (position_or_len p xs) (length xs)) (position_or_len p xs) i h in
    (parts.1, subst (λ n. n < length xs) parts.1 (ltb-true _ _ parts.0))

pub no_place : {A : Type 0} (p : A → Bool) (xs : List A) → position p xs ≡ None → list_any p xs ≡ false
no_place p xs h = sym (any_found p xs) ∙ ap is_some (find-no_place p xs h)

-- what START and STOP leave
pub changed_at : {A : Type 0} (p : A → Bool) (f : A → A) (xs : List A) (i : ℕ) (d : A) → IsSingle p xs → position p xs ≡ Some i
    → map (λ x. cond (p x) (f x) x) xs ≡ set xs i (f (get_or xs i d))
changed_at p f xs i d single h =
    subst (λ n. map (λ x. cond (p x) (f x) x) xs ≡ set xs n (f (get_or xs n d))) (place_is p xs i h).0 (one_changes p f xs d single)

-- what DROP leaves
pub gone_at : {A : Type 0} (p : A → Bool) (xs : List A) (i : ℕ) → IsSingle p xs → position p xs ≡ Some i → filter (λ x. not (p x)) xs ≡ remove xs i
gone_at p xs i single h = subst (λ n. filter (λ x. not (p x)) xs ≡ remove xs n) (place_is p xs i h).0 (one_goes p xs single)

-- ---- a test that agrees with another

any_agrees : {A : Type 0} (p q : A → Bool) (xs : List A) → AllByRecursion (λ x. p x ≡ q x) xs → list_any p xs ≡ list_any q xs
any_agrees p q [] h = refl
any_agrees p q (x ∷ xs) h = λ i. h.0 i || any_agrees p q xs h.1 i

prefix_agrees : {A : Type 0} (p q : A → Bool) (xs : List A) → AllByRecursion (λ x. p x ≡ q x) xs → position_or_len p xs ≡ position_or_len q xs
prefix_agrees p q [] h = refl
prefix_agrees p q (x ∷ xs) h = λ i. cond (not (h.0 i)) (1 + prefix_agrees p q xs h.1 i) 0

pub place_agrees : {A : Type 0} (p q : A → Bool) (xs : List A) → AllByRecursion (λ x. p x ≡ q x) xs → position p xs ≡ position q xs
place_agrees p q xs h =
    let e : position_or_len p xs ≡ position_or_len q xs = prefix_agrees p q xs h in
    λ i. cond (nat_lt (e i) (length xs)) (Some (e i)) None

pub single_agrees : {A : Type 0} (p q : A → Bool) (xs : List A) → AllByRecursion (λ x. p x ≡ q x) xs → IsSingle p xs → IsSingle q xs
unfolding IsSingle
single_agrees p q [] h single = tt
single_agrees p q (x ∷ xs) h single = (λ e. sym (any_agrees p q xs h.1) ∙ single.0 (h.0 ∙ e), single_agrees p q xs h.1 single.1)

-- ---- keys of which no two are equal

single_view : {A B : Type 0} (f : A → B) (p : B → Bool) (xs : List A) → IsSingle p (map f xs) → IsSingle (λ x. p (f x)) xs
unfolding IsSingle
single_view f p [] single = tt
single_view f p (x ∷ xs) single = (λ e. sym (list_any-map p f xs) ∙ single.0 e, single_view f p xs single.1)

module _ {K : Type 0} (f : K → List ℕ) (eq : K → K → Bool) (same : (x y : K) → eq x y ≡ bytes_eq (f x) (f y)) where
  none_equal : (k : K) (ks : List K) → AllByRecursion (λ y. eq k y ≡ false) ks → list_any (bytes_eq (f k)) (map f ks) ≡ false
  none_equal k [] h = refl
  none_equal k (y ∷ ks) h = λ i. (sym (same k y) ∙ h.0) i || none_equal k ks h.1 i

  distinct_single : (q : List ℕ) (ks : List K) → IsDistinct eq ks → IsSingle (bytes_eq q) (map f ks)
  unfolding IsSingle
  distinct_single q [] h = tt
  distinct_single q (k ∷ ks) h = (
    λ e. ap (λ b. list_any (bytes_eq b) (map f ks)) ((bytes_eq-Decides q (f k)).0 e) ∙ none_equal k ks (IsDistinct-head eq k ks h),
    distinct_single q ks (IsDistinct-tail eq k ks h),
  )

  -- items that stand under such keys: one at most under the same bytes
  pub keyed_single : {A : Type 0} (g : A → List ℕ) (ks : List K) (xs : List A) → map f ks ≡ map g xs → IsDistinct eq ks → (q : List ℕ) → IsSingle (λ x. bytes_eq q (g x)) xs
  keyed_single g ks xs e h q = single_view g (bytes_eq q) xs (subst (IsSingle (bytes_eq q)) e (distinct_single q ks h))

-- ---- lists without an item, and with one in another's place

pub map-remove : {A B : Type 0} (f : A → B) (xs : List A) (i : ℕ) → map f (remove xs i) ≡ remove (map f xs) i
map-remove f [] zero = refl
map-remove f [] (suc i) = refl
map-remove f (x ∷ xs) zero = refl
map-remove f (x ∷ xs) (suc i) = ap (λ l. f x ∷ l) (map-remove f xs i)

pub all_remove : {A : Type 0} (P : A → Type 0) (xs : List A) (i : ℕ) → AllByRecursion P xs → AllByRecursion P (remove xs i)
all_remove P [] zero h = tt
all_remove P [] (suc i) h = tt
all_remove P (x ∷ xs) zero h = h.1
all_remove P (x ∷ xs) (suc i) h = (h.0, all_remove P xs i h.1)

pub all_set : {A : Type 0} (P : A → Type 0) (xs : List A) (i : ℕ) (y : A) → P y → AllByRecursion P xs → AllByRecursion P (set xs i y)
all_set P [] i y k h = tt
all_set P (x ∷ xs) zero y k h = (k, h.1)
all_set P (x ∷ xs) (suc i) y k h = (h.0, all_set P xs i y k h.1)

pub all_at : {A : Type 0} (P : A → Type 0) (xs : List A) (i : ℕ) (d : A) → i < length xs → AllByRecursion P xs → P (get_or xs i d)
all_at P [] i d lt h = absurd (omega arith)
all_at P (x ∷ xs) zero d lt h = h.0
all_at P (x ∷ xs) (suc i) d lt h = all_at P xs i d (omega arith) h.1
