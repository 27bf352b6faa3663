-- What stands in lists that are made of others.
use Rattle.std.proofs.Common.{◌≡◌, ◌⊎◌, ℕ, zero, suc, ◌<◌, Bool, true, false, ◌||◌, cond, List, [], ◌∷◌, ◌++◌, length, get_or, Option, Some, None, refl, ap, inl, inr, subst, arith, find, filter_map, flat_map, map, ◌∙◌}
use Rattle.std.specs.List.{Contains, list_any, cons_option}

-- an item stands in a list
abbrev pub In : {A : Type 0} → List A → A → Type 0
In [] x = ⊥
In (y ∷ ys) x = (y ≡ x) ⊎ In ys x

pub contains_from_in : {A : Type 0} (xs : List A) (x : A) → In xs x → Contains xs x
contains_from_in [] x h = absurd h
contains_from_in (y ∷ ys) x (inl e) = (0, omega arith, e)
contains_from_in (y ∷ ys) x (inr h) = let rest = contains_from_in ys x h in let l : rest.0 < length ys = rest.1 in (suc rest.0, omega arith, rest.2)

in_at : {A : Type 0} (xs : List A) (x : A) (k : ℕ) → k < length xs → get_or xs k x ≡ x → In xs x
in_at [] x k l e = absurd (omega arith)
in_at (y ∷ ys) x zero l e = inl e
in_at (y ∷ ys) x (suc k) l e = inr (in_at ys x k (omega arith) e)

pub in_from_contains : {A : Type 0} (xs : List A) (x : A) → Contains xs x → In xs x
in_from_contains xs x h = in_at xs x h.0 h.1 h.2

pub in_left : {A : Type 0} (xs ys : List A) (x : A) → In xs x → In (xs ++ ys) x
in_left [] ys x h = absurd h
in_left (z ∷ xs) ys x (inl e) = inl e
in_left (z ∷ xs) ys x (inr h) = inr (in_left xs ys x h)

pub in_right : {A : Type 0} (xs ys : List A) (x : A) → In ys x → In (xs ++ ys) x
in_right [] ys x h = h
in_right (z ∷ xs) ys x h = inr (in_right xs ys x h)

pub in_either : {A : Type 0} (xs ys : List A) (x : A) → In (xs ++ ys) x → In xs x ⊎ In ys x
in_either [] ys x h = inr h
in_either (z ∷ xs) ys x (inl e) = inl (inl e)
in_either (z ∷ xs) ys x (inr h) = go (in_either xs ys x h) where
  go : In xs x ⊎ In ys x → In (z ∷ xs) x ⊎ In ys x
  go (inl a) = inl (inr a)
  go (inr b) = inr b

-- an item before a list that may have it
in_cons : {A : Type 0} (o : Option A) (xs : List A) (x : A) → In xs x → In (cons_option o xs) x
in_cons None xs x h = h
in_cons (Some y) xs x h = inr h

pub in_filter_map : {A B : Type 0} (f : A → Option B) (xs : List A) (x : A) (y : B) → In xs x → f x ≡ Some y → In (filter_map f xs) y
in_filter_map f [] x y h e = absurd h
in_filter_map {A} {B} f (z ∷ xs) x y (inl same) e = first (f z) (ap f same ∙ e) where
  first : (o : Option B) → o ≡ Some y → In (cons_option o (filter_map f xs)) y
  first None is = cc
  first (Some w) is = inl (let e : w ≡ y = cc in e)
in_filter_map f (z ∷ xs) x y (inr h) e = in_cons (f z) (filter_map f xs) y (in_filter_map f xs x y h e)

-- what stands in what was made passed a test that each item made passes
pub all_made : {A B : Type 0} (P : B → Type 0) (f : A → Option B) (xs : List A) → ((x : A) (y : B) → f x ≡ Some y → P y) → (y : B) → In (filter_map f xs) y → P y
all_made P f [] each y h = absurd h
all_made {A} {B} P f (x ∷ xs) each y h = go (f x) refl (all_made P f xs each y) h where
  go : (o : Option B) → f x ≡ o → (In (filter_map f xs) y → P y) → In (cons_option o (filter_map f xs)) y → P y
  go None e rest i = rest i
  go (Some w) e rest (inl same) = subst P same (each x w e)
  go (Some w) e rest (inr i) = rest i

pub all_flat : {A B : Type 0} (P : B → Type 0) (f : A → List B) (xs : List A) → ((x : A) (y : B) → In (f x) y → P y) → (y : B) → In (flat_map f xs) y → P y
all_flat P f [] each y h = absurd h
all_flat {A} {B} P f (x ∷ xs) each y h = go (all_flat P f xs each y) (in_either (f x) (flat_map f xs) y h) where
  go : (In (flat_map f xs) y → P y) → In (f x) y ⊎ In (flat_map f xs) y → P y
  go rest (inl i) = each x y i
  go rest (inr i) = rest i

-- a test that some item passes
pub record Passing {A : Type 0} (test : A → Bool) (xs : List A) : Type 0 where
  pub item : A
  pub there : In xs item
  pub passes : test item ≡ true

pub some_passes : {A : Type 0} (test : A → Bool) (xs : List A) → list_any test xs ≡ true → Passing test xs
some_passes test [] e = cc
some_passes {A} test (x ∷ xs) e = go (test x) refl (some_passes test xs) e where
  go : (b : Bool) → test x ≡ b → (list_any test xs ≡ true → Passing test xs) → (b || list_any test xs) ≡ true → Passing test (x ∷ xs)
  go true is rest h = record { item = x; there = inl refl; passes = is }
  go false is rest h = let one = rest h in record { item = one.item; there = inr one.there; passes = one.passes }

pub found_there : {A : Type 0} (test : A → Bool) (xs : List A) (x : A) → find test xs ≡ Some x → In xs x × (test x ≡ true)
found_there test [] x e = cc
found_there {A} test (y ∷ ys) x e = go (test y) refl (found_there test ys x) e where
  go : (b : Bool) → test y ≡ b → (find test ys ≡ Some x → In ys x × (test x ≡ true)) → cond b (Some y) (find test ys) ≡ Some x → In (y ∷ ys) x × (test x ≡ true)
  go true is rest h = let same : y ≡ x = cc in (inl same, subst (λ (z : A). test z ≡ true) same is)
  go false is rest h = let one = rest h in (inr one.0, one.1)

pub in_map : {A B : Type 0} (f : A → B) (xs : List A) (x : A) → In xs x → In (map f xs) (f x)
in_map f [] x h = absurd h
in_map f (y ∷ ys) x (inl e) = inl (ap f e)
in_map f (y ∷ ys) x (inr h) = inr (in_map f ys x h)

pub all_mapped_to : {A B : Type 0} (P : B → Type 0) (f : A → B) (xs : List A) → ((x : A) → P (f x)) → (y : B) → In (map f xs) y → P y
all_mapped_to P f [] each y h = absurd h
all_mapped_to P f (x ∷ xs) each y (inl e) = subst P e (each x)
all_mapped_to P f (x ∷ xs) each y (inr h) = all_mapped_to P f xs each y h
