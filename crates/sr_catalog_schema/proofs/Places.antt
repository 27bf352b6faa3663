-- Where a thing of a name stands.
use Rattle.std.proofs.Common.{◌≡◌, ℕ, Bool, true, false, cond, List, [], ◌∷◌, ◌++◌, length, map, Some, None, refl, ap, sym, ◌∙◌, arith, find, slice_get, position}
use Rattle.std.proofs.lemmas.List.Folds.{find_at}
use Rattle.std.proofs.lemmas.Option.{slice_get_past}
use Rattle.std.specs.Prelude.{◌+◌, ◌||◌, nat_lt, not, bytes_eq}
use Rattle.std.specs.List.{position_or_len, prefix_len, list_any}
use Rattle.std.specs.Option.{is_some}
use Rattle.std.proofs.lemmas.Bool.Decides.{same_from_decides}
use Rattle.std.proofs.lemmas.List.{length-map}
use Rattle.std.proofs.lemmas.Slice.Eq.{bytes_eq-Decides}

-- the place by a view of the items
pub prefix_len-map : {A B : Type 0} (q : B → Bool) (f : A → B) (xs : List A) → prefix_len q (map f xs) ≡ prefix_len (λ x. q (f x)) xs
prefix_len-map q f [] = refl
prefix_len-map q f (x ∷ xs) = ap (λ n. cond (q (f x)) (1 + n) 0) (prefix_len-map q f xs)

pub position-map : {A B : Type 0} (q : B → Bool) (f : A → B) (xs : List A) → position q (map f xs) ≡ position (λ x. q (f x)) xs
position-map q f xs =
    let e : position_or_len q (map f xs) ≡ position_or_len (λ x. q (f x)) xs = prefix_len-map (λ y. not (q y)) f xs in
    let l : length (map f xs) ≡ length xs = length-map xs f in
    λ i. cond (nat_lt (e i) (l i)) (Some (e i)) None

-- two lists with the same names have a name at the same place
pub position-names : {A B : Type 0} (f : A → List ℕ) (g : B → List ℕ) (name : List ℕ) (xs : List A) (ys : List B) → map f xs ≡ map g ys
    → position (λ x. bytes_eq name (f x)) xs ≡ position (λ y. bytes_eq name (g y)) ys
position-names f g name xs ys same =
    sym (position-map (bytes_eq name) f xs) ∙ (ap (position (bytes_eq name)) same ∙ position-map (bytes_eq name) g ys)

pub find-no_place : {A : Type 0} (p : A → Bool) (xs : List A) → position p xs ≡ None → find p xs ≡ None
find-no_place p xs h = grind (arith, find_at p xs, slice_get_past xs (position_or_len p xs))

pub find-place : {A : Type 0} (p : A → Bool) (xs : List A) (i : ℕ) → position p xs ≡ Some i → find p xs ≡ slice_get xs i
find-place p xs i h = grind (arith, find_at p xs)

-- a test of the items through a view of them
pub list_any-map : {A B : Type 0} (q : B → Bool) (f : A → B) (xs : List A) → list_any q (map f xs) ≡ list_any (λ x. q (f x)) xs
list_any-map q f [] = refl
list_any-map q f (x ∷ xs) = ap (λ b. q (f x) || b) (list_any-map q f xs)

pub double_not : (b : Bool) → not (not b) ≡ b
double_not true = refl
double_not false = refl

-- whether a name is taken, by another list with the same names
pub taken-names : {A B : Type 0} (f : A → List ℕ) (g : B → List ℕ) (name : List ℕ) (xs : List A) (ys : List B) → map f xs ≡ map g ys
    → list_any (λ x. bytes_eq name (f x)) xs ≡ list_any (λ y. bytes_eq name (g y)) ys
taken-names f g name xs ys same = sym (list_any-map (bytes_eq name) f xs) ∙ (ap (list_any (bytes_eq name)) same ∙ list_any-map (bytes_eq name) g ys)

-- a thing is found where there is one
pub found_as_taken : {A : Type 0} (p : A → Bool) (xs : List A) → list_any p xs ≡ is_some (find p xs)
found_as_taken p [] = refl
found_as_taken p (x ∷ xs) = elim (p x) as (λ b. (b || list_any p xs) ≡ is_some (cond b (Some x) (find p xs))) [
  | true ↦ refl
  | false ↦ found_as_taken p xs
]

-- what is found is found with more behind it
pub find_more : {A : Type 0} (p : A → Bool) (xs ys : List A) → list_any p xs ≡ true → find p (xs ++ ys) ≡ find p xs
find_more p [] ys h = absurd (cc)
find_more p (x ∷ xs) ys h = elim (p x) as (λ b. (b || list_any p xs) ≡ true → cond b (Some x) (find p (xs ++ ys)) ≡ cond b (Some x) (find p xs)) [
  | true ↦ λ t. refl
  | false ↦ λ t. find_more p xs ys t
] h

pub taken_more : {A : Type 0} (p : A → Bool) (xs ys : List A) → list_any p xs ≡ true → list_any p (xs ++ ys) ≡ true
taken_more p [] ys h = absurd (cc)
taken_more p (x ∷ xs) ys h = elim (p x) as (λ b. (b || list_any p xs) ≡ true → (b || list_any p (xs ++ ys)) ≡ true) [
  | true ↦ λ t. refl
  | false ↦ λ t. taken_more p xs ys t
] h

-- names compare alike in either order
pub flipped : (a b : List ℕ) → bytes_eq a b ≡ bytes_eq b a
flipped a b = same_from_decides {P = a ≡ b} _ _ (bytes_eq-Decides a b) (λ h. sym ((bytes_eq-Decides b a).0 h), λ e. (bytes_eq-Decides b a).1 (sym e))
