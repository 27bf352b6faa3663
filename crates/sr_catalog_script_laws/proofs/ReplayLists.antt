-- Items in order, items that stay, and things found by their names.
pub use Rattle.sr_catalog_schema.proofs.Places.{found_as_taken, find_more, taken_more}
use Rattle.std.proofs.Common.{◌≡◌, ℕ, ◌≤◌, Bool, true, false, cond, List, [], ◌∷◌, ◌++◌, length, map, Some, refl, ap, sym, ◌∙◌, subst, arith, append_assoc, append-nil, filter, find}
use Rattle.std.specs.Prelude.{nat_le, bytes_eq, not}
use Rattle.std.specs.List.{list_any, AllByRecursion}
use Rattle.std.specs.Option.{is_some}
use Rattle.std.proofs.lemmas.Bool.{or_parts, lt-leb, leb-false, false_from_ne_true}
use Rattle.std.proofs.lemmas.List.Elements.{filter-append}
use Rattle.std.proofs.lemmas.Slice.Eq.{bytes_eq-Decides}
use Rattle.sr_catalog_schema.specs.Names.{named, taken, without}
use Rattle.sr_catalog_script_laws.proofs.Standing.{InOrder, HasRoom}

-- ---- items in order

pub InOrder-append : {A : Type 0} (P : List A → A → Type 0) (before xs : List A) (x : A) → InOrder P before xs → P (before ++ xs) x → InOrder P before (xs ++ x ∷ [])
InOrder-append P before [] x all one = (subst (λ (b : List _). P b x) (append-nil before) one, tt)
InOrder-append P before (y ∷ ys) x (first, rest) one = (first, InOrder-append P (before ++ y ∷ []) ys x rest (subst (λ (b : List _). P b x) (sym (append_assoc before (y ∷ []) ys)) one))

filter_push : {A : Type 0} (keep : A → Bool) (before : List A) (x : A) → filter keep (before ++ x ∷ []) ≡ cond (keep x) (filter keep before ++ x ∷ []) (filter keep before)
filter_push keep before x = filter-append keep before (x ∷ []) ∙ elim (keep x) as (λ b. filter keep before ++ cond b (x ∷ []) [] ≡ cond b (filter keep before ++ x ∷ []) (filter keep before)) [
  | true ↦ refl
  | false ↦ append-nil (filter keep before)
]

stays_in_order : {A : Type 0} (P : List A → A → Type 0) (b : Bool) (before xs : List A) (x : A) → P before x → InOrder P (cond b (before ++ x ∷ []) before) xs → InOrder P before (cond b (x ∷ xs) xs)
stays_in_order P true before xs x one rest = (one, rest)
stays_in_order P false before xs x one rest = rest

-- the items that stay, where each does behind fewer
pub InOrder-filter : {A : Type 0} (P : List A → A → Type 0) (keep : A → Bool) → ((before : List A) (x : A) → P before x → P (filter keep before) x)
    → (before xs : List A) → InOrder P before xs → InOrder P (filter keep before) (filter keep xs)
InOrder-filter P keep fewer before [] all = tt
InOrder-filter P keep fewer before (x ∷ xs) (first, rest) =
    stays_in_order P (keep x) (filter keep before) (filter keep xs) x (fewer before x first)
    (subst (λ (b : List _). InOrder P b (filter keep xs)) (filter_push keep before x) (InOrder-filter P keep fewer (before ++ x ∷ []) xs rest))

-- each item with what holds of each
pub InOrder-with : {A : Type 0} (P : List A → A → Type 0) (Q : A → Type 0) (before xs : List A) → InOrder P before xs → AllByRecursion Q xs → InOrder (λ b x. P b x × Q x) before xs
InOrder-with P Q before [] all each = tt
InOrder-with P Q before (x ∷ xs) (first, rest) (one, others) = ((first, one), InOrder-with P Q (before ++ x ∷ []) xs rest others)

-- ---- each item

pub AllByRecursion-append : {A : Type 0} (P : A → Type 0) (xs : List A) (x : A) → AllByRecursion P xs → P x → AllByRecursion P (xs ++ x ∷ [])
AllByRecursion-append P [] x all one = (one, tt)
AllByRecursion-append P (y ∷ ys) x (first, rest) one = (first, AllByRecursion-append P ys x rest one)

pub AllByRecursion-step : {A : Type 0} (P Q : A → Type 0) → ((x : A) → P x → Q x) → (xs : List A) → AllByRecursion P xs → AllByRecursion Q xs
AllByRecursion-step P Q step [] all = tt
AllByRecursion-step P Q step (x ∷ xs) (first, rest) = (step x first, AllByRecursion-step P Q step xs rest)

-- by two facts of each
pub AllByRecursion-both : {A : Type 0} (P Q R : A → Type 0) → ((x : A) → P x → Q x → R x) → (xs : List A) → AllByRecursion P xs → AllByRecursion Q xs → AllByRecursion R xs
AllByRecursion-both P Q R step [] all each = tt
AllByRecursion-both P Q R step (x ∷ xs) (first, rest) (one, others) = (step x first one, AllByRecursion-both P Q R step xs rest others)

stays_each : {A : Type 0} (P : A → Type 0) (b : Bool) (xs : List A) (x : A) → P x → AllByRecursion P xs → AllByRecursion P (cond b (x ∷ xs) xs)
stays_each P true xs x one rest = (one, rest)
stays_each P false xs x one rest = rest

pub AllByRecursion-filter : {A : Type 0} (P : A → Type 0) (keep : A → Bool) (xs : List A) → AllByRecursion P xs → AllByRecursion P (filter keep xs)
AllByRecursion-filter P keep [] all = tt
AllByRecursion-filter P keep (x ∷ xs) (first, rest) = stays_each P (keep x) (filter keep xs) x first (AllByRecursion-filter P keep xs rest)

pub AllByRecursion-map : {A B : Type 0} (P : B → Type 0) (f : A → B) (xs : List A) → AllByRecursion (λ x. P (f x)) xs → AllByRecursion P (map f xs)
AllByRecursion-map P f [] all = tt
AllByRecursion-map P f (x ∷ xs) (first, rest) = (first, AllByRecursion-map P f xs rest)

pub AllByRecursion-unmap : {A B : Type 0} (P : B → Type 0) (f : A → B) (xs : List A) → AllByRecursion P (map f xs) → AllByRecursion (λ x. P (f x)) xs
AllByRecursion-unmap P f [] all = tt
AllByRecursion-unmap P f (x ∷ xs) (first, rest) = (first, AllByRecursion-unmap P f xs rest)

-- what none passes, each fails
pub none_passes : {A : Type 0} (p : A → Bool) (xs : List A) → list_any p xs ≡ false → AllByRecursion (λ x. p x ≡ false) xs
none_passes p [] h = tt
none_passes p (x ∷ xs) h = let parts = or_parts (p x) (list_any p xs) h in (parts.0, none_passes p xs parts.1)

pub map_alike : {A B : Type 0} (f g : A → B) (xs : List A) → AllByRecursion (λ x. f x ≡ g x) xs → map f xs ≡ map g xs
map_alike f g [] all = refl
map_alike f g (x ∷ xs) (first, rest) = cc (map_alike f g xs rest)

-- ---- fewer items

pub list_any-filter : {A : Type 0} (p keep : A → Bool) (xs : List A) → list_any p xs ≡ false → list_any p (filter keep xs) ≡ false
list_any-filter p keep [] h = refl
list_any-filter p keep (x ∷ xs) h =
    let parts = or_parts (p x) (list_any p xs) h in
    elim (keep x) as (λ b. list_any p (cond b (x ∷ filter keep xs) (filter keep xs)) ≡ false) [
      | true ↦ rw parts.0 (list_any-filter p keep xs parts.1)
      | false ↦ list_any-filter p keep xs parts.1
    ]

pub length-filter-le : {A : Type 0} (keep : A → Bool) (xs : List A) → length (filter keep xs) ≤ length xs
length-filter-le keep [] = omega arith
length-filter-le keep (x ∷ xs) =
    elim (keep x) as (λ b. length (cond b (x ∷ filter keep xs) (filter keep xs)) ≤ length (x ∷ xs)) [
      | true ↦ omega (arith, length-filter-le keep xs)
      | false ↦ omega (arith, length-filter-le keep xs)
    ]

-- there is room where there was for more
pub room_stays : (limit : ℕ) (m n : ℕ) → m ≤ n → nat_le limit n ≡ false → nat_le limit m ≡ false
room_stays limit m n h room = let below = leb-false limit n room in lt-leb limit m (omega arith)

pub HasRoom-filter : {T : Type 0} (name_of : T → List ℕ) (limit : ℕ) (keep : T → Bool) (before : List T) (x : T) → HasRoom name_of limit before x → HasRoom name_of limit (filter keep before) x
HasRoom-filter name_of limit keep before x room = record {
  is_new = list_any-filter _ keep before room.is_new;
  has_room = room_stays limit _ _ (length-filter-le keep before) room.has_room;
}

-- ---- things found by their names

-- what is found is found where what fails the test goes
pub find-filter : {A : Type 0} (p keep : A → Bool) → ((x : A) → p x ≡ true → keep x ≡ true) → (xs : List A) → find p (filter keep xs) ≡ find p xs
find-filter p keep stays [] = refl
find-filter p keep stays (x ∷ xs) =
    elim (keep x) as (λ b. keep x ≡ b → find p (cond b (x ∷ filter keep xs) (filter keep xs)) ≡ cond (p x) (Some x) (find p xs)) [
      | true ↦ λ e. ap (cond (p x) (Some x)) (find-filter p keep stays xs)
      | false ↦ λ e. rw (false_from_ne_true (p x) (λ h. absurd (cc (stays x h)))) (find-filter p keep stays xs)
    ] refl

other_stays : (n m name : List ℕ) → bytes_eq n m ≡ false → bytes_eq m name ≡ true → not (bytes_eq n name) ≡ true
other_stays n m name other h = rw (← (bytes_eq-Decides m name).0 h) (ap not other)

-- things of other names are found without those of a name
pub named-without : {T : Type 0} (name_of : T → List ℕ) (n m : List ℕ) (xs : List T) → bytes_eq n m ≡ false → named name_of m (without name_of n xs) ≡ named name_of m xs
named-without name_of n m xs other = find-filter _ _ (λ x h. other_stays n m (name_of x) other h) xs

pub taken-without : {T : Type 0} (name_of : T → List ℕ) (n m : List ℕ) (xs : List T) → bytes_eq n m ≡ false → taken name_of m (without name_of n xs) ≡ taken name_of m xs
taken-without name_of n m xs other =
    found_as_taken _ (without name_of n xs) ∙ (ap is_some (named-without name_of n m xs other) ∙ sym (found_as_taken _ xs))
