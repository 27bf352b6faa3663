-- The first that applies, in the order of the statement's text.
use Rattle.std.specs.Prelude.{ℕ, Bool, not, cond, List, [], ◌∷◌, ◌++◌, Option, Some, None, bytes_eq}
use Rattle.std.specs.List.{list_any}

-- the first of two that is there
abbrev pub first_of : {A : Type 0} → Option A → Option A → Option A
first_of None b = b
first_of (Some a) b = Some a

-- what the first gives that gives something
abbrev pub first_among : {A B : Type 0} → (A → Option B) → List A → Option B
first_among f [] = None
first_among f (x ∷ xs) = first_of (f x) (first_among f xs)

-- this, where it applies
abbrev pub where_true : {A : Type 0} → Bool → A → Option A
where_true applies x = cond applies (Some x) None

-- whether a name is among names
abbrev pub has : List (List ℕ) → List ℕ → Bool
has names name = list_any (λ n. bytes_eq name n) names

-- the first name that stands before it already, among these or in the list
abbrev pub first_again : List (List ℕ) → List (List ℕ) → Option (List ℕ)
first_again before [] = None
first_again before (n ∷ ns) = first_of (where_true (has before n) n) (first_again (before ++ n ∷ []) ns)

-- the first name that is named twice
abbrev pub first_twice : List (List ℕ) → Option (List ℕ)
first_twice names = first_again [] names

-- the first name that is not there
abbrev pub first_absent : (List ℕ → Bool) → List (List ℕ) → Option (List ℕ)
first_absent is_there names = first_among (λ n. where_true (not (is_there n)) n) names
