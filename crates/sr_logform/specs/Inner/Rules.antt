-- Fields that keep a rule besides, and the rules.
-- Here is what no contract of the program says by itself.
use Rattle.std.specs.Prelude.{ℕ, Bool, true, false, not, ◌&&◌, List, [], ◌∷◌, length, map, Ok, Err, if◌then◌else◌}
use Rattle.std.specs.List.{list_all}
use Rattle.std.specs.Str.{bytes_eq}
use Rattle.sr_base.specs.Reading.{Read, ◌>>=◌, list_at}

-- a field that breaks at its own first byte where its value fails a test
unfoldable pub checked_at : {A : Type 0} → (A → Bool) → (List ℕ → Read A) → List ℕ → Read A
checked_at test item bytes = do
  value ← item bytes
  if test value.0 then Ok value else Err (length bytes)

-- ---- a list that is not empty

abbrev pub is_filled : {A : Type 0} → List A → Bool
is_filled [] = false
is_filled (x ∷ xs) = true

-- it breaks at its count where it is empty
unfoldable pub filled_at : {A : Type 0} → (List ℕ → Read A) → List ℕ → Read (List A)
filled_at item = checked_at is_filled (list_at item)

-- ---- names of which none stands twice

-- whether a name is not among others
abbrev pub is_absent : List ℕ → List (List ℕ) → Bool
is_absent name names = list_all (λ other. not (bytes_eq name other)) names

abbrev pub are_distinct : List (List ℕ) → Bool
are_distinct [] = true
are_distinct (name ∷ names) = is_absent name names && are_distinct names

-- ---- columns: a list that is not empty, and names none of them twice

abbrev pub are_columns : {A : Type 0} → (A → List ℕ) → List A → Bool
are_columns name xs = is_filled xs && are_distinct (map name xs)

-- it breaks at its count where it is empty or names one twice
unfoldable pub columns_at : {A : Type 0} → (A → List ℕ) → (List ℕ → Read A) → List ℕ → Read (List A)
columns_at name item = checked_at (are_columns name) (list_at item)
