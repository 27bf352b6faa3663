-- Things of one kind under their names.
use Rattle.std.specs.Prelude.{◌≡◌, ℕ, Bool, not, List, Option, find, filter, position, bytes_eq}
use Rattle.std.specs.List.{list_any}

module _ {T : Type 0} (name_of : T → List ℕ) where
  -- the thing of this name
  abbrev pub named : List ℕ → List T → Option T
  named name things = find (λ t. bytes_eq name (name_of t)) things

  -- its place
  abbrev pub place_of : List ℕ → List T → Option ℕ
  place_of name things = position (λ t. bytes_eq name (name_of t)) things

  -- whether there is one
  abbrev pub taken : List ℕ → List T → Bool
  taken name things = list_any (λ t. bytes_eq name (name_of t)) things

  -- the others, in their order
  abbrev pub without : List ℕ → List T → List T
  without name things = filter (λ t. not (bytes_eq name (name_of t))) things

  -- each name has the same first thing among some as among all
  abbrev pub HasFirsts : List T → List T → Type 0
  HasFirsts some all = (name : List ℕ) → named name some ≡ named name all
