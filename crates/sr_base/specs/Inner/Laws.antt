-- What the spellings of a type keep, whatever bytes follow them.
use Rattle.std.specs.Prelude.{◌≡◌, ℕ, List, ◌++◌, Ok}
use Rattle.sr_base.specs.Reading.{Read}
use Rattle.sr_base.specs.Inner.Reading.{IsBytes}

-- what is read is spelled so, each byte of it
abbrev pub ReadsSpellings : {A : Type 0} → (List ℕ → Read A) → (A → List ℕ) → (A → Type 0) → Type 0
ReadsSpellings {A} reading spelling fits = (bytes : List ℕ) (value : A) (rest : List ℕ) → IsBytes bytes → reading bytes ≡ Ok (value, rest) → (bytes ≡ spelling value ++ rest) × fits value

-- what is spelled is read, whatever follows it
abbrev pub ReadsAgain : {A : Type 0} → (List ℕ → Read A) → (A → List ℕ) → (A → Type 0) → Type 0
ReadsAgain {A} reading spelling fits = (value : A) (rest : List ℕ) → fits value → reading (spelling value ++ rest) ≡ Ok (value, rest)

-- bytes begin with one spelling at most
abbrev pub BeginsNoOther : {A : Type 0} → (A → List ℕ) → (A → Type 0) → Type 0
BeginsNoOther {A} spelling fits = (value other : A) (rest more : List ℕ) → fits value → fits other → spelling value ++ rest ≡ spelling other ++ more → (value ≡ other) × (rest ≡ more)
