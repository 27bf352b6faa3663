-- Reading a field from the front of bytes, as a function on lists.
-- Here is what no contract of the program says by itself.
use Rattle.std.specs.Prelude.{◌≡◌, ℕ, ◌+◌, ◌<◌, ◌≤◌, List, ◌++◌, length, drop, slice_index, Result, Ok, Err}
use Rattle.sr_base.specs.declared.broken.Broken.{Broken}
use Rattle.sr_base.specs.declared.broken.Broken.TheVariants as broken
use Rattle.sr_base.specs.declared.broken.Bad.{Bad}
use Rattle.sr_base.specs.declared.broken.Bad.TheVariants as bad
use Rattle.sr_base.specs.Reading.{Read}

-- a reader broke where reading breaks, or found no memory
abbrev pub Fails : {Y : Type 0} → Broken → Result Y ℕ → Type 0
Fails broken.Memory read = Unit {0}
Fails (broken.Left left) read = read ≡ Err left

-- what a reader returned, seen by `view`, is what reading gives, unless it found no memory
abbrev pub Gives : {X Y : Type 0} → (X → Y) → Result X Broken → Result Y ℕ → Type 0
Gives view (Ok x) read = read ≡ Ok (view x)
Gives view (Err fault) read = Fails fault read

-- each number is a byte
abbrev pub IsBytes : List ℕ → Type 0
IsBytes bytes = (i : ℕ) → slice_index bytes i < 256

-- the bytes are this spelling and then these bytes
pub record Takes (bytes spelling rest : List ℕ) : Type 0 where
  pub parts : bytes ≡ spelling ++ rest
  pub rest_fits : IsBytes rest

-- it breaks, if it does, where at most so many bytes are left
pub record IsWithin {A : Type 0} (read : Result A ℕ) (bound : ℕ) : Type 0 where
  pub breaks : (left : ℕ) → read ≡ Err left → left ≤ bound

-- a format: what is read is spelled so, what is spelled so is read, whatever follows it, and a field that breaks stands in the bytes
pub record IsFormat {A : Type 0} (reading : List ℕ → Read A) (spelling : A → List ℕ) (fits : A → Type 0) : Type 0 where
  pub takes : (bytes : List ℕ) (value : A) (rest : List ℕ) → IsBytes bytes → reading bytes ≡ Ok (value, rest) → Takes bytes (spelling value) rest × fits value
  pub again : (value : A) (rest : List ℕ) → fits value → reading (spelling value ++ rest) ≡ Ok (value, rest)
  pub within : (bytes : List ℕ) → IsBytes bytes → IsWithin (reading bytes) (length bytes)

-- the spelling stands at the front of the bytes, and so many bytes are its own
pub record BeginsWith (bytes spelling : List ℕ) (taken : ℕ) : Type 0 where
  pub taken_all : taken ≡ length spelling
  pub prefix : bytes ≡ spelling ++ drop taken bytes

-- the value was read, with so many bytes, unless there was no memory
abbrev pub IsReadAs : {X : Type 0} → Result (X × ℕ) Bad → X → ℕ → Type 0
IsReadAs (Ok (found, taken)) value size = (found ≡ value) × (taken ≡ size)
IsReadAs (Err bad.Memory) value size = Unit {0}
IsReadAs (Err (bad.Field at)) value size = ⊥

-- the place at which reading breaks in bytes of this length, or no memory
abbrev pub IsBad : {Y : Type 0} → Result Y ℕ → ℕ → Bad → Type 0
IsBad read length_of bad.Memory = Unit {0}
IsBad read length_of (bad.Field at) = (left : ℕ) × (read ≡ Err left) × (at + left ≡ length_of)
