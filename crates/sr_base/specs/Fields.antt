-- The bytes of numbers, names, texts, lists, options, pairs and triples, and how they are read.
use Rattle.std.specs.Prelude.{ℕ, ◌<◌, ◌^◌, Bool, nat_le, ◌&&◌, ℤ, IsTrue, List, [], ◌∷◌, ◌++◌, length, take, drop, Option, Some, None, Ok, Err, if◌then◌else◌}
use Rattle.std.specs.Int.{Width, w32, to_be_bytes, cast_unsigned}
use Rattle.std.specs.List.{flat_map, AllByRecursion}
use Rattle.std.specs.Str.{IsUtf8}
use Rattle.sr_base.specs.Names.{is_lower_name}
use Rattle.sr_base.specs.Reading.{Read, ◌>>=◌}

-- ---- numbers, big-endian; a number breaks at its first byte

abbrev pub byte_at : List ℕ → Read ℕ
byte_at [] = Err 0
byte_at (byte ∷ rest) = Ok (byte, rest)

-- a signed number, in two's complement
abbrev pub signed_spelling : Width → ℤ → List ℕ
signed_spelling w number = to_be_bytes w (cast_unsigned w number)

-- ---- lists: a u32 count, then the items; an item that breaks breaks at its own field

abbrev pub list_spelling : {A : Type 0} → (A → List ℕ) → List A → List ℕ
list_spelling item items = to_be_bytes w32 (length items) ++ flat_map item items

-- fewer than 2 ^ 32 items, and each of them has what an item has
abbrev pub IsListOf : {A : Type 0} → (A → Type 0) → List A → Type 0
IsListOf item items = (length items < 2 ^ 32) × AllByRecursion item items

-- ---- bytes: a u32 length, then so many bytes; a length that is too long breaks

abbrev pub bytes_spelling : List ℕ → List ℕ
bytes_spelling bytes = to_be_bytes w32 (length bytes) ++ bytes

-- ---- texts: bytes that are UTF-8; other bytes break at their first one

pub record IsText (text : List ℕ) : Type 0 where
  pub short : length text < 2 ^ 32
  pub utf8 : IsUtf8 text

-- ---- names: a u8 length from 1 to 64, then the bytes of a lower-case name; a length that is 0, past 64 or too long breaks,
-- ---- and bytes that are no lower-case name break at their first one

abbrev pub IsName : List ℕ → Type 0
IsName name = IsTrue (is_lower_name name)

abbrev pub name_spelling : List ℕ → List ℕ
name_spelling name = length name ∷ name

-- a length of a name, with so many bytes behind it
abbrev pub is_name_size : ℕ → ℕ → Bool
is_name_size size behind = nat_le 1 size && nat_le size 64 && nat_le size behind

unfoldable pub name_at : List ℕ → Read (List ℕ)
name_at bytes = do
  size ← byte_at bytes
  if is_name_size size.0 (length size.1) then (if is_lower_name (take size.0 size.1) then Ok (take size.0 size.1, drop size.0 size.1) else Err (length size.1)) else Err (length bytes)

-- ---- options: a byte 0, or a byte 1 and the value; any other byte breaks

abbrev pub option_spelling : {A : Type 0} → (A → List ℕ) → Option A → List ℕ
option_spelling item None = 0 ∷ []
option_spelling item (Some value) = 1 ∷ item value

-- ---- pairs and triples: one part after the other

abbrev pub pair_spelling : {A B : Type 0} → (A → List ℕ) → (B → List ℕ) → A × B → List ℕ
pair_spelling first second pair = first pair.0 ++ second pair.1

abbrev pub triple_spelling : {A B C : Type 0} → (A → List ℕ) → (B → List ℕ) → (C → List ℕ) → A × B × C → List ℕ
triple_spelling first second third triple = first triple.0 ++ second triple.1 ++ third triple.2
