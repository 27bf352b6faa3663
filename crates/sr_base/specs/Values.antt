-- The bytes of days, values and rows, and how they are read.
use Rattle.std.specs.Prelude.{ℕ, ◌<◌, ◌^◌, FitsSigned, ⊤, List, [], ◌∷◌, length}
use Rattle.std.specs.Int.{w32, w64, to_be_bytes}
use Rattle.sr_base.specs.declared.offset.Offset.{Offset}
use Rattle.sr_base.specs.declared.value.Value.{Value}
use Rattle.sr_base.specs.declared.value.Value.TheVariants.{Null, Int, Big, Str, Date}
use Rattle.sr_base.specs.Days.{IsDay}
use Rattle.sr_base.specs.Fields.{signed_spelling, bytes_spelling, IsText, list_spelling}

-- ---- offsets: a u64

abbrev pub offset_from : ℕ → Offset
offset_from position = record { 0 = position }

abbrev pub offset_spelling : Offset → List ℕ
offset_spelling offset = to_be_bytes w64 offset.0

abbrev pub IsOffset : Offset → Type 0
IsOffset offset = offset.0 < 2 ^ 64

-- the farthest offset that a log may reach
abbrev pub farthest_offset : ℕ
farthest_offset = 2 ^ 62

-- ---- values: a tag byte, and what stands behind it

unfoldable pub value_spelling : Value → List ℕ
value_spelling Null = 0 ∷ []
value_spelling (Int number) = 1 ∷ signed_spelling w32 number
value_spelling (Big number) = 2 ∷ signed_spelling w64 number
value_spelling (Str text) = 3 ∷ bytes_spelling text
value_spelling (Date days) = 4 ∷ signed_spelling w32 days

unfoldable pub IsValue : Value → Type 0
IsValue Null = ⊤
IsValue (Int number) = FitsSigned w32 number
IsValue (Big number) = FitsSigned w64 number
IsValue (Str text) = IsText text
IsValue (Date days) = IsDay days

-- what has to be known of a value to write it: a text has fewer than 2 ^ 32 bytes
abbrev pub IsShort : Value → Type 0
IsShort Null = ⊤
IsShort (Int number) = ⊤
IsShort (Big number) = ⊤
IsShort (Str text) = length text < 2 ^ 32
IsShort (Date days) = ⊤

-- ---- rows and keys: lists of values

abbrev pub row_spelling : List Value → List ℕ
row_spelling row = list_spelling value_spelling row
