-- The bytes of offsets and rows, and how they are read.
-- Here is what no contract of the program says by itself.
use Rattle.std.specs.Prelude.{ℕ, List}
use Rattle.std.specs.Int.{w64}
use Rattle.sr_base.specs.declared.offset.Offset.{Offset}
use Rattle.sr_base.specs.declared.value.Value.{Value}
use Rattle.sr_base.specs.Fields.{IsListOf}
use Rattle.sr_base.specs.Reading.{Read, number_at, list_at, mapped_at, value_at}
use Rattle.sr_base.specs.Values.{offset_from, IsValue}

abbrev pub offset_at : List ℕ → Read Offset
offset_at = mapped_at offset_from (number_at w64)

abbrev pub IsRow : List Value → Type 0
IsRow row = IsListOf IsValue row

abbrev pub row_at : List ℕ → Read (List Value)
row_at = list_at value_at
