-- Copies of rows, table by table.
use Rattle.std.specs.Prelude.{◌≡◌, ℕ, List, None, if◌then◌else◌}
use Rattle.sr_base.specs.declared.value.Value.{Value as Cell}
use Rattle.sr_rows.specs.Marks.{RowMap, rows_of_table}
use Rattle.sr_receive_judged.specs.Inner.Judged.{is_among, or_there}

-- each row of these tables is there, and none besides
abbrev pub IsCopyOf : RowMap → List (List ℕ) → RowMap → Type 0
IsCopyOf rows names copy = (name : List ℕ) (key : List Cell) → rows_of_table copy name key ≡ (if is_among name names then rows_of_table rows name key else None)

-- the rows of a table came to those that were there
pub record HasCopied (rows : RowMap) (table : List ℕ) (before copy : RowMap) : Type 0 where
  pub table_is : (key : List Cell) → rows_of_table copy table key ≡ or_there (rows_of_table rows table key) (rows_of_table before table key)
  pub others : (name : List ℕ) (key : List Cell) → ¬ (name ≡ table) → rows_of_table copy name key ≡ rows_of_table before name key
