-- The rows of tables, read from a file.
use Rattle.std.specs.Prelude.{◌≡◌, ◌<◌, ◌^◌, ◌⊎◌, ⊤, ℕ, List, [], ◌∷◌, length, Option, Some}
use Rattle.std.specs.FinMap.{insert}
use Rattle.std.specs.List.{flat_map}
use Rattle.sr_base.specs.Fields.{IsListOf}
use Rattle.sr_base.specs.Reading.{list_at}
use Rattle.sr_base.specs.Values.{IsValue, row_spelling}
use Rattle.sr_base.specs.declared.value.Value.{Value as Cell}
use Rattle.sr_catalog_schema.specs.declared.table.Table.{Table}
use Rattle.sr_exec_where.specs.Keys.{key_of}
use Rattle.sr_exec_fits.specs.Rows.{IsRow}
use Rattle.sr_logform.specs.Entries.{table_spelling}
use Rattle.sr_rows.specs.Inner.Steps.{at_mark}
use Rattle.sr_rows.specs.Marks.{Marked, RowMap, rows_of_table}
use Rattle.sr_rows.specs.Walks.{table_rows}
use Rattle.sr_site.specs.Seen.{Seen}
use Rattle.sr_site.specs.declared.file.File.{File}
use Rattle.sr_snapshot.specs.Parts.{rows_of}
use Rattle.sr_snapshot.specs.declared.fault.SnapFault.{SnapFault}
use Rattle.sr_snapshot.specs.declared.fault.SnapFault.TheVariants.{Disk, Long, Damaged, Memory}
use Rattle.sr_snapshot_read.specs.Damages.{AreRead, IsPlaced, RowMisfits, FieldBreaks}
use Rattle.sr_snapshot_read.specs.Places.{value_in}
use Rattle.sr_snapshot_read.specs.Inner.Reading.{HasTaken}
use Rattle.sr_snapshot_read.specs.Inner.Views.{View}

-- a row is put under its key
abbrev pub with_row : RowMap → Table → List Cell → RowMap
with_row rows t row = insert rows (t.name, key_of t.key row) row

-- rows are put one after the other
abbrev pub with_rows : RowMap → Table → List (List Cell) → RowMap
with_rows rows t [] = rows
with_rows rows t (row ∷ found) = with_rows (with_row rows t row) t found

-- why a row, which stands at this place, has none in its table
abbrev pub RefusesRow : Table → Option (List Cell) → Option (List Cell) → ℕ → SnapFault → Type 0
RefusesRow t after found place Disk = ⊥
RefusesRow t after found place (Long size limit) = ⊥
RefusesRow t after found place (Damaged at) = (at ≡ place) × ((row : List Cell) → found ≡ Some row → ¬ (IsPlaced t after row))
RefusesRow t after found place Memory = ⊤

-- the next row was taken, and put under its key, which comes after the one before
pub record HasTakenPlaced (file : File) (t : Table) (before now : Seen) (old new : View) (after then : Option (List Cell)) (rows more : Marked) : Type 0 where
  pub row : List Cell
  pub taken : HasTaken file (row_spelling row) before now old new
  pub is : IsListOf IsValue row
  pub placed : IsPlaced t after row
  pub then_is : then ≡ Some (key_of t.key row)
  pub put : more ≡ at_mark (with_row rows.rows t row)

-- the next row breaks, or has no place
abbrev pub RowBreaks : Table → Option (List Cell) → List ℕ → ℕ → Type 0
RowBreaks t after bytes left = FieldBreaks (list_at value_in) bytes left ⊎ RowMisfits t after bytes left

-- so many rows were taken, and put under their keys
pub record HasTakenRows (file : File) (t : Table) (count : ℕ) (before now : Seen) (old new : View) (rows more : Marked) : Type 0 where
  pub found : List (List Cell)
  pub taken : HasTaken file (flat_map row_spelling found) before now old new
  pub are : AreRead t count found
  pub put : more ≡ at_mark (with_rows rows.rows t found)

-- a table was taken: its name, and its rows, which were put under their keys
pub record HasTakenTable (file : File) (t : Table) (before now : Seen) (old new : View) (rows more : Marked) : Type 0 where
  pub found : List (List Cell)
  pub taken : HasTaken file (table_spelling (t.name, found)) before now old new
  pub few : length found < 2 ^ 32
  pub are : AreRead t (length found) found
  pub put : more ≡ at_mark (with_rows rows.rows t found)

-- the rows of a table, by ascending key
abbrev pub its_rows : RowMap → Table → List (List Cell)
its_rows rows t = rows_of (table_rows rows t.name)

-- the rows of a table are such as were read
pub record IsReadTable (rows : RowMap) (t : Table) : Type 0 where
  pub few : length (its_rows rows t) < 2 ^ 32
  pub are : AreRead t (length (its_rows rows t)) (its_rows rows t)

-- a row fits its table, and stands under its key
pub record IsHeldBy (name : List ℕ) (key row : List Cell) (t : Table) : Type 0 where
  pub named : t.name ≡ name
  pub fits : IsRow t.columns row
  pub key_is : key_of t.key row ≡ key
  pub values : IsListOf IsValue row

-- one of these tables holds it so
abbrev pub IsHeldIn : List Table → List ℕ → List Cell → List Cell → Type 0
IsHeldIn [] name key row = ⊥
IsHeldIn (t ∷ ts) name key row = IsHeldBy name key row t ⊎ IsHeldIn ts name key row

-- each row is held so
abbrev pub AreHeldIn : List Table → RowMap → Type 0
AreHeldIn ts rows = (name : List ℕ) (key row : List Cell) → rows_of_table rows name key ≡ Some row → IsHeldIn ts name key row
