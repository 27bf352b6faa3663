-- A change of one table, by the rows that it has.
use Rattle.std.specs.Prelude.{◌≡◌, ⊤, List, Option, Some, None}
use Rattle.std.specs.List.{AllByRecursion}
use Rattle.std.specs.FinMap as map_of
use Rattle.sr_base.specs.declared.value.Value.{Value as Cell}
use Rattle.sr_book.specs.Entries.{Name}
use Rattle.sr_exec_dml.specs.Applying.{place_of}
use Rattle.sr_exec_fits.specs.Rows.{IsRow}
use Rattle.sr_exec_where.specs.Keys.{key_of}
use Rattle.sr_exec_dml.specs.Statements.{table_named}
use Rattle.sr_logform.specs.declared.change.Change.{Change}
use Rattle.sr_logform.specs.declared.outcome.Outcome.{Outcome}
use Rattle.sr_logform.specs.declared.outcome.Outcome.TheVariants as outcomes
use Rattle.sr_rows.specs.Marks.{RowMap}
use Rattle.sr_catalog_schema.specs.Catalogs.{Lists}
use Rattle.sr_catalog_schema.specs.declared.table.Table.{Table}

-- the rows before and after are two
abbrev pub Differs : Change → Type 0
Differs c = ¬ (c.before ≡ c.after)

-- the change of a row to another one, or to itself
abbrev pub change_of : Name → List Cell → List Cell → Change
change_of table before after = record { table = table; before = Some before; after = Some after }

-- the table, if there is one, is the catalog's
abbrev pub IsHeld : Lists → Option Table → Type 0
IsHeld catalog None = ⊤
IsHeld catalog (Some table) = table_named catalog table.name ≡ Some table

-- the row fits the table, and none stands under its key
pub record MayCome (table : Table) (row : List Cell) (rows : RowMap) : Type 0 where
  pub fits : IsRow table.columns row
  pub free : map_of.get rows (place_of table row) ≡ None

-- the row stands under its key
abbrev pub IsThere : Table → List Cell → RowMap → Type 0
IsThere table row rows = map_of.get rows (place_of table row) ≡ Some row

-- the row stands under its key, and the other one fits the table and has this key too
pub record MayBecome (table : Table) (before after : List Cell) (rows : RowMap) : Type 0 where
  pub there : IsThere table before rows
  pub fits : IsRow table.columns after
  pub key : key_of table.key before ≡ key_of table.key after

-- the key, where it is so
abbrev pub KeyWhere : Type 0 → List Cell → Option (List Cell) → Type 0
KeyWhere so key None = ¬ so
KeyWhere so key (Some found) = so × (found ≡ key)

-- the rows before and after are two in each change of an outcome
abbrev pub OutcomeDiffers : Outcome → Type 0
OutcomeDiffers (outcomes.Plain changes) = AllByRecursion Differs changes
OutcomeDiffers (outcomes.Conflict inserts before after) = AllByRecursion Differs inserts
OutcomeDiffers (outcomes.Clash why) = ⊤
