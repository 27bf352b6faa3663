-- What the triggers of a conflict leave.
use Rattle.std.specs.Prelude.{◌≡◌, List, Option, Some, None, IsSome}
use Rattle.std.specs.FinMap as map_of
use Rattle.std.specs.List.{AllByRecursion}
use Rattle.sr_base.specs.declared.value.Value.{Value as Cell}
use Rattle.sr_exec_dml.specs.Applying.{applied}
use Rattle.sr_exec_fits.specs.Rows.{IsRow}
use Rattle.sr_exec_dml.specs.FittingChanges.{ChangesFit}
use Rattle.sr_exec_where.specs.Keys.{key_of}
use Rattle.sr_logform.specs.declared.change.Change.{Change}
use Rattle.sr_rows.specs.Marks.{Place}
use Rattle.sr_resolve_triggers.specs.Bindings.{UpdateConflict}
use Rattle.sr_resolve_triggers.specs.declared.fired.Fired.{Fired}

-- a change that puts a row where none was
abbrev pub IsInserted : Change → Type 0
IsInserted c = (c.before ≡ None) × IsSome c.after

-- the row that is to stand fits its table and keeps its key; the inserts fit the rows; and each row that was there stays
pub record IsLeft (base : UpdateConflict) (first : List Cell) (f : Fired) : Type 0 where
  pub new : IsRow base.table.columns f.new
  pub key : key_of base.table.key f.new ≡ key_of base.table.key first
  pub inserts : ChangesFit base.catalog base.rows f.inserts
  pub inserted : AllByRecursion IsInserted f.inserts
  pub stay : (place : Place) (row : List Cell) → map_of.get base.rows place ≡ Some row
      → map_of.get (applied base.catalog f.inserts base.rows) place ≡ Some row
