-- A conflict, and what the triggers that it fires make of it.
use Rattle.std.specs.Prelude.{ℕ, List, [], ◌∷◌, ◌++◌}
use Rattle.sr_base.specs.declared.value.Kind.{Kind}
use Rattle.sr_base.specs.declared.value.Value.{Value as Cell}
use Rattle.sr_ast.specs.declared.create.CreateTrigger.{CreateTrigger}
use Rattle.sr_ast.specs.declared.create.Image.{Image}
use Rattle.sr_ast.specs.declared.create.Image.TheVariants.{Old, New, Remote}
use Rattle.sr_eval.specs.Bounds.{IsRowOf}
use Rattle.sr_exec_fits.specs.Rows.{IsRow}
use Rattle.sr_logform.specs.declared.change.Change.{Change}
use Rattle.sr_rows.specs.Marks.{RowMap}
use Rattle.sr_catalog_schema.specs.Catalogs.{Lists}
use Rattle.sr_catalog_schema.specs.Members.{scope_of}
use Rattle.sr_catalog_schema.specs.declared.table.Table.{Table}
use Rattle.sr_catalog_triggers.specs.Triggers.{variables_scope}

-- what is there before the update: the catalog and the rows, the table of the update, the row that is stored, and the row of the values
-- that the other side took for the stored ones, NULL where it names none
pub record UpdateConflict : Type 0 where
  pub catalog : Lists
  pub rows : RowMap
  pub table : Table
  pub stored : List Cell
  pub remote : List Cell

-- what triggers change: the row that is to stand, the variables of the trigger that runs, and the rows that were inserted, under their
-- keys and as changes in order
pub record Bindings : Type 0 where
  pub new : List Cell
  pub variables : List Cell
  pub added : RowMap
  pub inserts : List Change

-- the row that an alias stands for
abbrev pub row_of : UpdateConflict → Bindings → Image → List Cell
row_of base bindings Old = base.stored
row_of base bindings New = bindings.new
row_of base bindings Remote = base.remote

-- the values of all that a trigger may name: its variables, and behind them the columns of each alias
abbrev pub alias_values : UpdateConflict → Bindings → List (Image × List ℕ) → List Cell
alias_values base bindings [] = []
alias_values base bindings (a ∷ aliases) = row_of base bindings a.0 ++ alias_values base bindings aliases

abbrev pub values_of : UpdateConflict → CreateTrigger → Bindings → List Cell
values_of base trigger bindings = bindings.variables ++ alias_values base bindings trigger.aliases

-- the stored row fits the table, and so does each value of the other side
pub record UpdateConflictFits (base : UpdateConflict) : Type 0 where
  pub stored : IsRow base.table.columns base.stored
  pub remote : IsRowOf (scope_of base.table) base.remote

-- the row that is to stand fits the table, and each variable holds a value of its type
pub record BindingsFits (base : UpdateConflict) (declared : List (List ℕ × Kind)) (bindings : Bindings) : Type 0 where
  pub new : IsRow base.table.columns bindings.new
  pub variables : IsRowOf (variables_scope declared) bindings.variables
