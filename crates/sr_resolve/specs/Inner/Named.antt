-- The columns and values that an op names, in the columns of its table. No op names a column twice.
-- Here is what no contract of the program says by itself.
use Rattle.std.specs.Prelude.{◌≡◌, Bool, false, List}
use Rattle.std.specs.Prelude.{Option, Some}
use Rattle.sr_base.specs.declared.value.Value.{Value as Cell}
use Rattle.sr_exec_fits.specs.Rows.{IsRow}
use Rattle.sr_catalog_schema.specs.declared.table.Column.{Column}
use Rattle.sr_resolve.specs.Named.{Updates, new_values, sets_null}

-- a stored row of these columns can take the new values of an update: they fit, and NULL stands only where it may
pub record CanTake (columns : List Column) (updates : Updates) (stored : List Cell) (news : List (Option Cell)) : Type 0 where
  pub above : Bool
  pub stored_fits : IsRow columns stored
  pub fit : new_values above updates columns ≡ Some news
  pub nulls : sets_null columns news ≡ false
