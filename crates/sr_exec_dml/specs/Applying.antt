-- The rows of a database with changes applied.
use Rattle.std.specs.Prelude.{List, [], ◌∷◌, Option, Some, None}
use Rattle.std.specs.FinMap as map_of
use Rattle.sr_base.specs.declared.value.Value.{Value as Cell}
use Rattle.sr_rows.specs.Marks.{Place, RowMap}
use Rattle.sr_logform.specs.declared.change.Change.{Change}
use Rattle.sr_catalog_schema.specs.Catalogs.{Lists}
use Rattle.sr_catalog_schema.specs.declared.table.Table.{Table}
use Rattle.sr_exec_where.specs.Keys.{key_of}
use Rattle.sr_exec_dml.specs.Statements.{table_named}

-- where a row of a table stands: under its key
abbrev pub place_of : Table → List Cell → Place
place_of table row = (table.name, key_of table.key row)

-- a row goes, if there is one
abbrev pub without_row : Table → Option (List Cell) → RowMap → RowMap
without_row table None rows = rows
without_row table (Some row) rows = map_of.remove rows (place_of table row)

-- a row comes, if there is one
abbrev pub with_row : Table → Option (List Cell) → RowMap → RowMap
with_row table None rows = rows
with_row table (Some row) rows = map_of.insert rows (place_of table row) row

-- a change of a table: the row before goes, and then the row after comes. Nothing changes in a table that is not there
abbrev pub applied_in : Option Table → Change → RowMap → RowMap
applied_in None c rows = rows
applied_in (Some table) c rows = with_row table c.after (without_row table c.before rows)

-- changes, one after the other
abbrev pub applied : Lists → List Change → RowMap → RowMap
applied catalog [] rows = rows
applied catalog (c ∷ changes) rows = applied catalog changes (applied_in (table_named catalog c.table) c rows)
