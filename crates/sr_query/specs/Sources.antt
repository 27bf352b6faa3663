-- The sources of a SELECT: their tables, their aliases and their columns.
use Rattle.std.specs.Prelude.{ℕ, List, [], ◌∷◌, ◌++◌, map, Option, Some, None, Result, Ok, Err}
use Rattle.sr_base.specs.declared.value.Value.{Value as Cell}
use Rattle.sr_ast.specs.declared.expr.Expr.{Expr}
use Rattle.sr_ast.specs.declared.query.Join.{Join}
use Rattle.sr_ast.specs.declared.query.Select.{Select}
use Rattle.sr_ast.specs.declared.query.Source.{Source}
use Rattle.sr_rows.specs.Marks.{RowMap}
use Rattle.sr_rows.specs.Walks.{table_rows}
use Rattle.sr_catalog_schema.specs.Catalogs.{Lists}
use Rattle.sr_catalog_schema.specs.declared.table.Table.{Table}
use Rattle.sr_catalog_schema.specs.declared.fault.DmlFault.{DmlFault}
use Rattle.sr_catalog_schema.specs.declared.fault.DmlFault.TheVariants.{NoTable}
use Rattle.sr_exec_where.specs.Checks.{Scope}
use Rattle.sr_exec_dml.specs.Sequences.{each}
use Rattle.sr_exec_dml.specs.Statements.{table_named}

-- the sources in FROM order
abbrev pub sources_of : Select → List Source
sources_of s = s.source ∷ map (λ (j : Join). j.source) s.joins

-- the conditions in the order of their tests: each ON, and then WHERE
abbrev pub where_of : Option Expr → List Expr
where_of None = []
where_of (Some e) = e ∷ []

abbrev pub conditions_of : Select → List Expr
conditions_of s = map (λ (j : Join). j.condition) s.joins ++ where_of s.condition

-- the name before the dot of a source's columns: its alias, or else the name of its table
abbrev pub alias_or : List ℕ → Option (List ℕ) → List ℕ
alias_or table None = table
alias_or table (Some alias) = alias

abbrev pub alias_of : Source → List ℕ
alias_of source = alias_or source.table source.alias

-- the columns of a source
abbrev pub scope_under : List ℕ → Table → Scope
scope_under alias table = map (λ c. (Some alias, c.name, c.kind)) table.columns

-- the table of a source
abbrev pub found_table : List ℕ → Option Table → Result Table DmlFault
found_table name None = Err (NoTable name)
found_table name (Some table) = Ok table

abbrev pub table_of : Lists → Source → Result Table DmlFault
table_of catalog source = found_table source.table (table_named catalog source.table)

-- the rows of a table, in the order of their keys
abbrev pub rows_by_key : RowMap → Table → List (List Cell)
rows_by_key rows table = map (λ e. e.1) (table_rows rows table.name)

-- a source that is there: its columns, and its rows in the order of their keys
pub record Origin : Type 0 where
  pub scope : Scope
  pub rows : List (List Cell)

abbrev pub origin_of : RowMap → Source → Table → Origin
origin_of rows source table = record { scope = scope_under (alias_of source) table; rows = rows_by_key rows table }

-- a table, where it is there, as the origin of a source
abbrev pub as_origin : RowMap → Source → Result Table DmlFault → Result Origin DmlFault
as_origin rows source (Err e) = Err e
as_origin rows source (Ok table) = Ok (origin_of rows source table)

-- the sources with their columns and rows, or the first table that is not there
abbrev pub origins_of : Lists → RowMap → List Source → Result (List Origin) DmlFault
origins_of catalog rows sources = each (λ source. as_origin rows source (table_of catalog source)) sources

-- the columns of all sources, one source after the other
abbrev pub scope_of : List Origin → Scope
scope_of [] = []
scope_of (origin ∷ origins) = origin.scope ++ scope_of origins
