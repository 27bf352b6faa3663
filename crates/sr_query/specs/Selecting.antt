-- What a SELECT answers.
use Rattle.std.specs.Prelude.{◌≡◌, ℕ, cond, List, [], map, Option, Some, None, Result, Ok}
use Rattle.sr_base.specs.declared.value.Value.{Value as Cell}
use Rattle.sr_ast.specs.declared.query.Select.{Select}
use Rattle.sr_rows.specs.Marks.{RowMap}
use Rattle.sr_catalog_schema.specs.Catalogs.{Lists}
use Rattle.sr_catalog_schema.specs.declared.fault.DmlFault.{DmlFault}
use Rattle.sr_exec_where.specs.Checks.{Scope}
use Rattle.sr_exec_dml.specs.Sequences.{followed}
use Rattle.sr_exec_dml.specs.Statements.{in_order}
use Rattle.sr_query.specs.Checks.{unknown_in_select, is_good}
use Rattle.sr_query.specs.Combinations.{combinations, kept}
use Rattle.sr_query.specs.Orders.{IsOrdered}
use Rattle.sr_query.specs.declared.rank.Listed.{Listed}
use Rattle.sr_query.specs.Rows.{listed}
use Rattle.sr_query.specs.Sources.{Origin, sources_of, conditions_of, origins_of, scope_of}

-- the first table, where something is wrong with the statement
abbrev pub bad_in_select : Scope → Select → Option (List ℕ)
bad_in_select scope s = cond (is_good scope s) None (Some s.source.table)

-- the combinations of rows of sources that meet the conditions of a statement
abbrev pub kept_from : Scope → Select → List Origin → Result (List (List Cell)) DmlFault
kept_from scope s origins = kept scope (conditions_of s) (combinations [] origins)

-- the rows of the sources that are there: a filter of all combinations, and of each that is kept the items
abbrev pub selected_from : List Origin → Select → Result (List Listed) DmlFault
selected_from origins s =
    in_order (unknown_in_select (scope_of origins) s) (bad_in_select (scope_of origins) s)
    (followed (kept_from (scope_of origins) s origins) (listed (scope_of origins) s.items s.order))

-- the rows of a SELECT with their ranks, before they are put in order, or the first refusal
abbrev pub selected : Lists → RowMap → Select → Result (List Listed) DmlFault
selected catalog rows s = followed (origins_of catalog rows (sources_of s)) (λ origins. selected_from origins s)

-- rows are an answer: they are the listed ones in order
pub record Answered (meant : Result (List Listed) DmlFault) (answer : List (List Cell)) : Type 0 where
  pub listed : List Listed
  pub found : meant ≡ Ok listed
  pub ordered : List Listed
  pub order : IsOrdered listed ordered
  pub rows : answer ≡ map (λ (l : Listed). l.row) ordered
