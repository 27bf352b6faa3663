-- What is made of a SELECT once, before it goes over combinations of rows: its conditions and its items, their names resolved.
use Rattle.std.specs.Prelude.{◌≡◌, Bool, true, List, [], ◌∷◌, map, Option, Some, None, Result, Ok}
use Rattle.sr_base.specs.declared.value.Value.{Value as Cell}
use Rattle.sr_base.specs.declared.value.Value.TheVariants.{Null}
use Rattle.sr_ast.specs.Exprs.{term_of}
use Rattle.sr_ast.specs.declared.expr.Expr.{Expr}
use Rattle.sr_ast.specs.declared.query.Item.{Item}
use Rattle.sr_ast.specs.declared.query.Item.TheVariants as item
use Rattle.sr_ast.specs.declared.query.Items.{Items}
use Rattle.sr_ast.specs.declared.query.Items.TheVariants as items
use Rattle.sr_eval.specs.Inner.Resolutions.{Resolution, resolved, meaning_at}
use Rattle.sr_eval.specs.Inner.Resolutions.Resolution.{literal}
use Rattle.sr_eval.specs.Inner.Resolving.{resolution_of}
use Rattle.sr_catalog_schema.specs.declared.fault.DmlFault.{DmlFault}
use Rattle.sr_exec_where.specs.Checks.{Scope}
use Rattle.sr_exec_dml.specs.Sequences.{each}
use Rattle.sr_exec_dml.specs.Statements.{tested}
use Rattle.sr_query.specs.Combinations.{and_then}
use Rattle.sr_query.specs.Inner.Equations.{equation_of, equations}
use Rattle.sr_query.specs.Inner.Orders.{ranks_at}
use Rattle.sr_query.specs.Rows.{valued, with_ranks}
use Rattle.sr_query.specs.Sources.{conditions_of}
use Rattle.sr_query.specs.declared.parts.Parts.{Parts}
use Rattle.sr_query.specs.declared.parts.Parts.TheVariants.{All, Each}
use Rattle.sr_query.specs.declared.placing.Placed.{Placed}
use Rattle.sr_query.specs.declared.prepared.Prepared.{Prepared}
use Rattle.sr_query.specs.declared.rank.Listed.{Listed}

-- an expression, its names resolved among the columns of all sources
abbrev pub resolved_in : Scope → Expr → Resolution
resolved_in scope e = resolved scope (term_of e)

-- the conditions of a statement are made ready, and so are their equations
pub record IsPrepared (p : Prepared) : Type 0 where
  pub conditions : map resolution_of p.conditions ≡ map (resolved_in p.scope.now) (conditions_of p.select.now)
  pub equations : map equation_of p.equations ≡ equations p.scope.now (conditions_of p.select.now)

-- whether a combination meets resolved conditions: they are tested in order, up to the first that is not true
abbrev pub meets_at : List Cell → List Resolution → Result Bool DmlFault
meets_at values [] = Ok true
meets_at values (r ∷ rs) = and_then (tested (meaning_at values r)) (meets_at values rs)

-- the value of a resolved expression on a combination, or Overflow where there is none
abbrev pub value_by : Resolution → List Cell → Result Cell DmlFault
value_by r values = valued (meaning_at values r)

-- an item, its names resolved: NULL in the place of an aggregate, which no combination has
abbrev pub resolved_item : Scope → Item → Resolution
resolved_item scope (item.Value e) = resolved_in scope e
resolved_item scope item.Count = literal Null
resolved_item scope (item.Sum e) = literal Null
resolved_item scope (item.Min e) = literal Null
resolved_item scope (item.Max e) = literal Null

-- the items of a statement, their names resolved; there are none where all values are answered
abbrev pub resolved_items : Scope → Items → Option (List Resolution)
resolved_items scope items.All = None
resolved_items scope (items.Each list) = Some (map (resolved_item scope) list)

-- those of the program
abbrev pub resolutions_of : Parts → Option (List Resolution)
resolutions_of (All count) = None
resolutions_of (Each parts) = Some (map resolution_of parts)

-- the row of a combination by resolved items
abbrev pub row_by : Option (List Resolution) → List Cell → Result (List Cell) DmlFault
row_by None values = Ok values
row_by (Some parts) values = each (λ r. value_by r values) parts

-- with its ranks, by the places of ORDER BY's columns
abbrev pub placed_row : Option (List Resolution) → List Placed → List Cell → Result Listed DmlFault
placed_row parts places values = with_ranks (ranks_at places values) (row_by parts values)
