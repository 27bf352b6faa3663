-- What is made of a statement once, before it goes over rows: its names resolved.
use Rattle.std.specs.Prelude.{◌≡◌, ℕ, bytes_eq, List, map, Option, IfSome}
use Rattle.std.specs.List.{position}
use Rattle.std.specs.Option.{option_copied, option_map}
use Rattle.sr_ast.specs.Exprs.{term_of}
use Rattle.sr_ast.specs.declared.expr.Expr.{Expr}
use Rattle.sr_eval.specs.Inner.Resolutions.{Resolution, resolved}
use Rattle.sr_eval.specs.Inner.Resolving.{resolution_of}
use Rattle.sr_eval.specs.declared.resolved.Resolved.{Resolved}
use Rattle.sr_catalog_schema.specs.declared.table.Column.{Column}
use Rattle.sr_catalog_schema.specs.declared.table.Table.{Table}
use Rattle.sr_exec_where.specs.Checks.{Scope}
use Rattle.sr_catalog_schema.specs.Members.{scope_of}
use Rattle.sr_exec_where.specs.Naming.{set_for}
use Rattle.sr_exec_where.specs.declared.prepared.Prepared.{Prepared}

-- an expression that is there or not, its names resolved
abbrev pub resolved_in : Scope → Option Expr → Option Resolution
resolved_in scope e = option_map (λ e. resolved scope (term_of e)) e

-- what each column is given, in the order of the columns
abbrev pub sets_in : Scope → List (List ℕ × Expr) → List Column → List (Option Resolution)
sets_in scope sets columns = map (λ c. resolved_in scope (set_for sets c.name)) columns

-- the resolutions of the program
abbrev pub resolution_in : Option Resolved → Option Resolution
resolution_in r = option_map resolution_of r

-- a statement on a table is made ready
pub record IsPrepared (table : Table) (p : Prepared) : Type 0 where
  pub condition : resolution_in p.resolved_condition ≡ resolved_in (scope_of table) p.condition.now
  pub sets : IfSome (option_copied p.sets) (λ s. map resolution_in p.resolved_sets ≡ sets_in (scope_of table) s table.columns)

-- the place of the value that an INSERT names for a column
abbrev pub place_among : List (List ℕ) → List ℕ → Option ℕ
place_among names column = position (λ name. bytes_eq name column) names

-- that of each column, in the order of the columns
abbrev pub places_in : List (List ℕ) → List Column → List (Option ℕ)
places_in names columns = map (λ c. place_among names c.name) columns
