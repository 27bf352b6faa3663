-- The combinations of rows of several sources, and those that meet the conditions.
-- Here is what no contract of the program says by itself.
use Rattle.std.specs.Prelude.{◌≡◌, ◌≢◌, List, ◌++◌, Result, Err, MatchResult}
use Rattle.sr_base.specs.declared.value.Value.{Value as Cell}
use Rattle.sr_ast.specs.declared.expr.Expr.{Expr}
use Rattle.sr_catalog_schema.specs.declared.fault.DmlFault.{DmlFault}
use Rattle.sr_catalog_schema.specs.declared.fault.DmlFault.TheVariants.{Memory}
use Rattle.sr_exec_where.specs.Checks.{Scope}
use Rattle.sr_exec_dml.specs.Inner.Edits.{prefixed}
use Rattle.sr_query.specs.Combinations.{combinations, kept}

-- on the way: from those that were kept to those that are, over some combinations, whatever comes behind them
abbrev pub Keeps : Result (Unit {0}) DmlFault → Scope → List Expr → List (List Cell) → List (List Cell) → List (List Cell) → Type 0
Keeps result scope conditions before combinations after =
    (rest : List (List Cell)) → MatchResult result
    (λ _. prefixed before (kept scope conditions (combinations ++ rest)) ≡ prefixed after (kept scope conditions rest))
    (λ fault. fault ≢ Memory → prefixed before (kept scope conditions (combinations ++ rest)) ≡ Err fault)
