-- The combinations of rows of several sources, and those that meet the conditions.
use Rattle.std.specs.Prelude.{Bool, true, false, List, [], ◌∷◌, ◌++◌, Result, Ok, Err}
use Rattle.sr_base.specs.declared.value.Value.{Value as Cell}
use Rattle.sr_ast.specs.Exprs.{term_of}
use Rattle.sr_ast.specs.declared.expr.Expr.{Expr}
use Rattle.sr_eval.specs.Meanings.{meaning}
use Rattle.sr_catalog_schema.specs.declared.fault.DmlFault.{DmlFault}
use Rattle.sr_exec_where.specs.Checks.{Scope}
use Rattle.sr_exec_dml.specs.Sequences.{front}
use Rattle.sr_exec_dml.specs.Statements.{tested}
use Rattle.sr_query.specs.Sources.{Origin}

-- what each item of a list gives, one after the other
abbrev pub over_each : {A B : Type 0} → (A → List B) → List A → List B
over_each f [] = []
over_each f (x ∷ xs) = f x ++ over_each f xs

-- the combinations that begin with these values: behind them a row of each source, each source by its keys, the last one fastest
abbrev pub combinations : List Cell → List Origin → List (List Cell)
combinations before [] = before ∷ []
combinations before (origin ∷ origins) = over_each (λ row. combinations (before ++ row) origins) origin.rows

-- a test, and those that follow where it is true
abbrev pub and_then : Result Bool DmlFault → Result Bool DmlFault → Result Bool DmlFault
and_then (Err e) rest = Err e
and_then (Ok true) rest = rest
and_then (Ok false) rest = Ok false

-- whether a combination meets the conditions: they are tested in order, up to the first that is not true
abbrev pub meets : Scope → List Expr → List Cell → Result Bool DmlFault
meets scope [] values = Ok true
meets scope (e ∷ es) values = and_then (tested (meaning scope values (term_of e))) (meets scope es values)

-- a combination that is kept, or not
abbrev pub with_kept : List Cell → Result Bool DmlFault → Result (List (List Cell)) DmlFault → Result (List (List Cell)) DmlFault
with_kept values (Err e) rest = Err e
with_kept values (Ok true) rest = front (Ok values) rest
with_kept values (Ok false) rest = rest

-- those of the combinations that meet the conditions, or Overflow where a test of one has no value
abbrev pub kept : Scope → List Expr → List (List Cell) → Result (List (List Cell)) DmlFault
kept scope conditions [] = Ok []
kept scope conditions (c ∷ combinations) = with_kept c (meets scope conditions c) (kept scope conditions combinations)
