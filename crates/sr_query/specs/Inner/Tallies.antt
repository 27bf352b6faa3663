-- Aggregates on the way along rows: what is told of the rows so far, and what comes of it with the rows that are left.
use Rattle.std.specs.Prelude.{◌≡◌, ◌≢◌, ℕ, ◌+◌, ℤ, pos, cond, List, [], ◌∷◌, Option, None, Result, Ok, Err, MatchResult}
use Rattle.sr_base.specs.declared.value.Value.{Value as Cell}
use Rattle.sr_base.specs.declared.value.Value.TheVariants.{Null}
use Rattle.sr_ast.specs.declared.expr.Expr.{Expr}
use Rattle.sr_ast.specs.declared.query.Item.{Item}
use Rattle.sr_ast.specs.declared.query.Item.TheVariants as item
use Rattle.sr_eval.specs.Inner.Resolutions.{Resolution}
use Rattle.sr_eval.specs.Inner.Resolving.{resolution_of}
use Rattle.sr_catalog_schema.specs.declared.fault.DmlFault.{DmlFault}
use Rattle.sr_catalog_schema.specs.declared.fault.DmlFault.TheVariants.{Memory}
use Rattle.sr_exec_where.specs.Checks.{Scope}
use Rattle.sr_exec_dml.specs.Sequences.{each, followed}
use Rattle.sr_query.specs.Combinations.{kept}
use Rattle.sr_query.specs.Inner.Preparing.{resolved_in, value_by}
use Rattle.sr_query.specs.Rows.{as_big, as_sum, sum_from, plus, number_in, is_better, best_from, is_less, is_greater}
use Rattle.sr_query.specs.declared.tallies.Tally.{Tally}
use Rattle.sr_query.specs.declared.tallies.Tally.TheVariants.{Nothing, Count, Sum, Least, Greatest}

-- What is told of an item: nothing of one that is no aggregate, how many rows there were, the sum so far, or the best value so far.
pub data Told : Type 0 where
  nothing : Told
  count : ℕ → Told
  sum : Resolution → Option ℤ → Told
  least : Resolution → Cell → Told
  greatest : Resolution → Cell → Told

-- that of the program
abbrev pub told_of : Tally → Told
told_of Nothing = nothing
told_of (Count n) = count n
told_of (Sum r total) = sum (resolution_of r) total
told_of (Least r best) = least (resolution_of r) best
told_of (Greatest r best) = greatest (resolution_of r) best

-- before the first row
abbrev pub started : Scope → Item → Told
started scope (item.Value e) = nothing
started scope item.Count = count 0
started scope (item.Sum e) = sum (resolved_in scope e) None
started scope (item.Min e) = least (resolved_in scope e) Null
started scope (item.Max e) = greatest (resolved_in scope e) Null

-- with a row more, or Overflow where the item has no value on it
abbrev pub with_row : List Cell → Told → Result Told DmlFault
with_row row nothing = Ok nothing
with_row row (count n) = Ok (count (n + 1))
with_row row (sum r total) = followed (value_by r row) (λ v. Ok (sum r (plus total (number_in v))))
with_row row (least r best) = followed (value_by r row) (λ v. Ok (least r (cond (is_better is_less v best) v best)))
with_row row (greatest r best) = followed (value_by r row) (λ v. Ok (greatest r (cond (is_better is_greater v best) v best)))

-- a row more for each that is left
abbrev pub count_from : ℕ → List (List Cell) → ℕ
count_from n [] = n
count_from n (row ∷ rows) = count_from (n + 1) rows

-- the value of the item with all rows that are left
abbrev pub told_over : Told → List (List Cell) → Result Cell DmlFault
told_over nothing rows = Ok Null
told_over (count n) rows = as_big (pos (count_from n rows))
told_over (sum r total) rows = followed (each (value_by r) rows) (λ values. as_sum (sum_from total values))
told_over (least r best) rows = followed (each (value_by r) rows) (λ values. Ok (best_from is_less best values))
told_over (greatest r best) rows = followed (each (value_by r) rows) (λ values. Ok (best_from is_greater best values))

-- the values of all items over these rows
abbrev pub each_over : List Told → List (List Cell) → Result (List Cell) DmlFault
each_over tolds rows = each (λ t. told_over t rows) tolds

-- the same over those of the rows that meet the conditions
abbrev pub tallied : Scope → List Expr → List Told → List (List Cell) → Result (List Cell) DmlFault
tallied scope conditions tolds rows = followed (kept scope conditions rows) (each_over tolds)

-- on the way: from what was told to what is told behind a row, whatever comes behind it
abbrev pub Takes : Result (Unit {0}) DmlFault → Scope → List Expr → List Told → List Cell → List Told → Type 0
Takes result scope conditions before row after =
    (rest : List (List Cell)) → MatchResult result
    (λ _. tallied scope conditions before (row ∷ rest) ≡ tallied scope conditions after rest)
    (λ fault. fault ≢ Memory → tallied scope conditions before (row ∷ rest) ≡ Err fault)

-- from what was told to what is told behind all rows: the values of the items are there
abbrev pub TakesAll : Result (Unit {0}) DmlFault → Scope → List Expr → List Told → List (List Cell) → List Told → Type 0
TakesAll result scope conditions before rows after =
    MatchResult result (λ _. tallied scope conditions before rows ≡ each_over after []) (λ fault. fault ≢ Memory → tallied scope conditions before rows ≡ Err fault)
