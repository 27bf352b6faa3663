-- The rows that a SELECT answers: the items of each combination, or the aggregates over all of them.
use Rattle.std.specs.Prelude.{◌+ℤ◌, ℤ, pos, Bool, true, false, cond, List, [], ◌∷◌, length, Option, Some, None, Result, Ok, Err}
use Rattle.std.specs.List.{list_any}
use Rattle.std.specs.Ordering.{is_lt}
use Rattle.sr_base.specs.declared.value.Value.{Value as Cell}
use Rattle.sr_base.specs.declared.value.Value.TheVariants.{Null, Int, Big, Str, Date}
use Rattle.sr_base.specs.Order.{value_cmp}
use Rattle.sr_ast.specs.Exprs.{term_of}
use Rattle.sr_ast.specs.declared.expr.Expr.{Expr}
use Rattle.sr_ast.specs.declared.query.Item.{Item}
use Rattle.sr_ast.specs.declared.query.Item.TheVariants as item
use Rattle.sr_ast.specs.declared.query.Items.{Items}
use Rattle.sr_ast.specs.declared.query.Items.TheVariants as items
use Rattle.sr_ast.specs.declared.query.OrderBy.{OrderBy}
use Rattle.sr_eval.specs.Meanings.{Meaning, meaning, cell_of}
use Rattle.sr_eval.specs.Numbers.{big_of}
use Rattle.sr_catalog_schema.specs.declared.fault.DmlFault.{DmlFault}
use Rattle.sr_catalog_schema.specs.declared.fault.DmlFault.TheVariants.{Overflow}
use Rattle.sr_exec_where.specs.Checks.{Scope}
use Rattle.sr_exec_dml.specs.Sequences.{each, followed}
use Rattle.sr_query.specs.Checks.{is_aggregate}
use Rattle.sr_query.specs.Orders.{ranks_of}
use Rattle.sr_query.specs.declared.rank.Rank.{Rank}
use Rattle.sr_query.specs.declared.rank.Listed.{Listed}

-- a value, or Overflow where there is none
abbrev pub valued : Option Meaning → Result Cell DmlFault
valued None = Err Overflow
valued (Some m) = Ok (cell_of m)

-- the value of an expression on a combination
abbrev pub value_in : Scope → Expr → List Cell → Result Cell DmlFault
value_in scope e values = valued (meaning scope values (term_of e))

-- the value of an item that is no aggregate
abbrev pub item_value : Scope → List Cell → Item → Result Cell DmlFault
item_value scope values (item.Value e) = value_in scope e values
item_value scope values item.Count = Ok Null
item_value scope values (item.Sum e) = Ok Null
item_value scope values (item.Min e) = Ok Null
item_value scope values (item.Max e) = Ok Null

-- the row of a combination: all of its values, or those of the items
abbrev pub row_of : Scope → Items → List Cell → Result (List Cell) DmlFault
row_of scope items.All values = Ok values
row_of scope (items.Each list) values = each (item_value scope values) list

-- the row with the ranks of its combination
abbrev pub with_ranks : List Rank → Result (List Cell) DmlFault → Result Listed DmlFault
with_ranks ranks (Err e) = Err e
with_ranks ranks (Ok row) = Ok (record { ranks = ranks; row = row })

abbrev pub listed_row : Scope → Items → List OrderBy → List Cell → Result Listed DmlFault
listed_row scope items order values = with_ranks (ranks_of scope order values) (row_of scope items values)

-- a BIGINT, or Overflow where the number passes its end
abbrev pub bounded : Option Cell → Result Cell DmlFault
bounded None = Err Overflow
bounded (Some v) = Ok v

abbrev pub as_big : ℤ → Result Cell DmlFault
as_big n = bounded (big_of n)

-- the number that a value is, if it is one
abbrev pub number_in : Cell → Option ℤ
number_in Null = None
number_in (Int n) = Some n
number_in (Big n) = Some n
number_in (Str text) = None
number_in (Date day) = None

-- a number more, if there is one
abbrev pub plus : Option ℤ → Option ℤ → Option ℤ
plus total None = total
plus None (Some n) = Some n
plus (Some m) (Some n) = Some (m +ℤ n)

-- the sum of the numbers among values, and of one before them
abbrev pub sum_from : Option ℤ → List Cell → Option ℤ
sum_from total [] = total
sum_from total (v ∷ values) = sum_from (plus total (number_in v)) values

-- the whole sum: NULL of no number, and Overflow where it passes the end of BIGINT
abbrev pub as_sum : Option ℤ → Result Cell DmlFault
as_sum None = Ok Null
as_sum (Some n) = as_big n

-- whether a value takes the place of another one, where a test says that it is before it; NULL is passed over
abbrev pub is_better : (Cell → Cell → Bool) → Cell → Cell → Bool
is_better before v Null = true
is_better before Null best = false
is_better before v best = before v best

-- the first of the values by such a test: NULL where there is none
abbrev pub best_from : (Cell → Cell → Bool) → Cell → List Cell → Cell
best_from before best [] = best
best_from before best (v ∷ values) = best_from before (cond (is_better before v best) v best) values

-- the tests of MIN and MAX
abbrev pub is_less : Cell → Cell → Bool
is_less a b = is_lt (value_cmp a b)

abbrev pub is_greater : Cell → Cell → Bool
is_greater a b = is_lt (value_cmp b a)

-- an aggregate over the combinations that are kept
abbrev pub aggregate : Scope → List (List Cell) → Item → Result Cell DmlFault
aggregate scope kept (item.Value e) = Ok Null
aggregate scope kept item.Count = as_big (pos (length kept))
aggregate scope kept (item.Sum e) = followed (each (value_in scope e) kept) (λ values. as_sum (sum_from None values))
aggregate scope kept (item.Min e) = followed (each (value_in scope e) kept) (λ values. Ok (best_from is_less Null values))
aggregate scope kept (item.Max e) = followed (each (value_in scope e) kept) (λ values. Ok (best_from is_greater Null values))

-- one row, which has no ranks
abbrev pub alone : Result (List Cell) DmlFault → Result (List Listed) DmlFault
alone (Err e) = Err e
alone (Ok row) = Ok (record { ranks = []; row = row } ∷ [])

-- the rows with their ranks: one of each combination, or one alone where the items are aggregates
abbrev pub listed_items : Bool → Scope → List Item → List OrderBy → List (List Cell) → Result (List Listed) DmlFault
listed_items true scope list order kept = alone (each (aggregate scope kept) list)
listed_items false scope list order kept = each (listed_row scope (items.Each list) order) kept

abbrev pub listed : Scope → Items → List OrderBy → List (List Cell) → Result (List Listed) DmlFault
listed scope items.All order kept = each (listed_row scope items.All order) kept
listed scope (items.Each list) order kept = listed_items (list_any is_aggregate list) scope list order kept
