-- Whether a row fits the columns of a table.
use Rattle.std.specs.Prelude.{◌≡◌, Bool, true, false, not, ◌&&◌, List, [], ◌∷◌, Option, Some, None}
use Rattle.std.specs.Ordering.{eq_by_cmp}
use Rattle.sr_base.specs.Order.{value_cmp}
use Rattle.sr_base.specs.declared.value.Value.{Value as Cell}
use Rattle.sr_base_dates.specs.Fitting.{fitted}
use Rattle.sr_eval.specs.Comparisons.{is_null}
use Rattle.sr_catalog_schema.specs.declared.table.Column.{Column}

-- what a column holds for a value is the value itself
abbrev pub is_kept : Option Cell → Cell → Bool
is_kept None v = false
is_kept (Some held) v = eq_by_cmp value_cmp held v

-- a column may hold a value: fitting leaves it as it is, and it is not NULL where the column is NOT NULL
abbrev pub may_hold : Column → Cell → Bool
may_hold c v = is_kept (fitted v c.kind) v && not (c.not_null && is_null v)

-- one value for each column, which it may hold
abbrev pub is_row : List Column → List Cell → Bool
is_row [] [] = true
is_row [] (v ∷ row) = false
is_row (c ∷ columns) [] = false
is_row (c ∷ columns) (v ∷ row) = may_hold c v && is_row columns row

-- the row fits the columns
abbrev pub IsRow : List Column → List Cell → Type 0
IsRow columns row = is_row columns row ≡ true
