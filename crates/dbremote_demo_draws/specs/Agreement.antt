-- How far a database below differs from what the one above has for it.
use Rattle.std.specs.Prelude.{ℕ, ◌+◌, Bool, true, false, ◌&&◌, not, is_none, List, filter, length, Option, Some, None}
use Rattle.std.specs.List.{list_any}
use Rattle.std.specs.Ordering.{eq_by_cmp}
use Rattle.sr_base.specs.Order.{key_cmp}
use Rattle.sr_base.specs.declared.value.Value.{Value as Cell}
use Rattle.sr_publish.specs.SubscribedTables.{SubscribedTable}
use Rattle.sr_publish.specs.Views.{shown_in}
use Rattle.sr_rows.specs.Marks.{RowMap, rows_of_table}
use Rattle.sr_rows.specs.Walks.{Entry, table_rows}

-- whether a key is one of these
abbrev pub is_among : List (List Cell) → List Cell → Bool
is_among keys key = list_any (λ own. eq_by_cmp key_cmp key own) keys

-- whether two rows are the same, or neither is there
abbrev pub is_same : Option (List Cell) → Option (List Cell) → Bool
is_same None None = true
is_same None (Some other) = false
is_same (Some one) None = false
is_same (Some one) (Some other) = eq_by_cmp key_cmp one other

-- at a row that is held above: what the subscribed table shows of it is not what is held below, and no own transaction there names the key
abbrev pub differs_above : Option SubscribedTable → RowMap → List ℕ → List (List Cell) → Entry → Bool
differs_above subscribed_table below table own e = not (is_among own e.0) && not (is_same (shown_in subscribed_table e.1) (rows_of_table below table e.0))

-- at a row that is held below: none is held there above, and no own transaction names the key
abbrev pub differs_below : RowMap → List ℕ → List (List Cell) → Entry → Bool
differs_below above table own e = not (is_among own e.0) && is_none (rows_of_table above table e.0)

-- at how many keys of a table what the subscribed table shows of the rows above and the rows below differ
abbrev pub differing : Option SubscribedTable → RowMap → RowMap → List ℕ → List (List Cell) → ℕ
differing subscribed_table above below table own =
    length (filter (differs_above subscribed_table below table own) (table_rows above table)) + length (filter (differs_below above table own) (table_rows below table))
