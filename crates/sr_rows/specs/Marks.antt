-- Rows by table and key, with a mark to go back to.
use Rattle.std.specs.Prelude.{ℕ, List, Option}
use Rattle.std.specs.declared.cmp.Ordering.{Ordering}
use Rattle.std.specs.Ordering.{ordering_then}
use Rattle.std.specs.FinMap as map
use Rattle.sr_base.specs.declared.value.Value.{Value}
use Rattle.sr_base.specs.Order.{name_cmp, key_cmp}

-- a table's name, and a key
abbrev pub Place : Type 0
Place = List ℕ × List Value

-- by table, then by key
abbrev pub place_cmp : Place → Place → Ordering
place_cmp p q = ordering_then (name_cmp p.0 q.0) (key_cmp p.1 q.1)

-- rows by table and key
abbrev pub RowMap : Type 0
RowMap = map.FinMap place_cmp (List Value)

-- the rows, the rows at the mark, and the way from there: the rows before each step since the mark, the first step's first
pub record Marked : Type 0 where
  pub rows : RowMap
  pub marked : RowMap
  pub trail : List RowMap

-- rows of which one table is at hand
pub record OneAtHand : Type 0 where
  pub table : List ℕ
  pub rows : Marked

-- the rows of one table, by key
abbrev pub rows_of_table : RowMap → List ℕ → List Value → Option (List Value)
rows_of_table rows table key = map.get rows (table, key)
