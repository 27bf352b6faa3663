-- Rows put together from what a table at hand holds.
use Rattle.std.specs.Prelude.{not, List, [], ◌∷◌, Option, Some, None, ℕ}
use Rattle.std.specs.Ordering.{eq_by_cmp}
use Rattle.std.specs.FinMap as map
use Rattle.sr_base.specs.declared.value.Value.{Value}
use Rattle.sr_base.specs.Order.{name_cmp, key_cmp}
use Rattle.sr_rows.specs.Marks.{Place, place_cmp, RowMap}

module _ {V : Type 0} where
  -- the entries of one table, put into a map of places
  abbrev pub with_table : List ℕ → List (List Value × V) → map.FinMap place_cmp V → map.FinMap place_cmp V
  with_table table [] places = places
  with_table table (e ∷ es) places = map.insert (with_table table es places) (table, e.0) e.1

  -- the entries of all tables as one map of places
  abbrev pub gathered : List (List ℕ × map.FinMap key_cmp V) → map.FinMap place_cmp V
  gathered [] = map.empty
  gathered (t ∷ ts) = with_table t.0 (map.entries t.1) (map.retain_keys (gathered ts) (λ p. not (eq_by_cmp name_cmp t.0 p.0)))

-- a map with a row, or with none, at a place
abbrev pub with_row : RowMap → Place → Option (List Value) → RowMap
with_row rows place None = map.remove rows place
with_row rows place (Some row) = map.insert rows place row

-- the rows of places that may be empty
abbrev pub filled_entries : List (Place × Option (List Value)) → RowMap
filled_entries [] = map.empty
filled_entries (e ∷ es) = with_row (filled_entries es) e.0 e.1

abbrev pub filled : map.FinMap place_cmp (Option (List Value)) → RowMap
filled places = filled_entries (map.entries places)

-- the row at a place, if the place is there and holds one
abbrev pub row_of : Option (Option (List Value)) → Option (List Value)
row_of None = None
row_of (Some place) = place

-- the first entry that holds a row, with the row
abbrev pub first_of : List Value → Option (List Value) → Option (List Value × List Value) → Option (List Value × List Value)
first_of key None rest = rest
first_of key (Some row) rest = Some (key, row)

abbrev pub first_filled : List (List Value × Option (List Value)) → Option (List Value × List Value)
first_filled [] = None
first_filled (e ∷ es) = first_of e.0 e.1 (first_filled es)

-- the entries that hold rows, with the rows
abbrev pub and_filled : List Value → Option (List Value) → List (List Value × List Value) → List (List Value × List Value)
and_filled key None rest = rest
and_filled key (Some row) rest = (key, row) ∷ rest

abbrev pub filled_rows : List (List Value × Option (List Value)) → List (List Value × List Value)
filled_rows [] = []
filled_rows (e ∷ es) = and_filled e.0 e.1 (filled_rows es)

-- those of the places that are left, if there are any
abbrev pub rows_left : Option (List (List Value × Option (List Value))) → List (List Value × List Value)
rows_left None = []
rows_left (Some places) = filled_rows places
