-- Changes of rows taken back, the newest first.
use Rattle.std.specs.Prelude.{⊤, List, [], ◌∷◌, Option, Some, None, IsSome}
use Rattle.std.specs.FinMap as map
use Rattle.sr_base.specs.declared.value.Value.{Value}
use Rattle.sr_rows.specs.declared.undo.Undo.{Undo}
use Rattle.sr_rows.specs.Inner.Gathered.{filled}
use Rattle.sr_rows.specs.Marks.{Place, place_cmp, RowMap, Marked}

-- places that hold a row or nothing
abbrev pub PlaceMap : Type 0
PlaceMap = map.FinMap place_cmp (Option (List Value))

-- the places with what stood at one: a row, nothing, or no place at all
abbrev pub with_place : PlaceMap → Place → Option (Option (List Value)) → PlaceMap
with_place places at None = map.remove places at
with_place places at (Some place) = map.insert places at place

abbrev pub put_back : PlaceMap → Undo → PlaceMap
put_back places change = with_place places (change.table.value, change.key) change.place

-- the places before the changes, of which the last is taken back first
abbrev pub undone : List Undo → PlaceMap → PlaceMap
undone [] places = places
undone (change ∷ later) places = put_back (undone later places) change

-- the rows before each of the changes
abbrev pub trail_of : List Undo → PlaceMap → List RowMap
trail_of [] places = []
trail_of (change ∷ later) places = filled (undone (change ∷ later) places) ∷ trail_of later places

-- what contracts see of places and of the changes that led to them
abbrev pub seen : List Undo → PlaceMap → Marked
seen changes places = record { rows = filled places; marked = filled (undone changes places); trail = trail_of changes places }

-- each change finds its place when it is taken back
abbrev pub Undoable : List Undo → PlaceMap → Type 0
Undoable [] places = ⊤
Undoable (change ∷ later) places = Undoable later places × IsSome (map.get (undone later places) (change.table.value, change.key))
