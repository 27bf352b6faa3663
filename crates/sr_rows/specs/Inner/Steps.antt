-- How rows go on from a mark, and back.
-- Here is what no contract of the program says by itself.
use Rattle.std.specs.Prelude.{◌≡◌, ◌≤◌, ℕ, List, [], ◌∷◌, ◌++◌, length, take, drop}
use Rattle.sr_rows.specs.Marks.{RowMap, Marked}

-- rows at which the mark stands
abbrev pub at_mark : RowMap → Marked
at_mark rows = record { rows = rows; marked = rows; trail = [] }

-- other rows, one step further
abbrev pub with_step : Marked → RowMap → Marked
with_step v rows = record { rows = rows; marked = v.marked; trail = v.trail ++ v.rows ∷ [] }

-- the first of some rows, or these where there are none
abbrev pub first_or : List RowMap → RowMap → RowMap
first_or [] rows = rows
first_or (first ∷ others) rows = first

-- the rows as they were after a number of steps; the same where fewer were made
abbrev pub back : ℕ → Marked → Marked
back steps v = record { rows = first_or (drop steps v.trail) v.rows; marked = v.marked; trail = take steps v.trail }

-- the mark stays, and the way back from the new rows leads through the old ones
pub record GoesOn (old new : Marked) : Type 0 where
  pub marked : new.marked ≡ old.marked
  pub longer : length old.trail ≤ length new.trail
  pub same : (steps : ℕ) → steps ≤ length old.trail → back steps new ≡ back steps old
