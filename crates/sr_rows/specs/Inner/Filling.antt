-- A row that is put at a place where none stands, and what is told of it.
use Rattle.std.specs.Prelude.{◌≡◌, Bool, true, false, List, Option, Some, None, IsSome}
use Rattle.std.specs.declared.cmp.Ordering.{Ordering}
use Rattle.std.specs.FinMap as map
use Rattle.sr_base.specs.declared.value.Value.{Value}
use Rattle.sr_rows.specs.Inner.Gathered.{row_of}
use Rattle.sr_rows.specs.Marks.{Place, Marked}
use Rattle.sr_rows.specs.Inner.Steps.{at_mark}

-- none stood there and the row is put, or one stood there and nothing changes
abbrev pub Fills : {K : Type 0} {cmp : K → K → Ordering} → map.FinMap cmp (Option (List Value)) → K → List Value → map.FinMap cmp (Option (List Value)) → Bool → Type 0
Fills before key row after true = (row_of (map.get before key) ≡ None) × (after ≡ map.insert before key (Some row))
Fills before key row after false = IsSome (row_of (map.get before key)) × (after ≡ before)

-- the same of rows at whose mark nothing was done
abbrev pub FillsRows : Marked → Place → List Value → Marked → Bool → Type 0
FillsRows before place row after true = (map.get before.rows place ≡ None) × (after ≡ at_mark (map.insert before.rows place row))
FillsRows before place row after false = IsSome (map.get before.rows place) × (after ≡ before)
