-- A row that is put at a place where none stands: in its table, among all places, and among the rows.
use Rattle.std.proofs.Common.{◌≡◌, ℕ, Bool, true, false, List, [], Option, Some, IsSome, sym, ap, subst, ◌∙◌}
use Rattle.std.specs.FinMap.{FinMap, get, insert}
use Rattle.sr_base.specs.declared.value.Value.{Value}
use Rattle.sr_base.specs.Order.{key_cmp}
use Rattle.sr_rows.specs.declared.undo.Undo.{Undo}
use Rattle.sr_rows.specs.Inner.Filling.{Fills, FillsRows}
use Rattle.sr_rows.specs.Inner.Gathered.{gathered, filled, row_of}
use Rattle.sr_rows.specs.Marks.{Place, Marked}
use Rattle.sr_rows.specs.Inner.Undoing.{PlaceMap, seen}
use Rattle.sr_rows.proofs.Gathering.{table_at, ChangesTable, get-held, place_at-held, gathered-inserted, gathered-same}
use Rattle.sr_rows.proofs.Keeping.{get-filled, filled-insert, seen-fresh}

abbrev pub Tables : Type 0
Tables = List (List ℕ × FinMap key_cmp (Option (List Value)))

-- what is told of a table is told of all places
pub fills_gathered : (es fs : Tables) (t : List ℕ) (before table : FinMap key_cmp (Option (List Value))) (k row : List Value) (free : Bool) → ChangesTable es fs t table
    → Some before ≡ table_at es t → Fills before k row table free → Fills (gathered es) (t, k) row (gathered fs) free
fills_gathered es fs t before table k row true u is h = (
  ap row_of (get-held es t before k is) ∙ h.0,
  gathered-inserted es fs t before table k (Some row) u (place_at-held es t before is) h.1,
)
fills_gathered es fs t before table k row false u is h = (
  subst (λ o. IsSome (row_of o)) (sym (get-held es t before k is)) h.0,
  gathered-same es fs t table u (λ j. place_at-held es t before is j ∙ ap (λ m. get m j) (sym h.1)),
)

-- and of the rows
pub fills_rows : (us : List Undo) (m n : PlaceMap) (old : Marked) → seen us m ≡ old → old.trail ≡ [] → (p : Place) (row : List Value) (free : Bool)
    → Fills m p row n free → FillsRows old p row (seen us n) free
fills_rows us m n old is fresh p row true h = (
  ap (λ (v : Marked). get v.rows p) (sym is) ∙ get-filled m p ∙ h.0,
  seen-fresh us m old is fresh n (insert old.rows p row) (ap filled h.1 ∙ filled-insert m p (Some row) ∙ ap (λ (v : Marked). insert v.rows p row) is),
)
fills_rows us m n old is fresh p row false h = (
  subst IsSome (sym (ap (λ (v : Marked). get v.rows p) (sym is) ∙ get-filled m p)) h.0,
  ap (seen us) h.1 ∙ is,
)
