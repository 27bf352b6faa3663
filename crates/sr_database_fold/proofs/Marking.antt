-- Rows at their mark again.
use Rattle.std.proofs.Common.{◌≡◌, [], sym, ap, ◌∙◌}
use Rattle.sr_rows.specs.Marks.{Marked, RowMap}
use Rattle.sr_rows.specs.Inner.Steps.{at_mark, GoesOn}

-- steps were taken back to the mark at which they began
pub undone : (old mid new : Marked) → old ≡ at_mark old.rows → GoesOn old mid → new.rows ≡ mid.marked → new.marked ≡ mid.marked → new.trail ≡ [] → new ≡ old
undone old mid new fresh on rows marked trail =
    let one : mid.marked ≡ old.rows = on.marked ∙ ap (λ (m : Marked). m.marked) fresh in
    (λ i. record { rows = (rows ∙ one) i; marked = (marked ∙ one) i; trail = trail i }) ∙ sym fresh

-- the mark was set
pub marked_here : (old new : Marked) → new.rows ≡ old.rows → new.marked ≡ old.rows → new.trail ≡ [] → new ≡ at_mark new.rows
marked_here old new rows marked trail = λ i. record { rows = new.rows; marked = (marked ∙ sym rows) i; trail = trail i }

-- rows are at their mark
pub at_mark_of : (new : Marked) (rows : RowMap) → new ≡ at_mark rows → new ≡ at_mark new.rows
at_mark_of new rows is = is ∙ ap at_mark (sym (ap (λ (m : Marked). m.rows) is))
