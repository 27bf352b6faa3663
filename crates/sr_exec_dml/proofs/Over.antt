-- A row that is put over one with its key.
use Rattle.std.proofs.Common.{◌≡◌, Bool, true, false, cond, List, Option, Some, None, IfSome, IfOk, Result, Ok, Err, OnOk, refl, sym, ap, subst, ◌∙◌}
use Rattle.std.specs.Ordering.{eq_by_cmp}
use Rattle.std.specs.FinMap.{get, insert, remove, same_map, get-insert, get-remove}
use Rattle.sr_base.specs.declared.value.Value.{Value as Cell}
use Rattle.sr_rows.specs.Inner.Hands.{Replaces}
use Rattle.sr_rows.specs.Marks.{Place, RowMap, OneAtHand, place_cmp}
use Rattle.sr_rows.specs.Inner.Marks.{place_cmp_total}
use Rattle.sr_rows.proofs.Gathering.{exact_places}
use Rattle.sr_catalog_schema.specs.declared.table.Table.{Table}
use Rattle.sr_logform.specs.declared.change.Change.{Change}
use Rattle.sr_exec_dml.specs.Applying.{place_of, without_row, with_row, applied_in}
use Rattle.sr_exec_where.specs.Keys.{key_of}

-- what is put at a place need not be taken from there first
pub over : (rows : RowMap) (p : Place) (row : List Cell) → insert (remove rows p) p row ≡ insert rows p row
over rows p row = same_map place_cmp_total exact_places _ _ (λ q.
    get-insert place_cmp_total (remove rows p) p row q ∙ ap (cond (eq_by_cmp place_cmp q p) (Some row)) (get-remove place_cmp_total rows p q) ∙ twice q (eq_by_cmp place_cmp q p)
    ∙ sym (get-insert place_cmp_total rows p row q)) where
      twice : (q : Place) (b : Bool) → cond b (Some row) (cond b None (get rows q)) ≡ cond b (Some row) (get rows q)
      twice q true = refl
      twice q false = refl

over_same : (table : Table) (before : Option (List Cell)) (after : List Cell) (rows : RowMap) → IfSome before (λ row. key_of table.key row ≡ key_of table.key after) → with_row table (Some after) rows ≡ with_row table (Some after) (without_row table before rows)
over_same table None after rows same = refl
over_same table (Some row) after rows same = sym (ap (λ k. insert (remove rows (table.name, k)) (place_of table after) after) same ∙ over rows (place_of table after) after)

pub set_over : {E : Type 0} (result : Result (Unit {0}) E) (table : Table) (before : Option (List Cell)) (after : List Cell) (rows new : RowMap) → IfSome before (λ row. key_of table.key row ≡ key_of table.key after)
    → OnOk result (new ≡ with_row table (Some after) rows) → OnOk result (new ≡ with_row table (Some after) (without_row table before rows))
set_over result table before after rows new same put = subst (λ m. OnOk result (new ≡ m)) (over_same table before after rows same) put

-- a row that is replaced in the table at hand: the change is applied, or nothing changes
replaced_in : (table : Table) (change : Change) (key row : List Cell) (hand new : OneAtHand) (done : Bool) → hand.table ≡ table.name → key ≡ key_of table.key row
    → change.after ≡ Some row → IfSome change.before (λ before. key_of table.key before ≡ key_of table.key row)
    → Replaces hand key row new done → new.rows.rows ≡ cond done (applied_in (Some table) change hand.rows.rows) hand.rows.rows
replaced_in table change key row hand new true named keyed after same put =
    put ∙ (λ i. insert hand.rows.rows (named i, keyed i) row) ∙ over_same table change.before row hand.rows.rows same
    ∙ ap (λ o. with_row table o (without_row table change.before hand.rows.rows)) (sym after)
replaced_in table change key row hand new false named keyed after same put = ap (λ (h : OneAtHand). h.rows.rows) put.1

pub all_replaced : {E : Type 0} (result : Result Bool E) (table : Table) (change : Change) (key row : List Cell) (hand new : OneAtHand) → hand.table ≡ table.name → key ≡ key_of table.key row
    → change.after ≡ Some row → IfSome change.before (λ before. key_of table.key before ≡ key_of table.key row)
    → IfOk result (Replaces hand key row new) → IfOk result (λ done. new.rows.rows ≡ cond done (applied_in (Some table) change hand.rows.rows) hand.rows.rows)
all_replaced (Ok done) table change key row hand new named keyed after same put = replaced_in table change key row hand new done named keyed after same put
all_replaced (Err e) table change key row hand new named keyed after same put = put
