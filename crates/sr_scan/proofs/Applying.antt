-- What stands at the key of a change that fits, before it and behind it.
use Rattle.std.proofs.Common.{◌≡◌, true, cond, List, [], ◌∷◌, ◌++◌, Option, Some, None, bytes_eq, refl, sym, ap, subst, ◌∙◌}
use Rattle.std.specs.Cmp.{eq_by_cmp_equiv}
use Rattle.std.specs.FinMap.{get, insert, remove, get-insert, get-remove}
use Rattle.std.specs.Ordering.{eq_by_cmp}
use Rattle.sr_base.specs.declared.value.Value.{Value as Cell}
use Rattle.sr_book.specs.Entries.{Name}
use Rattle.sr_exec_dml.specs.Applying.{without_row, with_row, applied_in, applied}
use Rattle.sr_exec_dml.specs.Fitting.{RowsFit}
use Rattle.sr_exec_fits.specs.Rows.{IsRow}
use Rattle.sr_exec_dml.specs.FittingChanges.{FitsAt, IsFitChange, ChangesFit}
use Rattle.sr_exec_where.specs.Keys.{key_of}
use Rattle.sr_exec_dml.specs.Statements.{table_named}
use Rattle.sr_exec_where.proofs.Fixed.{same_name}
use Rattle.sr_logform.specs.declared.change.Change.{Change}
use Rattle.sr_rows.specs.Marks.{Place, place_cmp, RowMap, rows_of_table}
use Rattle.sr_rows.specs.Inner.Marks.{place_cmp_total}
use Rattle.sr_catalog_schema.specs.Catalogs.{Lists}
use Rattle.sr_catalog_schema.specs.declared.table.Table.{Table}
use Rattle.sr_publish.proofs.Orderly.{find_passes}

-- the place where a row stands
abbrev at : Table → List Cell → Place
at t key = (t.name, key)

place_itself : (p : Place) → eq_by_cmp place_cmp p p ≡ true
place_itself = (eq_by_cmp_equiv place_cmp_total).refl

-- what was put is there
put_there : (rows : RowMap) (p : Place) (row : List Cell) → get (insert rows p row) p ≡ Some row
put_there rows p row = get-insert place_cmp_total rows p row p ∙ ap (λ b. cond b (Some row) (get rows p)) (place_itself p)

-- what was taken is not
taken_away : (rows : RowMap) (p : Place) → get (remove rows p) p ≡ None
taken_away rows p = get-remove place_cmp_total rows p p ∙ ap (λ b. cond b None (get rows p)) (place_itself p)

-- behind a change of the row under a key, the row after stands there
pub stands_after : (t : Table) (rows : RowMap) (key : List Cell) (before after : Option (List Cell)) → get rows (t.name, key) ≡ before
    → ((row : List Cell) → before ≡ Some row → key_of t.key row ≡ key) → ((row : List Cell) → after ≡ Some row → key_of t.key row ≡ key)
    → get (with_row t after (without_row t before rows)) (t.name, key) ≡ after
stands_after t rows key None None held f g = held
stands_after t rows key (Some b) None held f g =
    ap (λ k. get (remove rows (t.name, k)) (t.name, key)) (f b refl) ∙ taken_away rows (t.name, key)
stands_after t rows key before (Some a) held f g =
    ap (λ k. get (insert (without_row t before rows) (t.name, k) a) (t.name, key)) (g a refl) ∙ put_there (without_row t before rows) (t.name, key) a

-- a table stands under its name
pub name_of_table : (c : Lists) (name : Name) (t : Table) → table_named c name ≡ Some t → name ≡ t.name
name_of_table c name t e = same_name name t.name (find_passes (λ x. bytes_eq name x.name) c.tables t e)

module _ (c : Lists) (rows : RowMap) (ch : Change) (f : IsFitChange c rows ch) where
  named_so : ch.table ≡ f.table.name
  named_so = name_of_table c ch.table f.table f.named

  -- the row before fits the table and stands under the key
  pub before_fits : RowsFit c rows → (row : List Cell) → ch.before ≡ Some row → IsRow f.table.columns row × (key_of f.table.key row ≡ f.key)
  before_fits fit row e = fit.each ch.table f.table f.named f.key row (ap (λ n. rows_of_table rows n f.key) (sym named_so) ∙ (f.held ∙ e))

  -- and so does the row after
  pub after_fits : (row : List Cell) → ch.after ≡ Some row → IsRow f.table.columns row × (key_of f.table.key row ≡ f.key)
  after_fits row e = subst (λ (o : Option (List Cell)). FitsAt f.table f.key o) e f.fits

  -- which is what stands there behind the change
  pub holds_after : RowsFit c rows → rows_of_table (applied_in (table_named c ch.table) ch rows) ch.table f.key ≡ ch.after
  holds_after fit = ap (λ o. get (applied_in o ch rows) (ch.table, f.key)) f.named
      ∙ (ap (λ n. get (applied_in (Some f.table) ch rows) (n, f.key)) named_so
      ∙ stands_after f.table rows f.key ch.before ch.after (ap (λ n. rows_of_table rows n f.key) (sym named_so) ∙ f.held)
      (λ row e. (before_fits fit row e).1) (λ row e. (after_fits row e).1))

-- changes that fit, and what fits behind them
pub first_fit : (c : Lists) (xs ys : List Change) (rows : RowMap) → ChangesFit c rows (xs ++ ys) → ChangesFit c rows xs
first_fit c [] ys rows f = tt
first_fit c (x ∷ xs) ys rows f = (f.0, first_fit c xs ys (applied_in (table_named c x.table) x rows) f.1)

pub last_fits : (c : Lists) (xs : List Change) (rows : RowMap) (ch : Change) → ChangesFit c rows (xs ++ ch ∷ []) → IsFitChange c (applied c xs rows) ch
last_fits c [] rows ch f = f.0
last_fits c (x ∷ xs) rows ch f = last_fits c xs (applied_in (table_named c x.table) x rows) ch f.1

pub applied-append : (c : Lists) (xs ys : List Change) (rows : RowMap) → applied c (xs ++ ys) rows ≡ applied c ys (applied c xs rows)
applied-append c [] ys rows = refl
applied-append c (x ∷ xs) ys rows = applied-append c xs ys (applied_in (table_named c x.table) x rows)
