-- Where rows fit, those with the changes of a statement applied fit.
use Rattle.std.proofs.Common.{◌≡◌, ◌++◌, Bool, true, false, cond, map, length, ℕ, List, [], ◌∷◌, Option, Some, None, IsSome, Result, Ok, Err, bytes_eq, refl, sym, ap, subst, ◌∙◌}
use Rattle.std.specs.List.{AllByRecursion, find as find_in}
use Rattle.std.specs.Cmp.{Equal-is}
use Rattle.std.specs.Ordering.{eq_by_cmp}
use Rattle.std.specs.FinMap.{get, empty, insert, remove, get-empty, get-insert, get-remove, find}
use Rattle.sr_base.specs.Order.{key_cmp}
use Rattle.sr_ast.specs.declared.expr.Expr.{Expr}
use Rattle.sr_ast.specs.declared.query.Dml.TheVariants as dml
use Rattle.sr_ast.specs.declared.query.Insert.{Insert}
use Rattle.sr_rows.specs.Marks.{Place, RowMap, place_cmp, rows_of_table}
use Rattle.sr_rows.specs.Inner.Marks.{place_cmp_total}
use Rattle.sr_rows.specs.Walks.{Entry, table_rows}
use Rattle.sr_rows.proofs.Gathering.{exact_places}
use Rattle.sr_rows.proofs.Listing.{get-table_rows, table_rows-rise, each_found}
use Rattle.sr_logform.specs.declared.change.Change.{Change}
use Rattle.sr_catalog_schema.specs.Catalogs.{Lists}
use Rattle.sr_catalog_schema.specs.declared.table.Table.{Table}
use Rattle.sr_catalog_schema.specs.declared.fault.DmlFault.{DmlFault}
use Rattle.sr_exec_dml.specs.declared.changes.Changes.{Changes}
use Rattle.sr_exec_dml.specs.Applying.{place_of, without_row, with_row, applied_in, applied}
use Rattle.sr_exec_where.specs.Checks.{unknown_condition, bad_condition, unknown_in_insert, bad_in_insert, unknown_in_update, bad_in_update}
use Rattle.sr_catalog_schema.specs.Members.{scope_of}
use Rattle.sr_exec_dml.specs.Fitting.{TableFits, RowsFit}
use Rattle.sr_exec_fits.specs.Rows.{IsRow}
use Rattle.sr_exec_dml.specs.Holding.{held}
use Rattle.sr_exec_dml.specs.FittingChanges.{FitsAt, ChangesFit}
use Rattle.sr_exec_dml.specs.Inner.Laws.{StandUnderKeys, NoRowsFit, RowsStayFit, FittingChangesKeepFit, StatementsChangesFit}
use Rattle.sr_exec_dml.specs.Sequences.{followed}
use Rattle.sr_exec_dml.specs.Statements.{in_order, entry_of, counted, inserted_rows, inserted, staying, becoming, selections, moved, effects_of, updated, deleted, on_table, table_named}
use Rattle.sr_exec_where.specs.Keys.{key_of}
use Rattle.sr_exec_dml.proofs.Afterwards.{all_stand}
use Rattle.sr_exec_dml.proofs.FitChanges.{both_stand, entries_stand, moved_stand, held_changes_fit}
use Rattle.sr_exec_dml.proofs.Folding.{Key}
use Rattle.sr_exec_where.proofs.Fixed.{same_name}
use Rattle.sr_exec_dml.proofs.Keeping.{AllFit, inserts_keep_fit, moves_keep_fit}

-- the rows of a table as a list fit it
table_fits : (table : Table) (rows : RowMap) → TableFits table rows → AllFit table (table_rows rows table.name)
table_fits table rows fits = all (table_rows rows table.name) (each_found (table_rows rows table.name) (table_rows-rise rows table.name)) where
  all : (es : List Entry) → AllByRecursion (λ x. find key_cmp x.0 (table_rows rows table.name) ≡ Some x.1) es → AllFit table es
  all [] h = tt
  all (e ∷ es) h = ((fits e.0 e.1 (get-table_rows rows table.name e.0 ∙ h.0)).0, all es h.1)

-- a change to a row that fits
abbrev ToFit : Table → Change → Type 0
ToFit table c = (c.table ≡ table.name) × ((row : Key) → c.after ≡ Some row → IsRow table.columns row)

after_fits : (table : Table) (key : Key) (o : Option Key) → FitsAt table key o → (row : Key) → o ≡ Some row → IsRow table.columns row
after_fits table key None f row h = cc
after_fits table key (Some x) f row h = let is : x ≡ row = cc in subst (IsRow table.columns) is f.0

-- answers that are no refusals
pub in_order-Ok : {A : Type 0} (unknown bad : Option (List ℕ)) (r : Result A DmlFault) (x : A) → in_order unknown bad r ≡ Ok x → r ≡ Ok x
in_order-Ok (Some c) bad r x h = cc
in_order-Ok None (Some n) r x h = cc
in_order-Ok None None r x h = h

pub followed-Ok : {A B E : Type 0} (r : Result A E) (next : A → Result B E) (y : B) → followed r next ≡ Ok y → (x : A) × (r ≡ Ok x) × (next x ≡ Ok y)
followed-Ok (Err e) next y h = cc
followed-Ok (Ok x) next y h = (x, refl, h)

-- a table stands under its name
pub found_named : (name : List ℕ) (ts : List Table) (table : Table) → find_in (λ t. bytes_eq name t.name) ts ≡ Some table → bytes_eq name table.name ≡ true
found_named name [] table h = cc
found_named name (t ∷ ts) table h = go (bytes_eq name t.name) refl h (found_named name ts table) where
  go : (b : Bool) → bytes_eq name t.name ≡ b → cond b (Some t) (find_in (λ t. bytes_eq name t.name) ts) ≡ Some table → (find_in (λ t. bytes_eq name t.name) ts ≡ Some table → bytes_eq name table.name ≡ true) → bytes_eq name table.name ≡ true
  go true e k rest = let is : t ≡ table = cc in subst (λ x. bytes_eq name x.name ≡ true) is e
  go false e k rest = rest k

module _ (catalog : Lists) where
  pub own_name : (name : List ℕ) (table : Table) → table_named catalog name ≡ Some table → table_named catalog table.name ≡ Some table
  own_name name table is = ap (table_named catalog) (sym (same_name name table.name (found_named name catalog.tables table is))) ∙ is

  -- one change
  taken_fits : (rows : RowMap) (p : Place) → RowsFit catalog rows → RowsFit catalog (remove rows p)
  taken_fits rows p fits = record {
    each = λ name t is key row h. fits.each name t is key row (kept (t.name, key) row h);
    there = λ name key row h. fits.there name key row (kept (name, key) row h);
  } where
    kept : (q : Place) (row : Key) → get (remove rows p) q ≡ Some row → get rows q ≡ Some row
    kept q row h = go (eq_by_cmp place_cmp q p) (sym (get-remove place_cmp_total rows p q) ∙ h) where
      go : (b : Bool) → cond b None (get rows q) ≡ Some row → get rows q ≡ Some row
      go true e = cc
      go false e = e

  put_fits : (table : Table) (row : Key) (rows : RowMap) → table_named catalog table.name ≡ Some table → IsRow table.columns row → RowsFit catalog rows → RowsFit catalog (insert rows (place_of table row) row)
  put_fits table row rows named fit fits = record { each = each; there = there } where
    put_or_kept : {A : Type 0} (q : Place) (found : Key) → get (insert rows (place_of table row) row) q ≡ Some found → (q ≡ place_of table row → row ≡ found → A) → (get rows q ≡ Some found → A) → A
    put_or_kept {A} q found h new old = go (eq_by_cmp place_cmp q (place_of table row)) refl (sym (get-insert place_cmp_total rows (place_of table row) row q) ∙ h) where
      go : (b : Bool) → eq_by_cmp place_cmp q (place_of table row) ≡ b → cond b (Some row) (get rows q) ≡ Some found → A
      go false e k = old k
      go true e k = let is : row ≡ found = cc in new (exact_places q (place_of table row) ((Equal-is (place_cmp q (place_of table row))).0 e)) is

    each : (name : List ℕ) (t : Table) → table_named catalog name ≡ Some t → TableFits t (insert rows (place_of table row) row)
    each name t is key found h = put_or_kept (t.name, key) found h
        (λ same rows_are.
        let tables : Some t ≡ Some table = sym (own_name name t is) ∙ ap (λ (p : Place). table_named catalog p.0) same ∙ named in
        let one : table ≡ t = cc in
        subst (λ (x : Table × Key). IsRow x.0.columns x.1 × (key_of x.0.key x.1 ≡ key)) (λ i. (one i, rows_are i)) (fit, sym (ap (λ (p : Place). p.1) same)))
        (fits.each name t is key found)

    there : (name : List ℕ) (key found : Key) → rows_of_table (insert rows (place_of table row) row) name key ≡ Some found → IsSome (table_named catalog name)
    there name key found h = put_or_kept (name, key) found h
        (λ same rows_are. let is : table_named catalog name ≡ Some table = ap (λ (p : Place). table_named catalog p.0) same ∙ named in subst IsSome (sym is) refl)
        (fits.there name key found)

  change_fits : (table : Table) (c : Change) (rows : RowMap) → table_named catalog table.name ≡ Some table → ToFit table c → RowsFit catalog rows → RowsFit catalog (applied_in (table_named catalog c.table) c rows)
  change_fits table c rows named fit fits = subst (λ o. RowsFit catalog (applied_in o c rows)) (sym (ap (table_named catalog) fit.0 ∙ named)) (put c.after fit.1 (without c.before)) where
    without : (before : Option Key) → RowsFit catalog (without_row table before rows)
    without None = fits
    without (Some row) = taken_fits rows (place_of table row) fits

    put : (after : Option Key) → ((row : Key) → after ≡ Some row → IsRow table.columns row) → RowsFit catalog (without_row table c.before rows) → RowsFit catalog (with_row table after (without_row table c.before rows))
    put None f g = g
    put (Some row) f g = put_fits table row (without_row table c.before rows) named (f row refl) g

  -- changes that fit
  all_keep : (changes : List Change) (rows : RowMap) → RowsFit catalog rows → ChangesFit catalog rows changes → RowsFit catalog (applied catalog changes rows)
  all_keep [] rows fits f = fits
  all_keep (c ∷ cs) rows fits f =
      let t = f.0.table in
      let is : c.table ≡ t.name = same_name c.table t.name (found_named c.table catalog.tables t f.0.named) in
      all_keep cs (applied_in (table_named catalog c.table) c rows) (change_fits t c rows (own_name c.table t f.0.named) (is, after_fits t f.0.key c.after f.0.fits) fits) f.1

  -- a statement's changes
  module _ (rows : RowMap) (changes : Changes) (fits : RowsFit catalog rows) where
    held_fits : (table : Table) (after : List Entry) (count : ℕ) → table_named catalog table.name ≡ Some table → StandUnderKeys table after → AllFit table after → followed (held table.name (table_rows rows table.name) after) (counted count) ≡ Ok changes → ChangesFit catalog rows changes.list
    held_fits table after count named stand f h = go (held table.name (table_rows rows table.name) after) refl h where
      go : (r : Result (List Change) DmlFault) → held table.name (table_rows rows table.name) after ≡ r → followed r (counted count) ≡ Ok changes → ChangesFit catalog rows changes.list
      go (Err e) p k = cc
      go (Ok list) p k =
          let made : Changes = record { list = list; count = count } in
          let is : made ≡ changes = cc in
          subst (λ (c : Changes). ChangesFit catalog rows c.list) is (held_changes_fit catalog table rows after list named (fits.each table.name table named) stand f p)

    insert_fits : (table : Table) (i : Insert) → table_named catalog table.name ≡ Some table → inserted table i (table_rows rows table.name) ≡ Ok changes → ChangesFit catalog rows changes.list
    insert_fits table i named h =
        let before = table_rows rows table.name in
        let then : List Key → Result Changes DmlFault = λ added. followed (held table.name before (before ++ map (entry_of table) added)) (counted (length added)) in
        let found = followed-Ok (inserted_rows table i) then changes (in_order-Ok (unknown_in_insert table i) (bad_in_insert table i) (followed (inserted_rows table i) then) changes h) in
        held_fits table (before ++ map (entry_of table) found.0) (length found.0) named
        (both_stand table before (map (entry_of table) found.0) (all_stand table rows (fits.each table.name table named)) (entries_stand table found.0))
        (inserts_keep_fit table i before found.0 (table_fits table rows (fits.each table.name table named)) found.1) found.2

    move_fits : (table : Table) (sets : Option (List (List ℕ × Expr))) (condition : Option Expr) → table_named catalog table.name ≡ Some table
        → followed (effects_of table sets condition (table_rows rows table.name)) (moved table (table_rows rows table.name)) ≡ Ok changes → ChangesFit catalog rows changes.list
    move_fits table sets condition named h =
        let before = table_rows rows table.name in
        let found = followed-Ok (effects_of table sets condition before) (moved table before) changes h in
        held_fits table (staying before found.0 ++ map (entry_of table) (becoming found.0)) (selections found.0) named
        (moved_stand table before found.0 (all_stand table rows (fits.each table.name table named)))
        (moves_keep_fit table sets condition before found.0 (table_fits table rows (fits.each table.name table named)) found.1) found.2

    on_fits : (name : List ℕ) (f : Table → Result Changes DmlFault) → ((table : Table) → table_named catalog table.name ≡ Some table → f table ≡ Ok changes → ChangesFit catalog rows changes.list)
        → on_table name (table_named catalog name) f ≡ Ok changes → ChangesFit catalog rows changes.list
    on_fits name f g h = go (table_named catalog name) refl h where
      go : (o : Option Table) → table_named catalog name ≡ o → on_table name o f ≡ Ok changes → ChangesFit catalog rows changes.list
      go None e k = cc
      go (Some table) e k = g table (own_name name table e) k

pub statements_changes_fit : StatementsChangesFit
statements_changes_fit catalog rows (dml.Insert i) changes fits h =
    on_fits catalog rows changes fits i.table (λ table. inserted table i (table_rows rows table.name)) (λ table named is. insert_fits catalog rows changes fits table i named is) h
statements_changes_fit catalog rows (dml.Update u) changes fits h =
    on_fits catalog rows changes fits u.table (λ table. updated table u (table_rows rows table.name))
    (λ table named is. move_fits catalog rows changes fits table (Some u.sets) u.condition named
    (in_order-Ok (unknown_in_update table u) (bad_in_update table u) (followed (effects_of table (Some u.sets) u.condition (table_rows rows table.name)) (moved table (table_rows rows table.name))) changes is)) h
statements_changes_fit catalog rows (dml.Delete d) changes fits h =
    on_fits catalog rows changes fits d.table (λ table. deleted table d (table_rows rows table.name))
    (λ table named is. move_fits catalog rows changes fits table None d.condition named
    (in_order-Ok (unknown_condition (scope_of table) d.condition) (bad_condition (scope_of table) table.name d.condition) (followed (effects_of table None d.condition (table_rows rows table.name)) (moved table (table_rows rows table.name))) changes is)) h

pub fitting_changes_keep : FittingChangesKeepFit
fitting_changes_keep catalog rows changes fits f = all_keep catalog changes rows fits f

pub rows_stay_fit : RowsStayFit
rows_stay_fit catalog rows statement changes fits h = all_keep catalog changes.list rows fits (statements_changes_fit catalog rows statement changes fits h)

pub no_rows_fit : NoRowsFit
no_rows_fit catalog = record { each = λ name table is key row h. none (table.name, key) row h; there = λ name key row h. none (name, key) row h } where
  none : {A : Type 0} (p : Place) (row : Key) → get (empty {R = place_cmp}) p ≡ Some row → A
  none p row h = let gone : None ≡ Some row = sym (get-empty place_cmp p) ∙ h in cc
