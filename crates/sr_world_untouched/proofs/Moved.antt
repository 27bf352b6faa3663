-- Rows under a key where others change.
use Rattle.std.proofs.Common.{◌≡◌, ℕ, Bool, true, false, not, cond, List, Option, Some, None, refl, sym, ap, ◌∙◌}
use Rattle.std.specs.Cmp.{Equal-is}
use Rattle.std.specs.FinMap.{get, get-insert, get-remove}
use Rattle.std.specs.Ordering.{eq_by_cmp, is_eq}
use Rattle.std.proofs.lemmas.Map.Text.{is_eq-slice_cmp}
use Rattle.sr_ast.specs.declared.stmt.Stmt.{Stmt}
use Rattle.sr_ast.specs.declared.stmt.Stmt.TheVariants as stmt
use Rattle.sr_base.specs.Order.{key_cmp, name_cmp}
use Rattle.sr_base.specs.declared.value.Value.{Value as Cell}
use Rattle.sr_book.specs.Entries.{Name}
use Rattle.sr_catalog_change.specs.Changes.{refusal}
use Rattle.sr_exec_where.proofs.Fixed.{same_name}
use Rattle.sr_exec_dml.proofs.Folding.{itself}
use Rattle.sr_exec_dml.specs.Applying.{place_of, without_row, with_row, applied_in}
use Rattle.sr_exec_dml.specs.Fitting.{RowsFit}
use Rattle.sr_exec_dml.specs.FittingChanges.{IsFitChange}
use Rattle.sr_exec_where.specs.Keys.{key_of}
use Rattle.sr_exec_dml.specs.Statements.{table_named}
use Rattle.sr_database_history.proofs.Tables.{left_at}
use Rattle.sr_database_history.specs.Folds.{rows_left}
use Rattle.sr_logform.specs.declared.change.Change.{Change}
use Rattle.sr_publish.proofs.Sources.{dropped_subscribed_table}
use Rattle.sr_publish.specs.SubscribedTables.{SubscribedTable, subscribed_table_of}
use Rattle.sr_rows.proofs.Gathering.{exact_places}
use Rattle.sr_rows.specs.Marks.{Place, RowMap, place_cmp, rows_of_table}
use Rattle.sr_rows.specs.Inner.Marks.{place_cmp_total}
use Rattle.sr_scan.proofs.Applying.{name_of_table, before_fits, after_fits}
use Rattle.sr_catalog_schema.specs.Catalogs.{Lists}
use Rattle.sr_catalog_schema.specs.declared.table.Table.{Table}
use Rattle.sr_world_untouched.proofs.Told.{Row, IsOther}

-- ---- changes

apart : (p q : Place) → ¬ (p ≡ q) → eq_by_cmp place_cmp p q ≡ false
apart p q other = go (eq_by_cmp place_cmp p q) refl
  where
    go : (b : Bool) → eq_by_cmp place_cmp p q ≡ b → eq_by_cmp place_cmp p q ≡ false
    go true e = absurd (other (exact_places p q ((Equal-is (place_cmp p q)).0 e)))
    go false e = e

module _ (t : Table) (name : List ℕ) (key : List Cell) (other : (row : List Cell) → Type 0) (apart_from : (row : List Cell) → other row → eq_by_cmp place_cmp (name, key) (place_of t row) ≡ false) where
  without_stays : (before : Row) (rows : RowMap) → ((row : List Cell) → before ≡ Some row → other row) → rows_of_table (without_row t before rows) name key ≡ rows_of_table rows name key
  without_stays None rows f = refl
  without_stays (Some row) rows f =
      get-remove place_cmp_total rows (place_of t row) (name, key) ∙ ap (λ (b : Bool). cond b None (get rows (name, key))) (apart_from row (f row refl))

  with_stays : (after : Row) (rows : RowMap) → ((row : List Cell) → after ≡ Some row → other row) → rows_of_table (with_row t after rows) name key ≡ rows_of_table rows name key
  with_stays None rows f = refl
  with_stays (Some row) rows f =
      get-insert place_cmp_total rows (place_of t row) row (name, key) ∙ ap (λ (b : Bool). cond b (Some row) (get rows (name, key))) (apart_from row (f row refl))

-- a change of another table, or under another key, leaves a row
pub row_stays : (c : Lists) (rows : RowMap) (ch : Change) (f : IsFitChange c rows ch) → RowsFit c rows → (name : List ℕ) (key : List Cell) → (ch.table ≡ name → IsOther key f.key)
    → rows_of_table (applied_in (table_named c ch.table) ch rows) name key ≡ rows_of_table rows name key
row_stays c rows ch f fit name key other =
    ap (λ (o : Option Table). rows_of_table (applied_in o ch rows) name key) f.named
    ∙ with_stays f.table name key (λ row. key_of f.table.key row ≡ f.key) apart_from ch.after (without_row f.table ch.before rows) (λ row e. (after_fits c rows ch f row e).1)
    ∙ without_stays f.table name key (λ row. key_of f.table.key row ≡ f.key) apart_from ch.before rows (λ row e. (before_fits c rows ch f fit row e).1)
  where
    apart_from : (row : List Cell) → key_of f.table.key row ≡ f.key → eq_by_cmp place_cmp (name, key) (place_of f.table row) ≡ false
    apart_from row is = apart (name, key) (place_of f.table row) (λ same.
        let here : ch.table ≡ name = name_of_table c ch.table f.table f.named ∙ sym (ap (λ (p : Place). p.0) same) in
        let keys : key ≡ f.key = ap (λ (p : Place). p.1) same ∙ is in
        let yes : is_eq (key_cmp key f.key) ≡ true = ap (λ (k : List Cell). is_eq (key_cmp k f.key)) keys ∙ itself f.key in
        let no : is_eq (key_cmp key f.key) ≡ false = other here in
        cc)

-- ---- statements

none_some : {A B : Type 0} (x : A) → None ≡ Some x → B
none_some x e = cc

-- an accepted statement leaves the rows of a table that a user has
pub rows_stay : (statement : Stmt) (c : Lists) (rows : RowMap) (user table : Name) (subscribed_table : SubscribedTable) (key : List Cell) → refusal c statement ≡ None → subscribed_table_of c user table ≡ Some subscribed_table
    → rows_of_table (rows_left statement rows) table key ≡ rows_of_table rows table key
rows_stay (stmt.DropTable name) c rows user table subscribed_table key accepted has = left_at rows name (table, key) ∙ go (eq_by_cmp name_cmp name table) refl
  where
    go : (b : Bool) → eq_by_cmp name_cmp name table ≡ b → cond (not b) (get rows (table, key)) None ≡ get rows (table, key)
    go false e = refl
    go true e =
        let same : name ≡ table = same_name name table (sym (is_eq-slice_cmp name table) ∙ e) in
        none_some subscribed_table (sym (dropped_subscribed_table c user name accepted) ∙ ap (subscribed_table_of c user) same ∙ has)
rows_stay statement c rows user table subscribed_table key accepted has = refl
