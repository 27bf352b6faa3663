-- Rows that fit a catalog fit what an accepted statement makes of it.
use Rattle.std.proofs.Common.{◌≡◌, ◌++◌, Bool, true, false, not, cond, ℕ, List, [], ◌∷◌, Option, Some, None, IsSome, bytes_eq, refl, sym, ap, subst, ◌∙◌, find, filter}
use Rattle.std.specs.Option.{is_some}
use Rattle.std.specs.Cmp.{eq_by_cmp_equiv}
use Rattle.std.specs.Ordering.{eq_by_cmp}
use Rattle.std.specs.FinMap.{get, get-retain_keys}
use Rattle.std.proofs.lemmas.Map.Text.{is_eq-slice_cmp}
use Rattle.sr_base.specs.declared.value.Value.{Value as Cell}
use Rattle.sr_base.specs.Order.{name_cmp}
use Rattle.sr_base.specs.Inner.Order.{name_cmp_total}
use Rattle.sr_ast.specs.declared.create.CreateTable.{CreateTable}
use Rattle.sr_ast.specs.declared.stmt.Stmt.{Stmt}
use Rattle.sr_ast.specs.declared.stmt.Stmt.TheVariants as stmt
use Rattle.sr_catalog_change.specs.Changes.{refusal, next}
use Rattle.sr_catalog_ddl.specs.Tables.{table_of}
use Rattle.sr_exec_dml.specs.Fitting.{TableFits, RowsFit}
use Rattle.sr_exec_dml.specs.Statements.{table_named}
use Rattle.sr_exec_where.proofs.Fixed.{same_name}
use Rattle.sr_catalog_script_laws.proofs.ReplayLists.{found_as_taken, named-without}
use Rattle.sr_catalog_script_laws.proofs.ReplayTables.{table_made}
use Rattle.sr_rows.specs.Marks.{Place, RowMap}
use Rattle.sr_rows.specs.Steps.{without_table}
use Rattle.sr_rows.proofs.Gathering.{exact_places}
use Rattle.sr_catalog_schema.specs.Catalogs.{Lists}
use Rattle.sr_catalog_schema.specs.Members.{table_name}
use Rattle.sr_catalog_schema.specs.Names.{named, without}
use Rattle.sr_catalog_schema.specs.declared.table.Table.{Table}
use Rattle.sr_database_history.specs.Folds.{rows_left}

-- ---- finding behind others, and among those that are left

pub find_first : {A : Type 0} (p : A → Bool) (xs ys : List A) (x : A) → find p xs ≡ Some x → find p (xs ++ ys) ≡ Some x
find_first p [] ys x h = cc
find_first p (y ∷ xs) ys x h = elim (p y) as (λ b. cond b (Some y) (find p xs) ≡ Some x → cond b (Some y) (find p (xs ++ ys)) ≡ Some x) [
  | true ↦ λ k. k
  | false ↦ λ k. find_first p xs ys x k
] h

find_behind : {A : Type 0} (p : A → Bool) (xs ys : List A) → find p xs ≡ None → find p (xs ++ ys) ≡ find p ys
find_behind p [] ys h = refl
find_behind p (y ∷ xs) ys h = elim (p y) as (λ b. cond b (Some y) (find p xs) ≡ None → cond b (Some y) (find p (xs ++ ys)) ≡ find p ys) [
  | true ↦ λ k. cc
  | false ↦ λ k. find_behind p xs ys k
] h

-- what was left out is not found
find_left_out : {A : Type 0} (p : A → Bool) (xs : List A) → find p (filter (λ x. not (p x)) xs) ≡ None
find_left_out p [] = refl
find_left_out p (x ∷ xs) = elim (p x) as (λ b. p x ≡ b → find p (cond (not b) (x ∷ filter (λ y. not (p y)) xs) (filter (λ y. not (p y)) xs)) ≡ None) [
  | true ↦ λ e. find_left_out p xs
  | false ↦ λ e. ap (λ b. cond b (Some x) (find p (filter (λ y. not (p y)) xs))) e ∙ find_left_out p xs
] refl

nothing_there : {A B : Type 0} (o : Option A) → o ≡ None → IsSome o → B
nothing_there None e some = cc
nothing_there (Some x) e some = cc

-- ---- rows

-- what stands in the rows that are left
pub left_at : (rows : RowMap) (name : List ℕ) (p : Place) → get (without_table rows name) p ≡ cond (not (eq_by_cmp name_cmp name p.0)) (get rows p) None
left_at rows name p = get-retain_keys rows (λ q. not (eq_by_cmp name_cmp name q.0)) p (λ q e. ap (λ (n : Place). not (eq_by_cmp name_cmp name n.0))
    (sym (exact_places p q e)))

-- a row that is left stands in another table, and stood there before
left : (rows : RowMap) (name : List ℕ) (p : Place) (row : List Cell) → get (without_table rows name) p ≡ Some row
    → (bytes_eq name p.0 ≡ false) × (get rows p ≡ Some row)
left rows name p row h = go (eq_by_cmp name_cmp name p.0) refl (sym (left_at rows name p) ∙ h) where
  go : (b : Bool) → eq_by_cmp name_cmp name p.0 ≡ b → cond (not b) (get rows p) None ≡ Some row → (bytes_eq name p.0 ≡ false) × (get rows p ≡ Some row)
  go true e k = cc
  go false e k = (sym (is_eq-slice_cmp name p.0) ∙ e, k)

-- no row is left in a table that was taken out
pub none_left : (rows : RowMap) (name : List ℕ) (key : List Cell) → get (without_table rows name) (name, key) ≡ None
none_left rows name key =
    left_at rows name (name, key) ∙ ap (λ b. cond (not b) (get rows (name, key)) None) ((eq_by_cmp_equiv name_cmp_total).refl name)

-- ---- the kinds of statements

-- where the tables are the same
same_tables : (c d : Lists) (rows : RowMap) → c.tables ≡ d.tables → RowsFit c rows → RowsFit d rows
same_tables c d rows same fits = record {
  each = λ name table is. fits.each name table (ap (named table_name name) same ∙ is);
  there = λ name key row h. subst IsSome (ap (named table_name name) same) (fits.there name key row h);
}

-- where a table comes whose name was free
module _ (c : Lists) (new : Table) (rows : RowMap) (free : table_named c new.name ≡ None) (fits : RowsFit c rows) where
  still_there : (name : List ℕ) (o : Option Table) → table_named c name ≡ o → IsSome o → IsSome (named table_name name (c.tables ++ new ∷ []))
  still_there name None e some = cc
  still_there name (Some t) e some = subst IsSome (sym (find_first (λ t. bytes_eq name t.name) c.tables (new ∷ []) t e)) refl

  -- no row stands in the new one
  new_fits : TableFits new rows
  new_fits key row h = nothing_there (table_named c new.name) free (fits.there new.name key row h)

  each_fits : (name : List ℕ) (table : Table) (o : Option Table) → table_named c name ≡ o
      → named table_name name (c.tables ++ new ∷ []) ≡ Some table → TableFits table rows
  each_fits name table (Some t) e is =
      let found : Some t ≡ Some table = sym (find_first (λ t. bytes_eq name t.name) c.tables (new ∷ []) t e) ∙ is in
      fits.each name table (e ∙ found)
  each_fits name table None e is = go (bytes_eq name new.name) (sym (find_behind (λ t. bytes_eq name t.name) c.tables (new ∷ []) e) ∙ is) where
    go : (b : Bool) → cond b (Some new) None ≡ Some table → TableFits table rows
    go true k = let one : new ≡ table = cc in subst (λ (t : Table). TableFits t rows) one new_fits
    go false k = cc

  one_more_table : (d : Lists) → d.tables ≡ c.tables ++ new ∷ [] → RowsFit d rows
  one_more_table d more = record {
    each = λ name table is. each_fits name table (table_named c name) refl (sym (ap (named table_name name) more) ∙ is);
    there = λ name key row h. subst IsSome (sym (ap (named table_name name) more)) (still_there name (table_named c name) refl (fits.there name key row h));
  }

-- where a table goes, and its rows with it
module _ (c : Lists) (gone : List ℕ) (rows : RowMap) (fits : RowsFit c rows) where
  other_fits : (name : List ℕ) (table : Table) (b : Bool) → bytes_eq gone name ≡ b → named table_name name (without table_name gone c.tables) ≡ Some table
      → TableFits table (without_table rows gone)
  other_fits name table true e is =
      let none : None ≡ Some table = sym (find_left_out (λ t. bytes_eq gone t.name) c.tables)
      ∙ ap (λ (n : List ℕ). named table_name n (without table_name gone c.tables)) (same_name gone name e) ∙ is in
      cc
  other_fits name table false e is = λ key row h.
      fits.each name table (sym (named-without table_name gone name c.tables e) ∙ is) key row (left rows gone (table.name, key) row h).1

  one_table_less : (d : Lists) → d.tables ≡ without table_name gone c.tables → RowsFit d (without_table rows gone)
  one_table_less d less = record {
    each = λ name table is. other_fits name table (bytes_eq gone name) refl (sym (ap (named table_name name) less) ∙ is);
    there = λ name key row h.
        let was = left rows gone (name, key) row h in
        subst IsSome (sym (named-without table_name gone name c.tables was.0) ∙ sym (ap (named table_name name) less)) (fits.there name key row was.1);
  }

-- the name of a table that may be created is free
not_found : {A : Type 0} (o : Option A) → is_some o ≡ false → o ≡ None
not_found None h = refl
not_found (Some x) h = cc

name_free : (c : Lists) (t : CreateTable) → refusal c (stmt.CreateTable t) ≡ None → table_named c (table_of t).name ≡ None
name_free c t accepted =
    not_found (table_named c (table_of t).name)
    (sym (found_as_taken (λ x. bytes_eq (table_of t).name x.name) c.tables) ∙ (table_made c t accepted).0.is_new)

-- rows that fit go on to fit behind an accepted statement
pub statement_keeps : (s : Stmt) (c : Lists) (rows : RowMap) → refusal c s ≡ None → RowsFit c rows → RowsFit (next c s) (rows_left s rows)
unfolding next
statement_keeps (stmt.CreateTable t) c rows accepted fits = one_more_table c (table_of t) rows (name_free c t accepted) fits (next c (stmt.CreateTable t)) refl
statement_keeps (stmt.DropTable name) c rows accepted fits = one_table_less c name rows fits (next c (stmt.DropTable name)) refl
statement_keeps s c rows accepted fits = same_tables c (next c s) rows refl fits
