-- What a change that fits gives by its images is what the views before and behind it differ in.
use Rattle.std.proofs.Common.{◌≡◌, true, ◌&&◌, List, [], ◌∷◌, ◌++◌, Option, Some, None, refl, sym, ap, ap₂, subst, ◌∙◌}
use Rattle.std.specs.Ordering.{eq_by_cmp}
use Rattle.sr_base.specs.Order.{value_cmp}
use Rattle.sr_base.specs.declared.value.Value.{Value as Cell}
use Rattle.sr_book.specs.Entries.{Name}
use Rattle.sr_exec_dml.specs.Applying.{applied_in, without_row, with_row}
use Rattle.sr_exec_dml.specs.Fitting.{RowsFit}
use Rattle.sr_exec_fits.specs.Rows.{IsRow}
use Rattle.sr_exec_dml.specs.FittingChanges.{IsFitChange, ChangesFit}
use Rattle.sr_exec_where.specs.Keys.{key_of}
use Rattle.sr_exec_dml.specs.Statements.{table_named}
use Rattle.sr_exec_dml.proofs.Applied.{fitting_changes_keep}
use Rattle.sr_database_history.specs.Folds.{State, with_changes}
use Rattle.sr_logform.specs.declared.change.Change.{Change}
use Rattle.sr_publish.specs.SubscribedTables.{SubscribedTable, subscribed_table_in, source_of, subscribed_table_of}
use Rattle.sr_publish.specs.Views.{shown_row}
use Rattle.sr_exec_fits.proofs.Rows.{value_itself}
use Rattle.sr_rows.specs.Marks.{RowMap, rows_of_table}
use Rattle.sr_catalog_schema.specs.Catalogs.{Lists}
use Rattle.sr_catalog_schema.specs.declared.publication.Article.{Article}
use Rattle.sr_catalog_schema.specs.declared.table.Column.{Column}
use Rattle.sr_catalog_schema.specs.declared.table.Table.{Table}
use Rattle.sr_scan.specs.Ops.{differing, listed_in, update_of, told_of, key_of_rows, key_changed}
use Rattle.sr_scan.specs.Given.{view_in, change_given, changes_given}
use Rattle.sr_scan.specs.Inner.Images.{fits_if, images_told, change_told, changes_told}
use Rattle.sr_scan.proofs.Applying.{before_fits, after_fits, holds_after}
use Rattle.sr_scan.proofs.Sames.{cond_true}
use Rattle.std.proofs.lemmas.Bool.{and_from}
use Rattle.sr_base.proofs.Truths.{some_is}

-- a subscribed table is of the table of its name
subscribed_table_in_table : (c : Lists) (user : Name) (t : Option Table) (source : Option (Name × Article)) (s : SubscribedTable) → subscribed_table_in c user t source ≡ Some s → t ≡ Some s.table
subscribed_table_in_table c user None source s e = cc
subscribed_table_in_table c user (Some t) None s e = cc
subscribed_table_in_table c user (Some t) (Some p) s e = ap (λ (x : SubscribedTable). Some x.table) (some_is e)

pub subscribed_table_table : (c : Lists) (user table : Name) (s : SubscribedTable) → subscribed_table_of c user table ≡ Some s → table_named c table ≡ Some s.table
unfolding subscribed_table_of
subscribed_table_table c user table s e = subscribed_table_in_table c user (table_named c table) (source_of c user table) s e

-- a row differs from itself in nothing
differs_not : (columns : List Column) (row : List Cell) → differing columns row row ≡ []
differs_not [] row = refl
differs_not (c ∷ columns) [] = refl
differs_not (c ∷ columns) (v ∷ row) =
    cond_true (eq_by_cmp value_cmp v v) (differing columns row row) ((c.name, v, v) ∷ differing columns row row) (value_itself v) ∙ differs_not columns row

told_nothing : (s : SubscribedTable) (key : List Cell) (o : Option (List Cell)) → told_of s key o o ≡ []
told_nothing s key None = refl
told_nothing s key (Some row) = ap (λ updates. update_of s.table key (listed_in s row row updates)) (differs_not s.columns row)

-- a row that is there and fits passes the test
pub fits_there : (t : Table) (o : Option (List Cell)) → ((row : List Cell) → o ≡ Some row → IsRow t.columns row) → fits_if t o ≡ true
fits_there t None f = refl
fits_there t (Some row) f = f row refl

-- the key of a change, where its rows have one
pub key_is : (t : Table) (key : List Cell) (before after : Option (List Cell)) → ((row : List Cell) → before ≡ Some row → key_of t.key row ≡ key)
    → ((row : List Cell) → after ≡ Some row → key_of t.key row ≡ key) → ((before ≡ None) → (after ≡ None) → key_of_rows t before after ≡ key) → key_of_rows t before after ≡ key
key_is t key None None f g h = h refl refl
key_is t key None (Some a) f g h = g a refl
key_is t key (Some b) after f g h = f b refl

module _ (s : State) (user : Name) (c : Change) (fit : RowsFit s.catalog s.rows) (f : IsFitChange s.catalog s.rows c) where
  -- what the user sees under the key of the change, before it and behind it
  seen_before : (subscribed_table : Option SubscribedTable) → subscribed_table_of s.catalog user c.table ≡ subscribed_table → view_in s user c.table f.key ≡ shown_row subscribed_table c.before
  seen_before subscribed_table e = ap₂ (λ o r. shown_row o r) e f.held

  seen_after : (subscribed_table : Option SubscribedTable) → subscribed_table_of s.catalog user c.table ≡ subscribed_table → view_in (with_changes (c ∷ []) s) user c.table f.key ≡ shown_row subscribed_table c.after
  seen_after subscribed_table e = ap₂ (λ o r. shown_row o r) e (holds_after s.catalog s.rows c f fit)

  -- of a table that the user has
  by_subscribed_table : (subscribed_table : SubscribedTable) → subscribed_table_of s.catalog user c.table ≡ Some subscribed_table → f.table ≡ subscribed_table.table
      → change_given (Some subscribed_table) s user c ≡ images_told subscribed_table c.before c.after
  by_subscribed_table subscribed_table e same = go c.before c.after refl refl where
    key_before : (row : List Cell) → c.before ≡ Some row → key_of subscribed_table.table.key row ≡ f.key
    key_before row is = ap (λ (x : Table). key_of x.key row) (sym same) ∙ (before_fits s.catalog s.rows c f fit row is).1

    key_after : (row : List Cell) → c.after ≡ Some row → key_of subscribed_table.table.key row ≡ f.key
    key_after row is = ap (λ (x : Table). key_of x.key row) (sym same) ∙ (after_fits s.catalog s.rows c f row is).1

    fits : (fits_if subscribed_table.table c.before && fits_if subscribed_table.table c.after) ≡ true
    fits = and_from (fits_if subscribed_table.table c.before) (fits_if subscribed_table.table c.after)
        (fits_there subscribed_table.table c.before (λ row is. subst (λ (x : Table). IsRow x.columns row) same (before_fits s.catalog s.rows c f fit row is).0))
        (fits_there subscribed_table.table c.after (λ row is. subst (λ (x : Table). IsRow x.columns row) same (after_fits s.catalog s.rows c f row is).0))

    told : images_told subscribed_table c.before c.after ≡ told_of subscribed_table (key_of_rows subscribed_table.table c.before c.after) (shown_row (Some subscribed_table) c.before) (shown_row (Some subscribed_table) c.after)
    told = cond_true (fits_if subscribed_table.table c.before && fits_if subscribed_table.table c.after)
        (told_of subscribed_table (key_of_rows subscribed_table.table c.before c.after) (shown_row (Some subscribed_table) c.before) (shown_row (Some subscribed_table) c.after)) [] fits

    -- where the key of the rows is the key of the change
    at_key : key_of_rows subscribed_table.table c.before c.after ≡ f.key → change_given (Some subscribed_table) s user c ≡ images_told subscribed_table c.before c.after
    at_key is = ap (λ k. told_of subscribed_table k (view_in s user c.table k) (view_in (with_changes (c ∷ []) s) user c.table k)) is
        ∙ (ap₂ (λ v w. told_of subscribed_table f.key v w) (seen_before (Some subscribed_table) e) (seen_after (Some subscribed_table) e)
        ∙ (ap (λ k. told_of subscribed_table k (shown_row (Some subscribed_table) c.before) (shown_row (Some subscribed_table) c.after)) (sym is) ∙ sym told))

    -- a change of no row gives nothing either way
    nothing : c.before ≡ None → c.after ≡ None → change_given (Some subscribed_table) s user c ≡ images_told subscribed_table c.before c.after
    nothing b a =
        let k = key_changed subscribed_table.table c in
        let same_rows : applied_in (table_named s.catalog c.table) c s.rows ≡ s.rows =
        ap (λ o. applied_in o c s.rows) f.named ∙ ap₂ (λ (v w : Option (List Cell)). with_row f.table w (without_row f.table v s.rows)) b a in
        ap (λ (rows : RowMap). told_of subscribed_table k (view_in s user c.table k) (shown_row (subscribed_table_of s.catalog user c.table) (rows_of_table rows c.table k))) same_rows
        ∙ (told_nothing subscribed_table k (view_in s user c.table k) ∙ sym (ap₂ (λ v w. images_told subscribed_table v w) b a))

    go : (before after : Option (List Cell)) → c.before ≡ before → c.after ≡ after → change_given (Some subscribed_table) s user c ≡ images_told subscribed_table c.before c.after
    go None None b a = nothing b a
    go (Some row) after b a = at_key (ap₂ (λ v w. key_of_rows subscribed_table.table v w) b a ∙ key_before row b)
    go None (Some row) b a = at_key (ap₂ (λ v w. key_of_rows subscribed_table.table v w) b a ∙ key_after row a)

  pub change_same : (subscribed_table : Option SubscribedTable) → subscribed_table_of s.catalog user c.table ≡ subscribed_table → change_given subscribed_table s user c ≡ change_told subscribed_table c
  change_same None e = refl
  change_same (Some subscribed_table) e = by_subscribed_table subscribed_table e (some_is (sym f.named ∙ subscribed_table_table s.catalog user c.table subscribed_table e))

pub changes_same : (s : State) (user : Name) (changes : List Change) → RowsFit s.catalog s.rows → ChangesFit s.catalog s.rows changes
    → changes_given s user changes ≡ changes_told (subscribed_table_of s.catalog user) changes
changes_same s user [] fit f = refl
changes_same s user (c ∷ changes) fit f = ap₂ (λ x y. x ++ y) (change_same s user c fit f.0 (subscribed_table_of s.catalog user c.table) refl)
    (changes_same (with_changes (c ∷ []) s) user changes (fitting_changes_keep s.catalog s.rows (c ∷ []) fit (f.0, tt)) f.1)
