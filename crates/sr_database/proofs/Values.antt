-- A sound value: what holds of it, with pending changes and without.
use Rattle.std.proofs.Common.{◌≡◌, List, [], ◌∷◌, ◌++◌, refl, sym, ◌∙◌, ap, subst}
use Rattle.std.specs.List.{AllByRecursion}
use Rattle.sr_book.specs.Entries.{Name, booked}
use Rattle.sr_book.proofs.Folds.{book_more}
use Rattle.sr_database_files.specs.Books.{BookMap, book_in}
use Rattle.sr_exec_dml.specs.Applying.{applied, applied_in}
use Rattle.sr_exec_dml.specs.Fitting.{RowsFit}
use Rattle.sr_exec_dml.specs.FittingChanges.{ChangesFit}
use Rattle.sr_exec_dml.specs.Statements.{table_named}
use Rattle.sr_exec_dml.proofs.Applied.{fitting_changes_keep}
use Rattle.sr_database_history.specs.Fitting.{Fits, Stored}
use Rattle.sr_database_history.specs.Folds.{fresh, state_of, end_of, sees, books_of}
use Rattle.sr_database_history.specs.Inner.Laws.{Holds}
use Rattle.sr_database_history.specs.Recorded.{Recorded}
use Rattle.sr_database_history.proofs.Joined.{stored_from-more}
use Rattle.sr_logform.specs.Outcomes.{IsShortChange}
use Rattle.sr_logform.specs.declared.change.Change.{Change}
use Rattle.sr_rows.specs.Marks.{Marked, RowMap}
use Rattle.sr_rows.specs.Inner.Steps.{at_mark}
use Rattle.sr_catalog_schema.specs.Catalogs.{Lists}
use Rattle.sr_database.specs.Databases.{ArePending}
use Rattle.sr_database_replay.specs.Inner.Books.{BooksFollow}
use Rattle.sr_database.specs.Inner.Sound.{IsSound}
use Rattle.sr_database.specs.Views.{View}
use Rattle.sr_database.specs.Inner.Views.{present}

-- ---- changes behind others

pub applied_on : (catalog : Lists) (changes more : List Change) (rows : RowMap) → applied catalog (changes ++ more) rows ≡ applied catalog more (applied catalog changes rows)
applied_on catalog [] more rows = refl
applied_on catalog (c ∷ changes) more rows = applied_on catalog changes more (applied_in (table_named catalog c.table) c rows)

fit_on : (catalog : Lists) (changes more : List Change) (rows : RowMap) → ChangesFit catalog rows changes → ChangesFit catalog (applied catalog changes rows) more → ChangesFit catalog rows (changes ++ more)
fit_on catalog [] more rows one other = other
fit_on catalog (c ∷ changes) more rows one other = (one.0, fit_on catalog changes more (applied_in (table_named catalog c.table) c rows) one.1 other)

short_on : (changes more : List Change) → AllByRecursion IsShortChange changes → AllByRecursion IsShortChange more → AllByRecursion IsShortChange (changes ++ more)
short_on [] more one other = other
short_on (c ∷ changes) more one other = (one.0, short_on changes more one.1 other)

not_empty : {A : Type 0} (xs ys : List A) → ¬ (ys ≡ []) → ¬ (xs ++ ys ≡ [])
not_empty [] ys n is = n is
not_empty (x ∷ xs) ys n is = cc

-- ---- pending changes

pub pending_more : (catalog : Lists) (old new : Marked) (pending changes : List Change) → ArePending catalog old pending → ¬ (changes ≡ []) → AllByRecursion IsShortChange changes → ChangesFit catalog old.rows changes
    → new.rows ≡ applied catalog changes old.rows → new.marked ≡ old.marked → ArePending catalog new (pending ++ changes)
pending_more catalog old new pending changes are some short fit rows marked =
    record {
      fit = subst (λ (m : RowMap). ChangesFit catalog m (pending ++ changes)) (sym marked) (fit_on catalog pending changes old.marked are.fit (subst (λ (m : RowMap). ChangesFit catalog m changes) are.rows_are fit));
      short = short_on pending changes are.short short;
      rows_are = rows ∙ ap (λ (m : RowMap). applied catalog changes m) are.rows_are ∙ sym (applied_on catalog pending changes old.marked) ∙ ap (λ (m : RowMap). applied catalog (pending ++ changes) m) (sym marked);
      still = λ none. absurd (not_empty pending changes some none);
    }

pub none_pending : (catalog : Lists) (rows : RowMap) → ArePending catalog (at_mark rows) []
none_pending catalog rows = record { fit = tt; short = tt; rows_are = refl; still = λ none. refl }

-- ---- what holds

pub sound_holds : (view : View) → IsSound view → Holds (present view)
sound_holds view sound =
    record {
      rows = subst (λ (m : RowMap). RowsFit view.catalog m) (sym sound.pending.rows_are) (fitting_changes_keep view.catalog view.rows.marked view.pending sound.holds.rows sound.pending.fit);
      catalog = sound.holds.catalog;
    }

-- ---- one entry more

pub stored_more : (publisher : Name) (es : List Recorded) (r : Recorded) → Stored publisher es → Fits (state_of publisher es) (end_of es) r → Stored publisher (es ++ r ∷ [])
stored_more publisher es r stored fits = (stored_from-more (fresh publisher) 0 es r).1 (stored, fits)

pub books_more : (es : List Recorded) (r : Recorded) (old new : BookMap) → ((user : Name) → book_in old user ≡ books_of user es) → BooksFollow old new r → (user : Name) → book_in new user ≡ books_of user (es ++ r ∷ [])
books_more es r old new are follow user = follow user ∙ ap (λ b. booked user b (sees r)) (are user) ∙ sym (book_more sees user es r)
