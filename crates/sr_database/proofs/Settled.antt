-- What an entry that may follow makes of catalog and rows.
use Rattle.std.proofs.Common.{◌≡◌, List, [], Option, refl, sym, ◌∙◌, ap, subst}
use Rattle.std.specs.FinMap.{get, insert}
use Rattle.sr_book.specs.Entries.{Name}
use Rattle.sr_book.specs.declared.book.Book.{Book}
use Rattle.sr_database_files.specs.Books.{BookMap}
use Rattle.sr_exec_dml.specs.Applying.{applied}
use Rattle.sr_exec_dml.specs.Fitting.{RowsFit}
use Rattle.sr_database_fold.specs.Inner.Readings.{state_in, FitsAs}
use Rattle.sr_database_history.specs.Fitting.{FitsState}
use Rattle.sr_database_history.specs.Folds.{State, next}
use Rattle.sr_database_history.specs.Recorded.{Recorded, own, taken, ddl, sync, pass, note}
use Rattle.sr_logform.specs.declared.change.Change.{Change}
use Rattle.sr_logform.specs.declared.entry.Entry.{Entry}
use Rattle.sr_logform.specs.declared.entry.Entry.TheVariants as entries
use Rattle.sr_rows.specs.Marks.{Marked, RowMap}
use Rattle.sr_rows.specs.Inner.Steps.{at_mark}
use Rattle.sr_catalog_schema.specs.Catalogs.{Lists}
use Rattle.sr_database_replay.specs.Inner.Books.{with_held}
use Rattle.sr_database.specs.Inner.Commits.{Follows, FollowsAsSome}
use Rattle.sr_database.specs.Databases.{ArePending}
use Rattle.sr_database.specs.Inner.Taking.{at_last_commit, IsNoOwn, StaysAll, StaysState, Takes, TakesState}
use Rattle.sr_database_replay.proofs.Booked.{follow_own, put_back}
use Rattle.sr_database.proofs.Commits.{fits_state}

-- ---- an entry of another kind than Own

none_pending : (s : State) (pending : List Change) (entry : Entry) (r : Recorded) → Follows s pending entry r → IsNoOwn entry → pending ≡ []
none_pending s pending entry (own changes) f other = absurd (subst IsNoOwn (sym f.is) other)
none_pending s pending entry (taken user at dones) f other = f.follows.0
none_pending s pending entry (ddl statement) f other = f.follows.0
none_pending s pending entry (sync user tables) f other = f.follows.0
none_pending s pending entry (pass users only statement changes) f other = f.follows.0
none_pending s pending entry (note user what) f other = f.follows.0

module _ (catalog : Lists) (rows : Marked) (pending : List Change) (entry : Entry) (are : ArePending catalog rows pending) (some : FollowsAsSome (at_last_commit catalog rows) pending entry) (other : IsNoOwn entry) where
  none : pending ≡ []
  none = none_pending (at_last_commit catalog rows) pending entry some.r some.can other

  rows_are : rows.rows ≡ rows.marked
  rows_are = are.rows_are ∙ ap (λ (cs : List Change). applied catalog cs rows.marked) none

  pub still : rows ≡ at_mark rows.rows
  still = λ i. record { rows = rows.rows; marked = sym rows_are i; trail = are.still none i }

  pub same_state : state_in catalog rows ≡ at_last_commit catalog rows
  same_state = λ i. record { catalog = catalog; rows = rows_are i }

  pub rows_fit : RowsFit catalog rows.marked → RowsFit catalog rows.rows
  rows_fit fit = subst (λ (m : RowMap). RowsFit catalog m) (sym rows_are) fit

  pub fits_as : (r : Recorded) → Follows (at_last_commit catalog rows) pending entry r → FitsAs (state_in catalog rows) entry r
  fits_as r f = record { is = f.is; meant = f.meant; fits = subst (λ (s : State). FitsState s r) (sym same_state) (fits_state catalog rows pending r are f.follows) }

  pub fits_some : (r : Recorded) × FitsAs (state_in catalog rows) entry r
  fits_some = (some.r, fits_as some.r some.can)

  pub takes : (new_catalog : Lists) (new_rows : Marked) → ((r : Recorded) → FitsAs (state_in catalog rows) entry r → state_in new_catalog new_rows ≡ next (state_in catalog rows) r) → new_rows ≡ at_mark new_rows.rows
      → TakesState catalog new_catalog rows new_rows pending entry
  takes new_catalog new_rows is fresh = record { effect = λ r f. is r (fits_as r f) ∙ ap (λ (s : State). next s r) same_state; fresh = fresh }

-- ---- an Own

pub own_effect : (catalog : Lists) (rows new_rows : Marked) (pending changes : List Change) (r : Recorded) → ArePending catalog rows pending → Follows (at_last_commit catalog rows) pending (entries.Own changes) r → new_rows.rows ≡ rows.rows
    → state_in catalog new_rows ≡ next (at_last_commit catalog rows) r
unfolding next
own_effect catalog rows new_rows pending changes (own cs) are f same =
    λ i. record { catalog = catalog; rows = (same ∙ are.rows_are ∙ ap (λ (l : List Change). applied catalog l rows.marked) (sym f.follows)) i }
own_effect catalog rows new_rows pending changes (taken user at dones) are f same = let is = f.is in cc
own_effect catalog rows new_rows pending changes (ddl statement) are f same = let is = f.is in cc
own_effect catalog rows new_rows pending changes (sync user tables) are f same = let is = f.is in cc
own_effect catalog rows new_rows pending changes (pass users only statement cs) are f same = let is = f.is in cc
own_effect catalog rows new_rows pending changes (note user what) are f same = let is = f.is in cc

-- the mark was set here
pub mark_is : (rows new_rows : Marked) → new_rows.rows ≡ rows.rows → new_rows.marked ≡ rows.rows → new_rows.trail ≡ [] → new_rows ≡ at_mark new_rows.rows
mark_is rows new_rows same marked trail = λ i. record { rows = new_rows.rows; marked = (marked ∙ sym same) i; trail = trail i }

pub own_takes : (catalog : Lists) (rows new_rows : Marked) (books : BookMap) (pending changes : List Change) (entry : Entry) → ArePending catalog rows pending → entry ≡ entries.Own changes → new_rows.rows ≡ rows.rows → new_rows.marked ≡ rows.rows → new_rows.trail ≡ []
    → Takes catalog catalog rows new_rows books books pending entry
own_takes catalog rows new_rows books pending changes entry are is same marked trail =
    record {
      state = record {
        effect = λ r f. own_effect catalog rows new_rows pending changes r are (subst (λ (e : Entry). Follows (at_last_commit catalog rows) pending e r) is f) same;
        fresh = mark_is rows new_rows same marked trail;
      };
      books_are = λ r of. follow_own books books changes r refl (of ∙ is);
    }

-- ---- with a book, and without

pub stays_book : (catalog new_catalog : Lists) (rows new_rows : Marked) (books put new_books : BookMap) (user : Name) (book : Book) (before : Option Book) → StaysState catalog new_catalog rows new_rows → before ≡ get books user → put ≡ insert books user book
    → new_books ≡ with_held put user before → StaysAll catalog new_catalog rows new_rows books new_books
stays_book catalog new_catalog rows new_rows books put new_books user book before state was is back =
    record { state = state; books_are = back ∙ ap (λ (b : BookMap). with_held b user before) is ∙ ap (λ (o : Option Book). with_held (insert books user book) user o) was ∙ put_back books user book }
