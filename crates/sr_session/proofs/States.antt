-- The state of a database's value, before and behind an entry.
use Rattle.std.proofs.Common.{◌≡◌, List, [], sym, ap, ◌∙◌}
use Rattle.sr_exec_dml.specs.Applying.{applied}
use Rattle.sr_database_history.specs.Folds.{State, with_changes}
use Rattle.sr_rows.specs.Marks.{Marked, RowMap}
use Rattle.sr_catalog_schema.specs.Catalogs.{Lists}
use Rattle.sr_database.specs.Inner.Sound.{IsSound}
use Rattle.sr_database.specs.Views.{View, committed}
use Rattle.sr_database.specs.Inner.Views.{present}

abbrev state_with : Lists → RowMap → State
state_with catalog rows = record { catalog = catalog; rows = rows }

-- what statements see is what the value has
pub present_is : (view : View) → IsSound view → with_changes view.pending (committed view) ≡ present view
present_is view sound = ap (λ (m : RowMap). state_with view.catalog m) (sym sound.pending.rows_are)

-- where nothing is pending that is what was committed
pub committed_present : (view : View) → IsSound view → view.pending ≡ [] → present view ≡ committed view
committed_present view sound none =
    ap (λ (m : RowMap). state_with view.catalog m) (sound.pending.rows_are ∙ ap (λ (changes : List _). applied view.catalog changes view.rows.marked) none)

-- the state that catalog and rows show, as they were given
abbrev pub shown : Lists → Marked → State
shown catalog rows = record { catalog = catalog; rows = rows.rows }

pub shown_is : (view : View) (catalog : Lists) (rows : Marked) → catalog ≡ view.catalog → rows ≡ view.rows → shown catalog rows ≡ present view
shown_is view catalog rows one two = ap (λ (c : Lists). shown c rows) one ∙ ap (λ (m : Marked). shown view.catalog m) two

pub shown_committed : (view : View) (catalog : Lists) (rows : Marked) → IsSound view → view.pending ≡ [] → catalog ≡ view.catalog → rows ≡ view.rows → shown catalog rows ≡ committed view
shown_committed view catalog rows sound none one two = shown_is view catalog rows one two ∙ committed_present view sound none
