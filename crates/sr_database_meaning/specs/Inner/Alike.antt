-- Histories that are alike from an offset on: what lies before it may differ, and comes to the same. Files stand for all of them at once, where their log
-- begins there.
-- Here is what no contract of the program says by itself.
use Rattle.std.specs.Prelude.{◌≡◌, ℕ, List, ◌++◌}
use Rattle.sr_book.specs.Entries.{Name}
use Rattle.sr_database_history.specs.Fitting.{Stored}
use Rattle.sr_database_history.specs.Folds.{state_of, end_of, books_of}
use Rattle.sr_database_history.specs.Recorded.{Recorded}
use Rattle.sr_database_meaning.specs.Standing.{IsSnapshotAt}

-- two lists of first entries end at an offset, with one state there and one book for each user, and what is a snapshot of the one is one of the other
pub record ComeToSame (publisher : Name) (done dones : List Recorded) (base : ℕ) : Type 0 where
  pub end : base ≡ end_of done
  pub end_too : base ≡ end_of dones
  pub state : state_of publisher done ≡ state_of publisher dones
  pub books : (user : Name) → books_of user done ≡ books_of user dones
  pub snapshots : (bytes : List ℕ) → IsSnapshotAt publisher done bytes → IsSnapshotAt publisher dones bytes
  pub snapshots_too : (bytes : List ℕ) → IsSnapshotAt publisher dones bytes → IsSnapshotAt publisher done bytes

-- two histories of one publisher may both stand; what they have before an offset comes to the same, and behind it they have the same entries
pub record AreAlike (publisher : Name) (es others : List Recorded) (base : ℕ) : Type 0 where
  pub stored : Stored publisher es
  pub stored_too : Stored publisher others
  pub done : List Recorded
  pub dones : List Recorded
  pub left : List Recorded
  pub es_are : es ≡ done ++ left
  pub others_are : others ≡ dones ++ left
  pub begins : ComeToSame publisher done dones base
