-- What may be committed.
-- Here is what no contract of the program says by itself.
use Rattle.std.specs.Prelude.{◌≡◌, List, []}
use Rattle.sr_database_history.specs.Fitting.{FitsState}
use Rattle.sr_database_history.specs.Folds.{State}
use Rattle.sr_database_history.specs.Recorded.{Recorded, own, taken, ddl, sync, pass, note, entry_of, IsRecorded}
use Rattle.sr_logform.specs.Inner.Entries.{IsShortEntry}
use Rattle.sr_logform.specs.declared.change.Change.{Change}
use Rattle.sr_logform.specs.declared.entry.Entry.{Entry}
use Rattle.sr_database.specs.Views.{View, committed}

-- the changes of an Own are the pending ones; any other entry comes where none is pending, and fits the state
abbrev pub MayFollow : State → List Change → Recorded → Type 0
MayFollow s pending (own changes) = changes ≡ pending
MayFollow s pending (taken user at dones) = (pending ≡ []) × FitsState s (taken user at dones)
MayFollow s pending (ddl statement) = (pending ≡ []) × FitsState s (ddl statement)
MayFollow s pending (sync user tables) = (pending ≡ []) × FitsState s (sync user tables)
MayFollow s pending (pass users only statement changes) = (pending ≡ []) × FitsState s (pass users only statement changes)
MayFollow s pending (note user what) = (pending ≡ []) × FitsState s (note user what)

-- the entry is that of this recorded one, keeps the rules, and may follow
pub record Follows (s : State) (pending : List Change) (entry : Entry) (r : Recorded) : Type 0 where
  pub is : entry_of r ≡ entry
  pub meant : IsRecorded r
  pub short : IsShortEntry entry
  pub follows : MayFollow s pending r

-- what its committed entries come to may go on with the entry
abbrev pub CanCommit : View → Entry → Recorded → Type 0
CanCommit view entry r = Follows (committed view) view.pending entry r

-- the entry is that of some recorded one that may follow
pub record FollowsAsSome (s : State) (pending : List Change) (entry : Entry) : Type 0 where
  pub r : Recorded
  pub can : Follows s pending entry r

abbrev pub CanCommitSome : View → Entry → Type 0
CanCommitSome view entry = FollowsAsSome (committed view) view.pending entry
