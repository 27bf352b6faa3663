-- A note that may stand in a log.
use Rattle.std.specs.Prelude.{◌≡◌, ◌↔◌, ℕ, Bool, List, Option, IsSome, IsTrue}
use Rattle.sr_catalog_schema.specs.Members.{user_name}
use Rattle.sr_catalog_schema.specs.Names.{named}
use Rattle.sr_book.specs.Entries.{Name}
use Rattle.sr_book.specs.Histories.{book_of}
use Rattle.sr_book.specs.declared.note.Note.{Note}
use Rattle.sr_database_history.specs.Fitting.{Fits}
use Rattle.sr_database_history.specs.Folds.{State, sees, state_of, end_of}
use Rattle.sr_database_history.specs.Recorded.{Recorded, note}
use Rattle.sr_msgform.specs.declared.message.Message.{Message}
use Rattle.sr_world_steps.specs.Inner.Logs.{EndsOne, IsLog}
use Rattle.sr_world_steps.specs.Inner.Notes.{MayNote}
use Rattle.sr_world_steps.specs.Inner.Places.{Log}

-- the entry is this note, and fits the state and the offset
pub record StandsNoted (s : State) (place : ℕ) (user : Name) (what : Note) (r : Recorded) : Type 0 where
  pub is : r ≡ note user what
  pub fits : Fits s place r

-- and a message lets the database make it
pub record MayBeNoted (d : Name) (rs : List Recorded) (user : Name) (what : Note) (m : Message) (r : Recorded) : Type 0 where
  pub may : MayNote (book_of sees user rs) d user what m
  pub stands : StandsNoted (state_of d rs) (end_of rs) user what r

-- it was found out whether a user is granted behind the history that a log shows
unfoldable pub TellsKnown : Name → Log → Name → Bool → Type 0
TellsKnown d log user known = (rs : List Recorded) → IsLog d rs log → (IsTrue known ↔ IsSome (named user_name user (state_of d rs).catalog.users))

-- where a note would end there
unfoldable pub NoteEnds : Name → Log → Name → Note → Option ℕ → Type 0
NoteEnds d log user what end = (rs : List Recorded) → IsLog d rs log → EndsOne (StandsNoted (state_of d rs) (end_of rs) user what) (end_of rs) end

-- and one that a message lets the database make
unfoldable pub NewsEnds : Name → Log → Name → Note → Message → Option ℕ → Type 0
NewsEnds d log user what m end = (rs : List Recorded) → IsLog d rs log → EndsOne (MayBeNoted d rs user what m) (end_of rs) end
