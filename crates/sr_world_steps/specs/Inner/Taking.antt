-- The entry by which a database takes a transaction of a user, by the logs of both.
use Rattle.std.specs.Prelude.{◌≡◌, ℕ, List, [], ◌∷◌, Option, None}
use Rattle.sr_book.specs.Entries.{Name}
use Rattle.sr_book.specs.Histories.{book_of}
use Rattle.sr_database_history.specs.Folds.{sees, state_of, end_of}
use Rattle.sr_database_history.specs.Recorded.{Recorded}
use Rattle.sr_logform.specs.declared.entry.Entry.{Entry}
use Rattle.sr_logform.specs.declared.op.Transaction.{Transaction}
use Rattle.sr_msgform.specs.declared.message.Message.{Message}
use Rattle.sr_scan.specs.Given.{given_of}
use Rattle.sr_world_entries.specs.Inner.Taking.{EndsWith, MayTake, TakeEndsIn}
use Rattle.sr_world_steps.specs.Inner.Logs.{IsLog}
use Rattle.sr_world_steps.specs.Inner.Past.{SomePast}
use Rattle.sr_world_steps.specs.Inner.Places.{Log}
use Rattle.sr_world_steps.specs.Inner.Scanned.{in_window}

-- a whole window goes on past what was taken of the user, and the entry takes the first of the transactions that he gives past it
pub record TakesFirst (messages : List Message) (d : Name) (rs : List Recorded) (user : Name) (us : List Recorded) (r : Recorded) : Type 0 where
  pub past : SomePast messages messages user d (book_of sees user rs).log_received
  pub transaction : Transaction
  pub rest : List Transaction
  pub first : in_window (book_of sees user rs).log_received (end_of us) (given_of user us d) ≡ transaction ∷ rest
  pub may : MayTake (state_of d rs) (end_of rs) user transaction r

-- the entry that takes a transaction behind the history that a log shows, and where it would end
unfoldable pub TransactionEnds : Name → Log → Name → Transaction → Option (ℕ × Entry) → Type 0
TransactionEnds d log user t found = (rs : List Recorded) → IsLog d rs log → TakeEndsIn (state_of d rs) (end_of rs) user t found

-- of the first of some transactions; nothing where there is none
abbrev pub FirstEnds : Name → Log → Name → List Transaction → Option (ℕ × Entry) → Type 0
FirstEnds d log user [] found = found ≡ None
FirstEnds d log user (t ∷ ts) found = TransactionEnds d log user t found

-- and of what the messages and the log of the user let the database take
unfoldable pub TakeEnds : List Message → Name → Log → Name → Log → Option (ℕ × Entry) → Type 0
TakeEnds messages d log user theirs found = (rs us : List Recorded) → IsLog d rs log → IsLog user us theirs
    → EndsWith (TakesFirst messages d rs user us) (end_of rs) found
