-- What of an entry a book sees: the notes, and what was taken.
use Rattle.std.specs.Prelude.{ℕ, List, [], ◌∷◌, if◌then◌else◌}
use Rattle.std.specs.Str.{bytes_eq}
use Rattle.sr_book.specs.Books.{with_taken, with_note}
use Rattle.sr_book.specs.declared.book.Book.{Book}
use Rattle.sr_book.specs.declared.note.Note.{Note}
use Rattle.sr_book.specs.declared.note.Note.TheVariants.{Confirmed, Asked, Raised, Sent}

-- the name of a database, and of a user: the bytes of a `Name`
abbrev pub Name : Type 0
Name = List ℕ

-- what a book sees of an entry of a log
pub data Sight (Ops : Type 0) : Type 0 where
  -- what the database did by itself: a transaction of its own, a statement, a synchronization, a passthrough
  local : Sight Ops
  -- a transaction taken from a user, with its offset in that user's log
  from_user : Name → ℕ → Ops → Sight Ops
  -- a note in a user's book
  noted : Name → Note → Sight Ops

-- what an entry takes from a user
abbrev pub takes : {Ops : Type 0} → Name → Sight Ops → List (ℕ × Ops)
takes user local = []
takes user (from_user other place ops) = if bytes_eq user other then (place, ops) ∷ [] else []
takes user (noted other note) = []

-- the count of an ask
abbrev pub ask_count : Note → List ℕ
ask_count (Confirmed place) = []
ask_count (Asked count place) = count ∷ []
ask_count Raised = []
ask_count (Sent end messages confirm) = []

-- the count of a user's ask that an entry notes
abbrev pub asks : {Ops : Type 0} → Name → Sight Ops → List ℕ
asks user local = []
asks user (from_user other place ops) = []
asks user (noted other note) = if bytes_eq user other then ask_count note else []

-- the book of a user after an entry
abbrev pub booked : {Ops : Type 0} → Name → Book → Sight Ops → Book
booked user book local = book
booked user book (from_user other place ops) = if bytes_eq user other then with_taken book place else book
booked user book (noted other note) = if bytes_eq user other then with_note book note else book
