-- When a message lets a database note something of a user.
use Rattle.std.specs.Prelude.{◌≡◌, ◌<◌, ◌⊎◌}
use Rattle.sr_book.specs.Entries.{Name}
use Rattle.sr_book.specs.declared.book.Book.{Book}
use Rattle.sr_book.specs.declared.note.Note.{Note}
use Rattle.sr_book.specs.declared.note.Note.TheVariants.{Confirmed, Asked, Raised, Sent}
use Rattle.sr_msgform.specs.declared.message.Message.{Message}

-- the message says what is noted, and this is new to the book
abbrev pub IsNews : Book → Message → Note → Type 0
IsNews book m (Confirmed place) = (m.confirm ≡ place) × ((book.confirm_sent < place.0) ⊎ (book.log_sent < place.0))
IsNews book m (Asked count place) = (m.ask_count ≡ count) × (m.ask_offset ≡ place) × (book.resend_count < count)
IsNews book m Raised = book.log_received < m.upto.0
IsNews book m (Sent end messages confirm) = ⊥

-- a message from the user to the database says it
pub record MayNote (book : Book) (at user : Name) (what : Note) (m : Message) : Type 0 where
  pub sent_by : m.from ≡ user
  pub sent_to : m.to ≡ at
  pub news : IsNews book m what
