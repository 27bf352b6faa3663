-- What is sent to a user: the head of his messages, when they are due, the files that they are put as, and the note of them.
use Rattle.std.specs.Prelude.{◌≡◌, ◌⊎◌, ⊤, ℕ, ◌+◌, ◌<◌, ◌%◌, ◌^◌, Bool, cond, List, [], ◌∷◌, ◌++◌, length, Option, Some, None, IsTrue}
use Rattle.sr_base.specs.Values.{offset_from}
use Rattle.sr_base.specs.declared.offset.Offset.{Offset}
use Rattle.sr_book.specs.Entries.{Name}
use Rattle.sr_book.specs.declared.book.Book.{Book}
use Rattle.sr_book.specs.declared.note.Note.TheVariants.{Sent}
use Rattle.sr_mail_cut.specs.Cuts.{IsCut}
use Rattle.sr_mail_cut.specs.Hexadecimal.{file_name_of}
use Rattle.sr_mail_cut.specs.declared.head.Head.{Head}
use Rattle.sr_database_history.specs.Recorded.{Recorded, note}
use Rattle.sr_logform.specs.declared.op.Transaction.{Transaction}
use Rattle.sr_msgform.specs.Messages.{message_spelling}
use Rattle.sr_msgform.specs.declared.message.Message.{Message}
use Rattle.sr_catalog_schema.specs.Catalogs.{Lists}
use Rattle.sr_catalog_schema.specs.Members.{user_name}
use Rattle.sr_catalog_schema.specs.Names.{named}
use Rattle.sr_catalog_schema.specs.declared.user.User.{User}
use Rattle.sr_database_meaning.specs.Events.{Event, put, commit}

-- what his messages have in common: they confirm what was taken from him, and carry the ask where it is due
abbrev pub head_of : Name → Name → Book → Bool → Head
head_of publisher user book ask = record {
  from = publisher;
  to = user;
  resend_count = book.resend_count;
  confirm = offset_from book.log_received;
  ask_count = cond ask book.rereceive_count 0;
  ask_offset = offset_from (cond ask book.log_received 0);
}

abbrev pub address_of : Option User → Name
address_of None = []
address_of (Some user) = user.address

-- the folder that they are put into
abbrev pub address_in : Lists → Name → Name
address_in catalog user = address_of (named user_name user catalog.users)

-- messages are due where there is something to send, where an ask is to be made, and where more was taken than confirmed
abbrev pub IsDue : Book → Bool → List Transaction → Type 0
IsDue book ask [] = IsTrue ask ⊎ (book.confirm_received < book.log_received)
IsDue book ask (t ∷ ts) = ⊤

-- the messages of a pass: the one cut of what is unsent where they are due, else none
pub record AreMessages (head : Head) (book : Book) (ask : Bool) (limit : ℕ) (waiting : List Transaction) (messages : List Message) : Type 0 where
  pub due : IsDue book ask waiting → IsCut head (offset_from book.log_sent) waiting limit messages
  pub none : ¬ (IsDue book ask waiting) → messages ≡ []

-- the file of a message: the sender's name and the message's number name it
abbrev pub put_file : Name → ℕ → Message → Event
put_file address number m = put address (file_name_of m.from number) (message_spelling m)

-- the files of messages, numbered on from so many, modulo 2^64
abbrev pub put_files : Name → ℕ → List Message → List Event
put_files address count [] = []
put_files address count (m ∷ messages) = put_file address ((count + 1) % 2 ^ 64) m ∷ put_files address (count + 1) messages

-- the note that so many were sent, up to an offset
abbrev pub sent_note : Name → Book → Offset → ℕ → Recorded
sent_note user book end count = note user (Sent end count (offset_from book.log_received))

-- the files, and then the note; nothing where there is no message
abbrev pub noted_put_files : Name → Name → Book → Offset → List Message → List Event
noted_put_files address user book end [] = []
noted_put_files address user book end (m ∷ messages) =
    put_files address book.send_count (m ∷ messages) ++ commit (sent_note user book end (length (m ∷ messages))) ∷ []
