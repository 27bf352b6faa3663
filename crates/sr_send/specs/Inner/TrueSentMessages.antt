-- What each message of a pass says of the history that it comes from.
-- Here is what no contract of the program says by itself.
use Rattle.std.specs.Prelude.{◌≡◌, ◌≤◌, Bool, List, cond}
use Rattle.sr_book.specs.Entries.{Name}
use Rattle.sr_book.specs.declared.book.Book.{Book}
use Rattle.sr_mail_cut.specs.Truths.{IsTrueOf}
use Rattle.sr_database_history.specs.Recorded.{Recorded}
use Rattle.sr_msgform.specs.declared.message.Message.{Message}
use Rattle.sr_send.specs.TrueSentMessages.{all_given}

-- it comes from the publisher and goes to the user; its window begins no earlier than what he was sent ends, and carries what the history gives him
-- there; it confirms what was taken from him, and asks for what lies past that where it asks
pub record IsTrueSentMessage (publisher : Name) (es : List Recorded) (user : Name) (book : Book) (ask : Bool) (m : Message) : Type 0 where
  pub from_is : m.from ≡ publisher
  pub to_is : m.to ≡ user
  pub resend : m.resend_count ≡ book.resend_count
  pub later : book.log_sent ≤ m.prev.0
  pub carries : IsTrueOf (all_given publisher es user) m
  pub confirms : m.confirm.0 ≡ book.log_received
  pub asks : m.ask_count ≡ cond ask book.rereceive_count 0
  pub asks_past : m.ask_offset.0 ≡ cond ask book.log_received 0
