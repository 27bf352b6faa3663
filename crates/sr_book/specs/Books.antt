-- What a note makes of a book.
use Rattle.std.specs.Prelude.{ℕ, ◌+◌, ◌-◌, ◌^◌, min, max, if◌then◌else◌, nat_lt}
use Rattle.sr_book.specs.declared.book.Book.{Book}
use Rattle.sr_book.specs.declared.note.Note.{Note}
use Rattle.sr_book.specs.declared.note.Note.TheVariants.{Confirmed, Asked, Raised, Sent}

-- a count and so many more, which stops at the greatest number of 64 bits
abbrev pub counted : ℕ → ℕ → ℕ
counted count more = min (count + more) (2 ^ 64 - 1)

-- the book of a partner that was just granted
abbrev pub new_book : Book
new_book = record {
  log_sent = 0;
  confirm_sent = 0;
  send_count = 0;
  resend_count = 0;
  log_received = 0;
  confirm_received = 0;
  receive_count = 0;
  rereceive_count = 0;
}

-- the book after a transaction was taken whose offset in the partner's log is this one
abbrev pub with_taken : Book → ℕ → Book
with_taken book place = record book { log_received = place; receive_count = counted book.receive_count 1 }

-- the book after a note
abbrev pub with_note : Book → Note → Book
with_note book (Confirmed place) = record book {
  log_sent = max book.log_sent place.0;
  confirm_sent = max book.confirm_sent place.0;
}
with_note book (Asked count place) = if nat_lt book.resend_count count
    then record book { log_sent = max book.confirm_sent place.0; resend_count = count }
    else book
with_note book Raised = record book { rereceive_count = counted book.rereceive_count 1 }
with_note book (Sent end messages confirm) = record book {
  log_sent = end.0;
  send_count = counted book.send_count messages;
  confirm_received = confirm.0;
}
