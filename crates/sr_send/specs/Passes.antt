-- What a pass to a user does.
use Rattle.std.specs.Prelude.{◌≡◌, ◌≢◌, ◌⊎◌, ℕ, max, Bool, true, false, List, [], ◌∷◌, ◌++◌, length, Some, None, IsTrue}
use Rattle.std.specs.List.{AllByRecursion}
use Rattle.sr_base.specs.Values.{offset_from}
use Rattle.sr_base.specs.declared.offset.Offset.{Offset}
use Rattle.sr_book.specs.Entries.{Name}
use Rattle.sr_book.specs.declared.book.Book.{Book}
use Rattle.sr_database_files.specs.Books.{book_in}
use Rattle.sr_mail_cut.specs.Bodies.{last_at, first_long}
use Rattle.sr_logform.specs.Limits.{longest_transaction}
use Rattle.sr_database.specs.Causes.{IsTooFar}
use Rattle.sr_database.specs.Commits.{HasRoom}
use Rattle.sr_database.specs.Databases.{IsDatabase}
use Rattle.sr_database.specs.Advances.{Advances}
use Rattle.sr_database.specs.InForce.{HasLogInForce}
use Rattle.sr_database.specs.Views.{View}
use Rattle.sr_database_history.specs.Recorded.{Recorded, entry_of}
use Rattle.sr_logform.specs.declared.op.Transaction.{Transaction}
use Rattle.sr_msgform.specs.Messages.{IsMessage}
use Rattle.sr_msgform.specs.declared.message.Message.{Message}
use Rattle.sr_site.specs.Causes.{Stays, Rose}
use Rattle.sr_site.specs.Happenings.{mail_in}
use Rattle.sr_site.specs.Seen.{Seen}
use Rattle.sr_database_meaning.specs.Events.{Event, commit, commits}
use Rattle.sr_database_meaning.specs.Traces.{Went}
use Rattle.sr_send.specs.PutFiles.{head_of, address_in, AreMessages, put_files, sent_note, noted_put_files}
use Rattle.sr_send.specs.Posting.{PutAlone, NoneFailed, LastMayFail, IsSteady}
use Rattle.sr_send.specs.Unsent.{unsent}
use Rattle.sr_send.specs.declared.fault.SendFault.{SendFault}
use Rattle.sr_send.specs.declared.fault.SendFault.TheVariants.{Disk, Mail, Full, Long, Memory}
use Rattle.sr_send.specs.declared.sending.Sent.{Sent}

-- what a user is to be sent of a log that begins at a base: all that the history gives him past the base and past the offset up to which it was sent
abbrev pub waiting : ℕ → Name → List Recorded → Name → Book → List Transaction
waiting base publisher es user book = unsent publisher es user (max base book.log_sent)

-- these are the messages of a pass to him
abbrev pub AreAll : ℕ → Name → List Recorded → Name → Book → Bool → ℕ → List Message → Type 0
AreAll base publisher es user book ask limit messages = AreMessages (head_of publisher user book ask) book ask limit (waiting base publisher es user book) messages

-- the offset up to which all is sent with them
abbrev pub sent_end : ℕ → Name → List Recorded → Name → Book → Offset
sent_end base publisher es user book = last_at (offset_from book.log_sent) (waiting base publisher es user book)

-- a pass: all messages were put in order, and then they were noted; where none is due nothing was done. Nothing else happened to the mail
pub record Passed (old new : View) (before now : Seen) (publisher : Name) (es : List Recorded) (user : Name) (book : Book) (limit : ℕ) (ask : Bool) (sent : Sent) : Type 0 where
  pub messages : List Message
  pub are : AreAll old.log.base publisher es user book ask limit messages
  -- each can be read again
  pub spelled : AllByRecursion IsMessage messages
  pub count : sent.put ≡ length messages
  pub end_is : sent.end ≡ sent_end old.log.base publisher es user book
  -- no encoding of a transaction is too long
  pub fits : first_long (waiting old.log.base publisher es user book) ≡ None
  pub went : Went before now publisher es (noted_put_files (address_in old.catalog user) user book sent.end messages)
  pub mail : PutAlone (noted_put_files (address_in old.catalog user) user book sent.end messages) (mail_in before.happened) (mail_in now.happened)
  pub database : IsDatabase new publisher (es ++ commits (noted_put_files (address_in old.catalog user) user book sent.end messages)) now

-- what an answer says
pub record HasSent (old new : View) (before now : Seen) (user : Name) (limit : ℕ) (ask : Bool) (sent : Sent) : Type 0 where
  pub usable : new.log.usable ≡ true
  pub pending : new.pending ≡ []
  pub stays : Stays before now
  pub steady : IsSteady before now
  -- where no message is due the database is as it was
  pub idle : sent.put ≡ 0 → new ≡ old
  pub room : sent.put ≢ 0 → HasRoom old.log (entry_of (sent_note user (book_in old.books user) sent.end sent.put))
  pub value : sent.put ≢ 0 → Advances old new (sent_note user (book_in old.books user) sent.end sent.put ∷ [])
  pub in_force : IsTrue before.observable → HasLogInForce old before → HasLogInForce new now
  pub passed : IsTrue before.observable → (publisher : Name) (es : List Recorded) → IsDatabase old publisher es before
      → Passed old new before now publisher es user (book_in old.books user) limit ask sent

-- of the messages of a pass the first were put, of which the last may have failed, and nothing else happened to the mail
pub record PutInPart (old : View) (before now : Seen) (publisher : Name) (es : List Recorded) (user : Name) (book : Book) (limit : ℕ) (ask : Bool) : Type 0 where
  pub messages : List Message
  pub left : List Message
  pub are : AreAll old.log.base publisher es user book ask limit (messages ++ left)
  -- each of those that were put can be read again
  pub spelled : AllByRecursion IsMessage messages
  pub went : Went before now publisher es (put_files (address_in old.catalog user) book.send_count messages)
  pub mail : PutAlone (put_files (address_in old.catalog user) book.send_count messages) (mail_in before.happened) (mail_in now.happened)
  pub outcomes : LastMayFail (mail_in before.happened) (mail_in now.happened)
  pub database : IsDatabase old publisher es now

-- the first of the messages were put and nothing was noted; the database is as it was
pub record Unnoted (old new : View) (before now : Seen) (user : Name) (limit : ℕ) (ask : Bool) : Type 0 where
  pub same : new ≡ old
  pub stays : Stays before now
  pub part : IsTrue before.observable → (publisher : Name) (es : List Recorded) → IsDatabase old publisher es before
      → PutInPart old before now publisher es user (book_in old.books user) limit ask

-- all messages were put, so many and up to this offset, and then these commits were begun
pub record PutAndBegan (base : ℕ) (before now : Seen) (address publisher : Name) (es : List Recorded) (user : Name) (book : Book) (limit : ℕ) (ask : Bool) (sent : Offset) (count : ℕ) (begun : List Event) : Type 0 where
  pub messages : List Message
  pub are : AreAll base publisher es user book ask limit messages
  -- each can be read again
  pub spelled : AllByRecursion IsMessage messages
  pub count_is : count ≡ length messages
  pub end_is : sent ≡ sent_end base publisher es user book
  pub went : Went before now publisher es (put_files address book.send_count messages ++ begun)
  pub mail : PutAlone (put_files address book.send_count messages ++ begun) (mail_in before.happened) (mail_in now.happened)
  pub done : NoneFailed (mail_in before.happened) (mail_in now.happened)

-- all messages were put, and the disk refused their note, which may stand or not: the database is not used again
pub record NoteRefused (old new : View) (before now : Seen) (user : Name) (limit : ℕ) (ask : Bool) : Type 0 where
  pub spent : new.log.usable ≡ false
  pub pending : new.pending ≡ []
  pub stays : Stays before now
  pub sent : Offset
  pub count : ℕ
  pub some : count ≢ 0
  pub room : HasRoom old.log (entry_of (sent_note user (book_in old.books user) sent count))
  pub part : IsTrue before.observable → (publisher : Name) (es : List Recorded) → IsDatabase old publisher es before
      → PutAndBegan old.log.base before now (address_in old.catalog user) publisher es user (book_in old.books user) limit ask sent count (commit (sent_note user (book_in old.books user) sent count) ∷ [])

-- all messages were put, and their note has no room in the log
pub record NoteFull (old : View) (before now : Seen) (user : Name) (limit : ℕ) (ask : Bool) (end need : ℕ) : Type 0 where
  pub sent : Offset
  pub count : ℕ
  pub some : count ≢ 0
  pub full : IsTooFar old.log (entry_of (sent_note user (book_in old.books user) sent count)) end need
  pub part : IsTrue before.observable → (publisher : Name) (es : List Recorded) → IsDatabase old publisher es before
      → PutAndBegan old.log.base before now (address_in old.catalog user) publisher es user (book_in old.books user) limit ask sent count []

-- the first encoding that is longer than 64 MiB
pub record HasLongEncoding (old : View) (before : Seen) (user : Name) (size limit : ℕ) : Type 0 where
  pub limit_is : limit ≡ longest_transaction
  pub first : IsTrue before.observable → (publisher : Name) (es : List Recorded) → IsDatabase old publisher es before
      → first_long (waiting old.log.base publisher es user (book_in old.books user)) ≡ Some size

-- why a pass ends before its end, and what it leaves then
abbrev pub SendCause : View → View → Seen → Seen → Name → ℕ → Bool → SendFault → Type 0
SendCause old new before now user limit ask Disk = Rose before.disk_faults now.disk_faults × (Unnoted old new before now user limit ask ⊎ NoteRefused old new before now user limit ask)
SendCause old new before now user limit ask Mail = Rose before.mail_faults now.mail_faults × Unnoted old new before now user limit ask
SendCause old new before now user limit ask (Full end need) = NoteFull old before now user limit ask end need × Unnoted old new before now user limit ask
SendCause old new before now user limit ask (Long size longest) = HasLongEncoding old before user size longest × Unnoted old new before now user limit ask
SendCause old new before now user limit ask Memory = Unnoted old new before now user limit ask
