-- A pass that a fault ended put files alone.
use Rattle.std.proofs.Common.{ℕ, List, [], ◌∷◌, ◌++◌, inl, inr}
use Rattle.std.specs.Prelude.{Bool, IsTrue}
use Rattle.sr_book.specs.Entries.{Name}
use Rattle.sr_database.specs.Databases.{IsDatabase}
use Rattle.sr_database.specs.Views.{View}
use Rattle.sr_database_files.specs.Books.{book_in}
use Rattle.sr_database_history.specs.Recorded.{Recorded}
use Rattle.sr_send.specs.PutFiles.{address_in, put_files, sent_note}
use Rattle.sr_send.specs.Passes.{SendCause, Unnoted, NoteRefused}
use Rattle.sr_send.specs.Posting.{PutAlone}
use Rattle.sr_send.specs.declared.fault.SendFault.{SendFault}
use Rattle.sr_send.specs.declared.fault.SendFault.TheVariants as sends
use Rattle.sr_site.specs.Happenings.{mail_in}
use Rattle.sr_site.specs.Seen.{Seen}
use Rattle.sr_database_meaning.specs.Events.{Event, commit}

pub record IsPutAlone (before now : Seen) : Type 0 where
  pub events : List Event
  pub alone : PutAlone events (mail_in before.happened) (mail_in now.happened)

module _ (publisher : Name) (there : List Recorded) (db new : View) (before now : Seen) (user : Name) (limit : ℕ) (ask : Bool) (told : IsTrue before.observable) (database : IsDatabase db publisher there before) where
  unnoted_alone : Unnoted db new before now user limit ask → IsPutAlone before now
  unnoted_alone part =
      let some = part.part told publisher there database in
      record { events = put_files (address_in db.catalog user) (book_in db.books user).send_count some.messages; alone = some.mail }

  refused_alone : NoteRefused db new before now user limit ask → IsPutAlone before now
  refused_alone noted =
      let all = noted.part told publisher there database in
      record {
        events = put_files (address_in db.catalog user) (book_in db.books user).send_count all.messages ++ commit (sent_note user (book_in db.books user) noted.sent noted.count) ∷ [];
        alone = all.mail;
      }

  pub cause_alone : (why : SendFault) → SendCause db new before now user limit ask why → IsPutAlone before now
  cause_alone sends.Disk (rose, inl part) = unnoted_alone part
  cause_alone sends.Disk (rose, inr noted) = refused_alone noted
  cause_alone sends.Mail cause = unnoted_alone cause.1
  cause_alone (sends.Full end need) cause = unnoted_alone cause.1
  cause_alone (sends.Long size longest) cause = unnoted_alone cause.1
  cause_alone sends.Memory cause = unnoted_alone cause
