-- A log read entry by entry, and what it gives put as messages.
use Rattle.std.specs.Prelude.{◌≡◌, ◌⊎◌, ◌≤◌, ◌<◌, ◌+◌, ℕ, max, Bool, cond, nat_lt, List, [], ◌∷◌, ◌++◌, length, Option, Some, None, Result, Ok, Err, IsTrue}
use Rattle.std.specs.List.{AllByRecursion}
use Rattle.sr_base.specs.declared.offset.Offset.{Offset}
use Rattle.sr_book.specs.Entries.{Name}
use Rattle.sr_book.specs.declared.book.Book.{Book}
use Rattle.sr_mail_cut.specs.Bodies.{last_at, first_long}
use Rattle.sr_mail_cut.specs.Cuts.{AreCut, bodyless}
use Rattle.sr_database.specs.Databases.{IsDatabase}
use Rattle.sr_database.specs.Inner.Entries.{IsNext}
use Rattle.sr_database.specs.Views.{View}
use Rattle.sr_database_history.specs.Folds.{state_of, end_of}
use Rattle.sr_database_history.specs.Recorded.{Recorded}
use Rattle.sr_logform.specs.declared.entry.Entry.{Entry}
use Rattle.sr_logform.specs.declared.op.Transaction.{Transaction}
use Rattle.sr_msgform.specs.Messages.{IsMessage}
use Rattle.sr_msgform.specs.declared.message.Message.{Message}
use Rattle.sr_scan.specs.Inner.Scanners.{Scan, IsFed}
use Rattle.sr_site.specs.Seen.{Seen}
use Rattle.sr_send.specs.Inner.Aims.{HasMade}
use Rattle.sr_send.specs.PutFiles.{IsDue, AreMessages, put_files}
use Rattle.sr_send.specs.Posting.{IsSteady}
use Rattle.sr_send.specs.Inner.Posting.{Posted}
use Rattle.sr_send.specs.Unsent.{unsent}
use Rattle.sr_send.specs.declared.aim.Aim.{Aim}
use Rattle.sr_send.specs.declared.fault.SendFault.{SendFault}
use Rattle.sr_send.specs.declared.post.Post.{Post}
use Rattle.sr_send.specs.declared.sending.Sent.{Sent}

-- a transaction that lies past an offset
abbrev pub newer : ℕ → Option Transaction → List Transaction
newer sent None = []
newer sent (Some t) = cond (nat_lt sent t.at.0) (t ∷ []) []

-- what a scanner finds in an entry that is to be sent
pub record IsScanned (old : Scan) (end : Offset) (entry : Entry) (sent : ℕ) (added : List Transaction) (new : Scan) : Type 0 where
  pub found : Option Transaction
  pub fed : IsFed old end entry found new
  pub added_is : added ≡ newer sent found

-- the last offset stays or is the new one
abbrev pub EndsAt : Offset → Offset → Offset → Type 0
EndsAt old at new = (new ≡ old) ⊎ (new ≡ at)

-- the last offset stays, or is that of what was found
abbrev pub EndsWith : Offset → Option Transaction → Offset → Type 0
EndsWith old None new = new ≡ old
EndsWith old (Some t) new = EndsAt old t.at new

-- transactions were pushed, and the messages that they closed were put
pub record Pushed (aim : Aim) (old new : Post) (before now : Seen) (added : List Transaction) : Type 0 where
  pub closed : List Message
  pub made : (pushed : List Transaction) (messages : List Message) → HasMade aim old pushed messages → HasMade aim new (pushed ++ added) (messages ++ closed)
  pub posted : Posted before now (put_files aim.address (aim.count + old.put) closed)
  pub spelled : AllByRecursion IsMessage closed
  pub steady : IsSteady before now

-- an entry was scanned, and what it gives was pushed
pub record Fed (aim : Aim) (scan scan' : Scan) (post post' : Post) (at : Offset) (entry : Entry) (before now : Seen) : Type 0 where
  pub added : List Transaction
  pub scanned : IsScanned scan at entry aim.prev.0 added scan'
  pub pushed : Pushed aim post post' before now added
  pub end : EndsAt post.end at post'.end

-- an offset after both of two lies after a third
abbrev pub IsBehind : ℕ → ℕ → ℕ → Type 0
IsBehind sent after last = (n : ℕ) → sent < n → after < n → last < n

-- the entry after an offset was read, and what it gives was put
pub record Stepped (db : View) (aim : Aim) (scan scan' : Scan) (post post' : Post) (after end : Offset) (before now : Seen) : Type 0 where
  pub entry : Entry
  pub next : IsTrue before.observable → (publisher : Name) (done left : List Recorded) → IsDatabase db publisher (done ++ left) before → after.0 ≡ end_of done
      → IsNext done left end entry
  pub added : List Transaction
  pub scanned : IsScanned scan end entry aim.prev.0 added scan'
  pub pushed : Pushed aim post post' before now added
  pub later : after.0 < end.0
  pub within : end.0 ≤ db.log.end
  pub behind : IsBehind aim.prev.0 end.0 post'.end.0

-- no entry follows
pub record IsAtEnd (db : View) (post post' : Post) (after : Offset) (before now : Seen) : Type 0 where
  pub same : post' ≡ post
  pub posted : Posted before now []
  pub steady : IsSteady before now
  pub none : IsTrue before.observable → (publisher : Name) (done left : List Recorded) → IsDatabase db publisher (done ++ left) before → after.0 ≡ end_of done
      → left ≡ []

-- a step: to the end of an entry, or none follows
abbrev pub DoneStep : View → Aim → Scan → Scan → Post → Post → Offset → Seen → Seen → Option Offset → Type 0
DoneStep db aim scan scan' post post' after before now None = IsAtEnd db post post' after before now
DoneStep db aim scan scan' post post' after before now (Some end) = Stepped db aim scan scan' post post' after end before now

-- the answer of a step to the end of an entry
abbrev pub stepped_to : Offset → Result (Unit {0}) SendFault → Result (Option Offset) SendFault
stepped_to end (Ok done) = Ok (Some end)
stepped_to end (Err fault) = Err fault

-- of a history the entries from a base up to an offset were read, and what they give was pushed
pub record HasRead (base : ℕ) (publisher : Name) (es : List Recorded) (user : Name) (sent : ℕ) (after : Offset) (scan : Scan) (pushed : List Transaction) : Type 0 where
  pub done : List Recorded
  pub left : List Recorded
  pub parts : es ≡ done ++ left
  pub after_is : after.0 ≡ end_of done
  pub catalog : scan.catalog ≡ (state_of publisher done).catalog
  pub user_is : scan.user ≡ user
  pub from_base : base ≤ after.0
  pub pushed_are : pushed ≡ unsent publisher done user (max base sent)

-- a log is being read
pub record UnderWay (db : View) (aim : Aim) (user : Name) (scan : Scan) (post : Post) (after : Offset) (before now : Seen) : Type 0 where
  pub pushed : List Transaction
  pub messages : List Message
  pub made : HasMade aim post pushed messages
  pub posted : Posted before now (put_files aim.address aim.count messages)
  pub spelled : AllByRecursion IsMessage messages
  pub steady : IsSteady before now
  pub from_base : db.log.base ≤ after.0
  pub within : after.0 ≤ db.log.end
  pub behind : IsBehind aim.prev.0 after.0 post.end.0
  pub read : IsTrue before.observable → (publisher : Name) (es : List Recorded) → IsDatabase db publisher es before → HasRead db.log.base publisher es user aim.prev.0 after scan pushed

-- all of it was read
pub record AllRead (db : View) (aim : Aim) (user : Name) (post : Post) (before now : Seen) : Type 0 where
  pub pushed : List Transaction
  pub messages : List Message
  pub made : HasMade aim post pushed messages
  pub posted : Posted before now (put_files aim.address aim.count messages)
  pub spelled : AllByRecursion IsMessage messages
  pub steady : IsSteady before now
  pub whole : IsTrue before.observable → (publisher : Name) (es : List Recorded) → IsDatabase db publisher es before → pushed ≡ unsent publisher es user (max db.log.base aim.prev.0)

-- what the cutter held was put
pub record Emptied (aim : Aim) (old new : Post) (before now : Seen) : Type 0 where
  pub closed : List Message
  pub cut : (pushed : List Transaction) (messages : List Message) → HasMade aim old pushed messages → AreCut aim.head aim.prev pushed aim.limit (messages ++ closed)
  pub count : new.put ≡ old.put + length closed
  pub end_is : new.end ≡ old.end
  pub posted : Posted before now (put_files aim.address (aim.count + old.put) closed)
  pub spelled : AllByRecursion IsMessage closed
  pub steady : IsSteady before now

-- nothing was to be sent, and a message is due
abbrev pub IsDueAlone : Offset → Offset → Book → Bool → Type 0
IsDueAlone prev end book ask = (end.0 ≡ prev.0) × IsDue book ask []

-- the one message without a body was put
pub record Bodyless (aim : Aim) (old new : Post) (before now : Seen) : Type 0 where
  pub count : new.put ≡ old.put + 1
  pub end_is : new.end ≡ old.end
  pub posted : Posted before now (put_files aim.address (aim.count + old.put) (bodyless aim.head aim.prev ∷ []))
  pub spelled : AllByRecursion IsMessage (bodyless aim.head aim.prev ∷ [])
  pub steady : IsSteady before now

-- the messages that are still due were put
pub record Completed (aim : Aim) (book : Book) (ask : Bool) (old new : Post) (before now : Seen) : Type 0 where
  pub closed : List Message
  pub are : (pushed : List Transaction) (messages : List Message) → HasMade aim old pushed messages → AreMessages aim.head book ask aim.limit pushed (messages ++ closed)
  pub count : new.put ≡ old.put + length closed
  pub end_is : new.end ≡ old.end
  pub posted : Posted before now (put_files aim.address (aim.count + old.put) closed)
  pub spelled : AllByRecursion IsMessage closed
  pub steady : IsSteady before now

-- all messages of a pass were put
pub record PutAll (db : View) (aim : Aim) (book : Book) (ask : Bool) (user : Name) (before now : Seen) (sent : Sent) : Type 0 where
  pub pushed : List Transaction
  pub messages : List Message
  pub are : AreMessages aim.head book ask aim.limit pushed messages
  pub count : sent.put ≡ length messages
  pub end_is : sent.end ≡ last_at aim.prev pushed
  pub fits : first_long pushed ≡ None
  pub posted : Posted before now (put_files aim.address aim.count messages)
  pub spelled : AllByRecursion IsMessage messages
  pub steady : IsSteady before now
  pub whole : IsTrue before.observable → (publisher : Name) (es : List Recorded) → IsDatabase db publisher es before → pushed ≡ unsent publisher es user (max db.log.base aim.prev.0)
