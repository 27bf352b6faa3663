-- Where a pass ends before its end.
use Rattle.std.specs.Prelude.{◌≡◌, ◌⊎◌, ◌+◌, ℕ, max, Bool, List, [], ◌∷◌, ◌++◌, Some, IsTrue}
use Rattle.std.specs.List.{AllByRecursion}
use Rattle.sr_base.specs.declared.offset.Offset.{Offset}
use Rattle.sr_book.specs.Entries.{Name}
use Rattle.sr_book.specs.declared.book.Book.{Book}
use Rattle.sr_mail_cut.specs.Bodies.{first_long}
use Rattle.sr_logform.specs.Limits.{longest_transaction}
use Rattle.sr_mail_cut.specs.Cuts.{AreCut}
use Rattle.sr_database.specs.Databases.{IsDatabase}
use Rattle.sr_database.specs.Inner.Entries.{IsNext}
use Rattle.sr_database.specs.Views.{View}
use Rattle.sr_database_history.specs.Folds.{end_of}
use Rattle.sr_database_history.specs.Recorded.{Recorded}
use Rattle.sr_logform.specs.declared.entry.Entry.{Entry}
use Rattle.sr_logform.specs.declared.op.Transaction.{Transaction}
use Rattle.sr_msgform.specs.Messages.{IsMessage}
use Rattle.sr_msgform.specs.declared.message.Message.{Message}
use Rattle.sr_scan.specs.Inner.Scanners.{Scan}
use Rattle.sr_site.specs.Causes.{Rose}
use Rattle.sr_site.specs.Seen.{Seen}
use Rattle.sr_send.specs.Inner.Aims.{HasMade, IsCutPrefix}
use Rattle.sr_send.specs.PutFiles.{AreMessages, put_file, put_files}
use Rattle.sr_send.specs.Posting.{IsDeviceFault}
use Rattle.sr_send.specs.Inner.Posting.{Posted, EndsAtPut, PutFault}
use Rattle.sr_send.specs.Inner.Steps.{IsScanned}
use Rattle.sr_send.specs.Unsent.{unsent}
use Rattle.sr_send.specs.declared.aim.Aim.{Aim}
use Rattle.sr_send.specs.declared.fault.SendFault.{SendFault}
use Rattle.sr_send.specs.declared.fault.SendFault.TheVariants.{Disk, Mail, Full, Long, Memory}
use Rattle.sr_send.specs.declared.post.Post.{Post}

-- a message that was to be put was not begun, or its put failed: then its file can be read again
pub record IsPartPut (before now : Seen) (address : Name) (number : ℕ) (m : Message) (fault : SendFault) : Type 0 where
  pub posted : Posted before now [] ⊎ (Posted before now (put_file address number m ∷ []) × IsMessage m)
  pub cause : PutFault before now fault
  pub ends : EndsAtPut before now

-- of messages that were to be put a prefix was, each of which can be read again, and the last may have failed
pub record IsPartSent (aim : Aim) (count : ℕ) (before now : Seen) (messages : List Message) (fault : SendFault) : Type 0 where
  pub done : List Message
  pub left : List Message
  pub parts : messages ≡ done ++ left
  pub posted : Posted before now (put_files aim.address count done)
  pub spelled : AllByRecursion IsMessage done
  pub cause : PutFault before now fault
  pub ends : EndsAtPut before now

-- why a pass ends at these transactions: a device refused, the encoding of one is longer than 64 MiB, or there was no memory
abbrev pub StopFault : Seen → Seen → List Transaction → SendFault → Type 0
StopFault before now pushed Disk = IsDeviceFault before now Disk
StopFault before now pushed Mail = IsDeviceFault before now Mail
StopFault before now pushed (Full end need) = ⊥
StopFault before now pushed (Long size limit) = IsDeviceFault before now (Long size limit) × (limit ≡ longest_transaction) × (first_long pushed ≡ Some size)
StopFault before now pushed Memory = IsDeviceFault before now Memory

-- why the next entry is not read: where memory was wanting no call of the disk failed
abbrev pub NextFault : Seen → Seen → SendFault → Type 0
NextFault before now Disk = Rose before.disk_faults now.disk_faults
NextFault before now Mail = ⊥
NextFault before now (Full end need) = ⊥
NextFault before now (Long size limit) = ⊥
NextFault before now Memory = now.disk_faults ≡ before.disk_faults

-- a pass ended as these transactions were pushed
pub record PushStop (aim : Aim) (old : Post) (before now : Seen) (added : List Transaction) (fault : SendFault) : Type 0 where
  pub messages : List Message
  pub prefix : (pushed : List Transaction) (earlier : List Message) → HasMade aim old pushed earlier → IsCutPrefix aim (pushed ++ added) (earlier ++ messages)
  pub posted : Posted before now (put_files aim.address (aim.count + old.put) messages)
  pub spelled : AllByRecursion IsMessage messages
  pub cause : StopFault before now added fault
  pub ends : EndsAtPut before now

-- what an entry gives that was read
pub record IsFound (scan : Scan) (end : Offset) (entry : Entry) (sent : ℕ) (added : List Transaction) : Type 0 where
  pub behind : Scan
  pub scanned : IsScanned scan end entry sent added behind

-- it ended as an entry was read: before it gave anything, or after
pub record FeedStop (aim : Aim) (scan : Scan) (old : Post) (end : Offset) (entry : Entry) (before now : Seen) (fault : SendFault) : Type 0 where
  pub added : List Transaction
  pub found : (added ≡ []) ⊎ IsFound scan end entry aim.prev.0 added
  pub stop : PushStop aim old before now added fault

-- what the next entry of a history gives
pub record IsNextFound (scan : Scan) (sent : ℕ) (done left : List Recorded) (added : List Transaction) : Type 0 where
  pub end : Offset
  pub entry : Entry
  pub next : IsNext done left end entry
  pub found : IsFound scan end entry sent added

-- it ended at the entry after an offset
pub record StepStop (db : View) (aim : Aim) (scan : Scan) (old : Post) (after : Offset) (before now : Seen) (fault : SendFault) : Type 0 where
  pub added : List Transaction
  pub found : IsTrue before.observable → (publisher : Name) (done left : List Recorded) → IsDatabase db publisher (done ++ left) before → after.0 ≡ end_of done
      → (added ≡ []) ⊎ IsNextFound scan aim.prev.0 done left added
  pub stop : PushStop aim old before now added fault

-- these are the first of what is unsent
pub record IsPrefixOf (pushed waiting : List Transaction) : Type 0 where
  pub rest : List Transaction
  pub parts : waiting ≡ pushed ++ rest

-- it ended as the log was read
pub record ReadStop (db : View) (aim : Aim) (user : Name) (before now : Seen) (fault : SendFault) : Type 0 where
  pub pushed : List Transaction
  pub messages : List Message
  pub prefix : IsCutPrefix aim pushed messages
  pub posted : Posted before now (put_files aim.address aim.count messages)
  pub spelled : AllByRecursion IsMessage messages
  pub begins : IsTrue before.observable → (publisher : Name) (es : List Recorded) → IsDatabase db publisher es before → IsPrefixOf pushed (unsent publisher es user (max db.log.base aim.prev.0))
  pub cause : StopFault before now pushed fault
  pub ends : EndsAtPut before now

-- it ended at what the cutter held
pub record HeldStop (aim : Aim) (old : Post) (before now : Seen) (fault : SendFault) : Type 0 where
  pub messages : List Message
  pub left : List Message
  pub cut : (pushed : List Transaction) (earlier : List Message) → HasMade aim old pushed earlier → AreCut aim.head aim.prev pushed aim.limit (earlier ++ (messages ++ left))
  pub posted : Posted before now (put_files aim.address (aim.count + old.put) messages)
  pub spelled : AllByRecursion IsMessage messages
  pub cause : PutFault before now fault
  pub ends : EndsAtPut before now

-- it ended at the messages that were still due
pub record LastStop (aim : Aim) (book : Book) (ask : Bool) (old : Post) (before now : Seen) (fault : SendFault) : Type 0 where
  pub messages : List Message
  pub are : (pushed : List Transaction) (earlier : List Message) → HasMade aim old pushed earlier
      → (left : List Message) × AreMessages aim.head book ask aim.limit pushed (earlier ++ (messages ++ left))
  pub posted : Posted before now (put_files aim.address (aim.count + old.put) messages)
  pub spelled : AllByRecursion IsMessage messages
  pub cause : PutFault before now fault
  pub ends : EndsAtPut before now

-- all was read, and it ended at the messages that were still due
pub record EndStop (db : View) (aim : Aim) (book : Book) (ask : Bool) (user : Name) (before now : Seen) (fault : SendFault) : Type 0 where
  pub pushed : List Transaction
  pub messages : List Message
  pub left : List Message
  pub are : AreMessages aim.head book ask aim.limit pushed (messages ++ left)
  pub posted : Posted before now (put_files aim.address aim.count messages)
  pub spelled : AllByRecursion IsMessage messages
  pub whole : IsTrue before.observable → (publisher : Name) (es : List Recorded) → IsDatabase db publisher es before → pushed ≡ unsent publisher es user (max db.log.base aim.prev.0)
  pub cause : PutFault before now fault
  pub ends : EndsAtPut before now

-- the messages of a pass were put in part
abbrev pub PutStop : View → Aim → Book → Bool → Name → Seen → Seen → SendFault → Type 0
PutStop db aim book ask user before now fault = ReadStop db aim user before now fault ⊎ EndStop db aim book ask user before now fault
