-- What a pass over a user's message files does.
-- Here is what no contract of the program says by itself.
use Rattle.std.specs.Prelude.{◌≡◌, List, [], ◌++◌, map, IsTrue, IfErr, Result, Ok, Err}
use Rattle.sr_book.specs.Entries.{Name}
use Rattle.sr_database.specs.Views.{View}
use Rattle.sr_database_did.specs.Inner.Did.{PlaceView}
use Rattle.sr_database_files.specs.Books.{book_in}
use Rattle.sr_database_history.specs.Recorded.{Recorded}
use Rattle.sr_mail.specs.declared.window.Window.{Window}
use Rattle.sr_site.specs.Causes.{Rose}
use Rattle.sr_site.specs.Happenings.{mail_in}
use Rattle.sr_site.specs.Seen.{Seen}
use Rattle.sr_receive.specs.Acts.{ReceiveAct, PassState, stand_of, AreActs, IsAtRest, entries_of, taken_in, mail_after}
use Rattle.sr_receive_gather.specs.Bags.{filed_of, Has, IsPartnerMail}
use Rattle.sr_receive_gather.specs.Inner.Bags.{OthersStay}
use Rattle.sr_receive.specs.Entering.{Reached}
use Rattle.sr_receive_gather.specs.Greatest.{raises, has_gap}
use Rattle.sr_receive_gather.specs.MessageFiles.{MessageFile}
use Rattle.sr_receive_gather.specs.declared.bag.PartnerMail.{PartnerMail}
use Rattle.sr_receive_gather.specs.declared.fault.ReceiveFault.{ReceiveFault}
use Rattle.sr_receive_gather.specs.declared.fault.ReceiveFault.TheVariants.{Disk, Mail, Full, Long, Memory}
use Rattle.sr_receive.specs.declared.receiving.Received.{Received}
use Rattle.sr_receive_gather.specs.declared.report.Report.{Report}
use Rattle.sr_receive.specs.Passes.{first_of, note_entries, first_notes, gap_report, act_reports, AreSteady, PassedInPart}

-- from a stand on, after these notes: windows are tried as long as one leads on from what was received; and where one ends past it then, that is
-- raised
pub record PassedFrom (old new : View) (before now : Seen) (user : Name) (message_files : List MessageFile) (notes : List Recorded) (first : PassState) (dropped_windows' : List Window) (reports reports' : List Report) (answer : Received) : Type 0 where
  pub acts : List ReceiveAct
  pub are : AreActs old.catalog.publisher user message_files first acts
  pub rest : IsAtRest message_files (stand_of first acts)
  pub dropped_windows_are : dropped_windows' ≡ (stand_of first acts).dropped_windows
  pub reached : Reached old new before now (notes ++ (entries_of user acts ++ note_entries user (raises answer.end.0 (map filed_of message_files)))) []
  pub mail : IsTrue before.observable → mail_in now.happened ≡ mail_after old.catalog.publisher acts (mail_in before.happened)
  pub steady : now.mail_faults ≡ before.mail_faults
  pub reports_are : reports' ≡ reports ++ (act_reports user acts ++ gap_report user answer.end.0 (map filed_of message_files))
  pub took : answer.took ≡ taken_in acts
  pub end : answer.end.0 ≡ (stand_of first acts).received
  pub ask : answer.ask ≡ has_gap answer.end.0 (map filed_of message_files)

-- a whole pass over these message files of a user: the greatest confirm is noted and then the ask of the greatest count, and after them windows are tried
abbrev pub Passed : View → View → Seen → Seen → Name → List MessageFile → List Window → List Window → List Report → List Report → Received → Type 0
Passed old new before now user message_files dropped_windows dropped_windows' reports reports' answer =
    PassedFrom old new before now user message_files (first_notes user (book_in old.books user) (map filed_of message_files)) (first_of old (book_in old.books user) dropped_windows) dropped_windows' reports reports' answer

-- which device refused, if one did: its count rose, and that of the other stays; at a limit and where there is no memory both stay
abbrev pub IsDeviceFault : Seen → Seen → ReceiveFault → Type 0
IsDeviceFault before now Disk = Rose before.disk_faults now.disk_faults × (now.mail_faults ≡ before.mail_faults)
IsDeviceFault before now Mail = Rose before.mail_faults now.mail_faults × (now.disk_faults ≡ before.disk_faults)
IsDeviceFault before now (Full end need) = AreSteady before now
IsDeviceFault before now (Long size limit) = AreSteady before now
IsDeviceFault before now Memory = AreSteady before now

-- ---- what a call says, of all message files that the bag may hold of the user

pub record HasReceived (old new : View) (before now : Seen) (user : Name) (bag bag' : List PartnerMail) (reports reports' : List Report) (answer : Received) : Type 0 where
  pub others : OthersStay bag bag' user
  pub passed : (message_files : List MessageFile) (dropped_windows : List Window) → Has bag user message_files dropped_windows
      → (dropped_windows' : List Window) × Has bag' user message_files dropped_windows' × Passed old new before now user message_files dropped_windows dropped_windows' reports reports' answer

pub record ReceiveCause (old new : View) (before now : Seen) (user : Name) (bag bag' : List PartnerMail) (reports reports' : List Report) (fault : ReceiveFault) : Type 0 where
  pub why : IsDeviceFault before now fault
  pub others : OthersStay bag bag' user
  pub passed : (message_files : List MessageFile) (dropped_windows : List Window) → Has bag user message_files dropped_windows
      → (dropped_windows' : List Window) × Has bag' user message_files dropped_windows' × PassedInPart old new before now user message_files dropped_windows dropped_windows' reports reports' fault

-- ---- the same of one partner mail, whatever was answered

-- a pass over these message files
abbrev pub HasPassed : PlaceView → PlaceView → Name → List Report → List Report → Result Received ReceiveFault → List MessageFile → List Window → List Window → Type 0
HasPassed a b user reports reports' (Ok answer) message_files dropped_windows dropped_windows' = Passed a.db b.db a.seen b.seen user message_files dropped_windows dropped_windows' reports reports' answer
HasPassed a b user reports reports' (Err fault) message_files dropped_windows dropped_windows' = PassedInPart a.db b.db a.seen b.seen user message_files dropped_windows dropped_windows' reports reports' fault

pub record ReceivedMail (a b : PlaceView) (user : Name) (mail mail' : PartnerMail) (reports reports' : List Report) (result : Result Received ReceiveFault) : Type 0 where
  pub why : IfErr result (IsDeviceFault a.seen b.seen)
  pub passed : (message_files : List MessageFile) (dropped_windows : List Window) → IsPartnerMail message_files dropped_windows mail
      → (dropped_windows' : List Window) × IsPartnerMail message_files dropped_windows' mail' × HasPassed a b user reports reports' result message_files dropped_windows dropped_windows'

pub record ReceivedBag (a b : PlaceView) (user : Name) (bag bag' : List PartnerMail) (reports reports' : List Report) (result : Result Received ReceiveFault) : Type 0 where
  pub why : IfErr result (IsDeviceFault a.seen b.seen)
  pub others : OthersStay bag bag' user
  pub passed : (message_files : List MessageFile) (dropped_windows : List Window) → Has bag user message_files dropped_windows
      → (dropped_windows' : List Window) × Has bag' user message_files dropped_windows' × HasPassed a b user reports reports' result message_files dropped_windows dropped_windows'
