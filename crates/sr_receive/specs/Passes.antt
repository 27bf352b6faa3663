-- What a pass over a user's message files does.
use Rattle.std.specs.Prelude.{◌≡◌, ◌⊎◌, ⊤, ℕ, List, [], ◌∷◌, ◌++◌, map, IsTrue, if◌then◌else◌}
use Rattle.sr_base.specs.Values.{offset_from}
use Rattle.sr_book.specs.Entries.{Name}
use Rattle.sr_book.specs.declared.book.Book.{Book}
use Rattle.sr_book.specs.declared.note.Note.{Note}
use Rattle.sr_database.specs.Causes.{IsTooFar, IsTooLong}
use Rattle.sr_database.specs.Views.{View, committed}
use Rattle.sr_database_files.specs.Books.{book_in}
use Rattle.sr_database_history.specs.Recorded.{Recorded, Done, note, taken, entry_of}
use Rattle.sr_logform.specs.declared.op.Transaction.{Transaction}
use Rattle.sr_mail.specs.declared.piece.Piece.{Piece}
use Rattle.sr_mail.specs.declared.window.Window.{Window}
use Rattle.sr_site.specs.Happenings.{Happening, mail_in}
use Rattle.sr_site.specs.Seen.{Seen}
use Rattle.sr_receive.specs.Acts.{ReceiveAct, PassState, stand_of, AreActs, IsAtRest, IsNextTaken, entries_of, op_reports, torn_reports, mail_after}
use Rattle.sr_receive_gather.specs.Bags.{filed_of}
use Rattle.sr_receive.specs.Entering.{Reached}
use Rattle.sr_receive_gather.specs.Fetches.{RefetchedInPart}
use Rattle.sr_receive_gather.specs.Greatest.{confirms, asks, raises, has_gap, upto_in}
use Rattle.sr_receive_gather.specs.MessageFiles.{MessageFile}
use Rattle.sr_receive_gather.specs.Windows.{IsDue}
use Rattle.sr_receive_gather.specs.declared.bag.Filed.{Filed}
use Rattle.sr_receive_gather.specs.declared.fault.ReceiveFault.{ReceiveFault}
use Rattle.sr_receive_gather.specs.declared.fault.ReceiveFault.TheVariants.{Disk, Mail, Full, Long, Memory}
use Rattle.sr_receive_gather.specs.declared.report.Report.{Report}
use Rattle.sr_receive_gather.specs.declared.report.Report.TheVariants.{Gap}

-- where a pass begins
abbrev pub first_of : View → Book → List Window → PassState
first_of old book dropped_windows = record { state = committed old; received = book.log_received; dropped_windows = dropped_windows; left = [] }

-- notes of a user, as entries
abbrev pub note_entries : Name → List Note → List Recorded
note_entries user notes = map (λ n. note user n) notes

-- the notes that come before the windows
abbrev pub first_notes : Name → Book → List Filed → List Recorded
first_notes user book files = note_entries user (confirms book files) ++ note_entries user (asks book files)

-- the report of a window that ends past what was received
abbrev pub gap_report : Name → ℕ → List Filed → List Report
gap_report user received files = if has_gap received files then Gap user (offset_from received) (offset_from (upto_in files)) ∷ [] else []

-- the reports of acts: of ops, then of torn windows
abbrev pub act_reports : Name → List ReceiveAct → List Report
act_reports user acts = op_reports user acts ++ torn_reports user acts

-- ---- a pass that a fault ended

-- the counts of both devices stay
pub record AreSteady (before now : Seen) : Type 0 where
  pub disk : now.disk_faults ≡ before.disk_faults
  pub mail : now.mail_faults ≡ before.mail_faults

-- the entry that was refused, if one was: the disk refused its commit, or it has no room in the log, or is too long. The mail refuses no entry, and
-- where memory is wanting no commit is begun
abbrev pub IsRefused : View → List Recorded → ReceiveFault → Type 0
IsRefused view [] Disk = ⊥
IsRefused view [] Mail = ⊤
IsRefused view [] (Full end need) = ⊥
IsRefused view [] (Long size limit) = ⊥
IsRefused view [] Memory = ⊤
IsRefused view (r ∷ []) Disk = ⊤
IsRefused view (r ∷ []) Mail = ⊥
IsRefused view (r ∷ []) (Full end need) = IsTooFar view.log (entry_of r) end need
IsRefused view (r ∷ []) (Long size limit) = IsTooLong (entry_of r) size limit
IsRefused view (r ∷ []) Memory = ⊥
IsRefused view (r ∷ other ∷ rs) fault = ⊥

-- of it the commit was begun where the disk refused
abbrev pub begun_by : ReceiveFault → List Recorded → List Recorded
begun_by Disk refused = refused
begun_by Mail refused = []
begun_by (Full end need) refused = []
begun_by (Long size limit) refused = []
begun_by Memory refused = []

-- of these entries a prefix was committed, and the next was refused or none was
pub record StopsAmong (old new : View) (before now : Seen) (whole : List Recorded) (fault : ReceiveFault) : Type 0 where
  pub entries : List Recorded
  pub refused : List Recorded
  pub rest : List Recorded
  pub parts : whole ≡ entries ++ (refused ++ rest)
  pub is : IsRefused new refused fault
  pub reached : Reached old new before now entries (begun_by fault refused)

-- of the pieces of the window that is due the first were fetched again, and one more at most was begun
pub record HasFetched (publisher user : Name) (message_files : List MessageFile) (s : PassState) (before now : List Happening) : Type 0 where
  pub window : Window
  pub pieces : List Piece
  pub idle : s.left ≡ []
  pub due : IsDue message_files s.dropped_windows s.received window pieces
  pub part : RefetchedInPart publisher user pieces before now

-- what happened to the mail after the acts: fetches of the window that is due, where the mail refused, and where memory was wanting if it was under
-- trial; else nothing
abbrev pub IsMailAt : ReceiveFault → Name → Name → List MessageFile → PassState → List Happening → List Happening → Type 0
IsMailAt Disk publisher user message_files s before now = now ≡ before
IsMailAt Mail publisher user message_files s before now = HasFetched publisher user message_files s before now
IsMailAt (Full end need) publisher user message_files s before now = now ≡ before
IsMailAt (Long size limit) publisher user message_files s before now = now ≡ before
IsMailAt Memory publisher user message_files s before now = (now ≡ before) ⊎ HasFetched publisher user message_files s before now

-- the entry that was refused, if one was, is that of the next transaction of the window begun
pub record IsNextEntry (user : Name) (s : PassState) (r : Recorded) : Type 0 where
  pub t : Transaction
  pub dones : List Done
  pub is : r ≡ taken user t.at dones
  pub next : IsNextTaken user s t dones

abbrev pub IsOfNext : Name → PassState → List Recorded → Type 0
IsOfNext user s [] = ⊤
IsOfNext user s (r ∷ rs) = IsNextEntry user s r

-- it ended at these notes: no window was tried
pub record StoppedAtNotes (old new : View) (before now : Seen) (notes : List Recorded) (dropped_windows dropped_windows' : List Window) (reports reports' : List Report) (fault : ReceiveFault) : Type 0 where
  pub stops : StopsAmong old new before now notes fault
  pub dropped_windows_are : dropped_windows' ≡ dropped_windows
  pub mail : IsTrue before.observable → mail_in now.happened ≡ mail_in before.happened
  pub reports_are : reports' ≡ reports

-- it ended at the windows: what these acts come to was done, and no more
pub record StoppedAtWindows (old new : View) (before now : Seen) (user : Name) (message_files : List MessageFile) (notes : List Recorded) (first : PassState) (acts : List ReceiveAct) (reports reports' : List Report) (fault : ReceiveFault) : Type 0 where
  pub refused : List Recorded
  pub is : IsRefused new refused fault
  pub next : IsOfNext user (stand_of first acts) refused
  pub reached : Reached old new before now (notes ++ entries_of user acts) (begun_by fault refused)
  pub mail : IsTrue before.observable → IsMailAt fault old.catalog.publisher user message_files (stand_of first acts) (mail_after old.catalog.publisher acts (mail_in before.happened)) (mail_in now.happened)
  pub reports_are : reports' ≡ reports ++ act_reports user acts

-- it ended at its end: no window leads on any more, and what is left is to be raised
pub record StoppedAtEnd (old new : View) (before now : Seen) (user : Name) (message_files : List MessageFile) (notes : List Recorded) (first : PassState) (acts : List ReceiveAct) (reports reports' : List Report) (fault : ReceiveFault) : Type 0 where
  pub at_rest : IsAtRest message_files (stand_of first acts)
  pub raised : List Recorded
  pub refused : List Recorded
  pub rest : List Recorded
  pub parts : note_entries user (raises (stand_of first acts).received (map filed_of message_files)) ≡ raised ++ (refused ++ rest)
  pub is : IsRefused new refused fault
  pub reached : Reached old new before now (notes ++ (entries_of user acts ++ raised)) (begun_by fault refused)
  pub mail : IsTrue before.observable → mail_in now.happened ≡ mail_after old.catalog.publisher acts (mail_in before.happened)
  pub reports_are : reports' ≡ reports ++ act_reports user acts

-- it ended after these notes, with the acts that came
pub record StoppedFrom (old new : View) (before now : Seen) (user : Name) (message_files : List MessageFile) (notes : List Recorded) (first : PassState) (dropped_windows' : List Window) (reports reports' : List Report) (fault : ReceiveFault) : Type 0 where
  pub acts : List ReceiveAct
  pub are : AreActs old.catalog.publisher user message_files first acts
  pub dropped_windows_are : dropped_windows' ≡ (stand_of first acts).dropped_windows
  pub stopped : StoppedAtWindows old new before now user message_files notes first acts reports reports' fault
      ⊎ StoppedAtEnd old new before now user message_files notes first acts reports reports' fault

-- a pass that a fault ended
abbrev pub PassedInPart : View → View → Seen → Seen → Name → List MessageFile → List Window → List Window → List Report → List Report → ReceiveFault → Type 0
PassedInPart old new before now user message_files dropped_windows dropped_windows' reports reports' fault =
    StoppedAtNotes old new before now (first_notes user (book_in old.books user) (map filed_of message_files)) dropped_windows dropped_windows' reports reports' fault
    ⊎ StoppedFrom old new before now user message_files (first_notes user (book_in old.books user) (map filed_of message_files)) (first_of old (book_in old.books user) dropped_windows) dropped_windows' reports reports' fault
