-- A pass in the code, and what its functions do.
-- Here is what no contract of the program says by itself.
use Rattle.std.specs.Prelude.{◌≡◌, ◌++◌, ◌⊎◌, ℕ, ◌≤◌, length, List, [], map, Option, Some, None, Result, Ok, Err, IsSome}
use Rattle.sr_book.specs.Entries.{Name}
use Rattle.sr_catalog_schema.specs.Members.{user_name}
use Rattle.sr_catalog_schema.specs.Names.{named}
use Rattle.sr_database.specs.Inner.Commits.{CanCommit}
use Rattle.sr_database.specs.Views.{View, committed}
use Rattle.sr_database_did.specs.Inner.Did.{PlaceView, Did}
use Rattle.sr_database_did.specs.Inner.Effects.{entered, whole}
use Rattle.sr_database_did.specs.Inner.Places.{IsLent, at}
use Rattle.sr_database_history.specs.Recorded.{Done, taken, done_of}
use Rattle.sr_logform.specs.declared.entry.Entry.{Entry}
use Rattle.sr_logform.specs.declared.entry.Entry.TheVariants.{From}
use Rattle.sr_logform.specs.declared.op.Transaction.{Transaction}
use Rattle.sr_mail.specs.Inboxes.{Gathered}
use Rattle.sr_mail.specs.declared.piece.Piece.{Piece}
use Rattle.sr_mail.specs.declared.window.Window.{Window}
use Rattle.sr_resolve.specs.Taking.{is_above}
use Rattle.sr_site.specs.Seen.{Seen}
use Rattle.sr_receive_gather.specs.Fetches.{Pairs, FoundPairs}
use Rattle.sr_receive_gather.specs.Greatest.{raises, has_gap}
use Rattle.sr_receive_gather.specs.Inner.Fetches.{FoundAll}
use Rattle.sr_receive_gather.specs.declared.bag.Filed.{Filed}
use Rattle.sr_receive_gather.specs.declared.fault.ReceiveFault.{ReceiveFault}
use Rattle.sr_receive_gather.specs.declared.report.Report.{Report}
use Rattle.sr_receive_judged.specs.Judged.{AreDone}
use Rattle.sr_receive.specs.Acts.{IsReadAs}
use Rattle.sr_receive.specs.Inner.Ready.{IsReady}
use Rattle.sr_receive.specs.Inner.Noting.{NotAll}
use Rattle.sr_receive.specs.Inner.Stands.{Stand, Acted, IsDueHere, IsResting, Ran, Stopped, publisher_in}
use Rattle.sr_receive.specs.Passes.{gap_report, note_entries}
use Rattle.sr_receive.specs.declared.pass.Pass.{Pass}
use Rattle.sr_receive.specs.declared.receiving.Received.{Received}

-- the database can be gone on with, the user is granted, and the reports of ops end among the reports
pub record IsReadyAt (user : Name) (told : ℕ) (reports : List Report) (a : PlaceView) : Type 0 where
  pub ready : IsReady a.db a.seen
  pub granted : IsSome (named user_name user a.db.catalog.users)
  pub within : told ≤ length reports

-- ---- a window on trial

-- its pieces were fetched again, and this came
pub record IsOnTrial (s : Stand) (w : Window) (pieces : List Piece) (before now : Seen) (found : Option Pairs) : Type 0 where
  pub due : IsDueHere s w pieces
  pub found_all : FoundAll (publisher_in s) s.user pieces before now found

-- they came
pub record IsUnderTrial (s : Stand) (w : Window) (pairs : Pairs) (before now : Seen) : Type 0 where
  pub due : IsDueHere s w (map (λ p. p.0) pairs)
  pub found : FoundPairs (publisher_in s) s.user (map (λ p. p.0) pairs) before now pairs

-- transactions were read of a window's bytes, or none
abbrev pub IsReadOrNot : Pairs → Window → Option (List Transaction) → Type 0
IsReadOrNot pairs w None = (txs : List Transaction) → ¬ (IsReadAs pairs w txs)
IsReadOrNot pairs w (Some txs) = IsReadAs pairs w txs

module _ {S : Type 0} where
  -- where a pass stands with this inbox, and with these transactions at hand
  abbrev pub stand : Pass S → List Gathered → List Transaction → Stand
  stand p inbox left = record {
    user = p.user.now;
    state = committed p.place.db.now;
    received = p.progress.received.0;
    took = p.progress.took;
    told = p.progress.told;
    inbox = inbox;
    reports = p.reports.now.items;
    left = left;
  }

  -- where its windows begin
  abbrev pub begins : Pass S → ℕ → List Gathered → Stand
  begins p received inbox = record {
    user = p.user.now;
    state = committed p.place.db.now;
    received = received;
    took = 0;
    told = length p.reports.now.items;
    inbox = inbox;
    reports = p.reports.now.items;
    left = [];
  }

  -- it is still lent what it was lent
  pub record KeepsLoans (old new : Pass S) : Type 0 where
    pub place : IsLent old.place new.place
    pub user : new.user ≡ old.user
    pub reports : new.reports.ghost_name ≡ old.reports.ghost_name

  abbrev pub IsReadyPass : (S → Seen) → Pass S → Type 0
  IsReadyPass seen p = IsReadyAt p.user.now p.progress.told p.reports.now.items (at seen p.place)

  -- acts led from one stand to the other, or a fault ended it
  abbrev pub Runs : (S → Seen) → Pass S → List Gathered → List Transaction → Pass S → List Gathered → List Transaction → Result (Unit {0}) ReceiveFault → Type 0
  Runs seen old inbox left new inbox' left' result = Ran (stand old inbox left) (stand new inbox' left') (at seen old.place) (at seen new.place) result

  -- so it was from a moment of the site on
  abbrev pub RunsFrom : (S → Seen) → Seen → Pass S → List Gathered → Pass S → List Gathered → Result (Unit {0}) ReceiveFault → Type 0
  RunsFrom seen before old inbox new inbox' result = Ran (stand old inbox []) (stand new inbox' []) (record { db = old.place.db.now; seen = before }) (at seen new.place) result

  -- a window was tried of which the pieces were fetched again, from any moment before on
  abbrev pub TriesFound : (S → Seen) → Pass S → List Gathered → Pass S → List Gathered → Window → Option Pairs → Result (Unit {0}) ReceiveFault → Type 0
  TriesFound seen old inbox new inbox' w found result = (pieces : List Piece) (before : Seen) → IsOnTrial (stand old inbox []) w pieces before (seen old.place.site.now) found → RunsFrom seen before old inbox new inbox' result

  -- and one of which the bytes were read
  abbrev pub TriesRead : (S → Seen) → Pass S → List Gathered → Pass S → List Gathered → Window → Option (List Transaction) → Result (Unit {0}) ReceiveFault → Type 0
  TriesRead seen old inbox new inbox' w read result = (pairs : Pairs) (before : Seen) → IsUnderTrial (stand old inbox []) w pairs before (seen old.place.site.now) → IsReadOrNot pairs w read → RunsFrom seen before old inbox new inbox' result

-- the entry of a transaction, judged in the state of the database, where it may be committed
pub record IsItsEntry (db : View) (user : Name) (t : Transaction) (entry : Entry) : Type 0 where
  pub dones : List Done
  pub done : AreDone (committed db) (is_above (committed db) user) t.ops dones
  pub is : entry ≡ From user t.at (map done_of dones)
  pub can : CanCommit db entry (taken user t.at dones)

-- ---- after the notes that come first

-- what is raised behind the windows, and the answer
pub record HasRaised (s : Stand) (files : List Filed) (reports : List Report) (answer : Received) : Type 0 where
  pub took : answer.took ≡ s.took
  pub end : answer.end.0 ≡ s.received
  pub ask : answer.ask ≡ has_gap s.received files
  pub reports_are : reports ≡ s.reports ++ gap_report s.user s.received files

-- windows were tried as far as one leads on, and what was to be raised then was
pub record WentThrough (s : Stand) (a b : PlaceView) (files : List Filed) (inbox : List Gathered) (reports : List Report) (answer : Received) : Type 0 where
  pub last : Stand
  pub middle : PlaceView
  pub acted : Acted s last a middle whole
  pub rest : IsResting last
  pub inbox_is : inbox ≡ last.inbox
  pub noted : Did middle b (map entered (note_entries last.user (raises last.received files))) whole
  pub raised : HasRaised last files reports answer

-- a fault ended it while that was raised
pub record StoppedRaising (s : Stand) (a b : PlaceView) (files : List Filed) (inbox : List Gathered) (reports : List Report) (fault : ReceiveFault) : Type 0 where
  pub last : Stand
  pub middle : PlaceView
  pub acted : Acted s last a middle whole
  pub rest : IsResting last
  pub inbox_is : inbox ≡ last.inbox
  pub reports_are : reports ≡ last.reports
  pub noted : NotAll middle b (note_entries last.user (raises last.received files)) fault

abbrev pub WentBehind : Stand → PlaceView → PlaceView → List Filed → List Gathered → List Report → Result Received ReceiveFault → Type 0
WentBehind s a b files inbox reports (Ok answer) = WentThrough s a b files inbox reports answer
WentBehind s a b files inbox reports (Err fault) = Stopped s inbox reports a b fault ⊎ StoppedRaising s a b files inbox reports fault
