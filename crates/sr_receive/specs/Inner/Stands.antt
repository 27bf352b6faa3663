-- Where a pass stands in the code, which act may come there, and what was done while acts came.
-- Here is what no contract of the program says by itself.
use Rattle.std.specs.Prelude.{◌≡◌, ◌⊎◌, ℕ, ◌+◌, ◌-◌, ◌^◌, min, take, drop, length, List, [], ◌∷◌, ◌++◌, map, Option, Result, Ok, Err, if◌then◌else◌}
use Rattle.std.specs.List.{AllByRecursion}
use Rattle.sr_base.specs.Values.{offset_from}
use Rattle.sr_book.specs.Entries.{Name}
use Rattle.sr_database_did.specs.Inner.Did.{PlaceView, Did}
use Rattle.sr_database_did.specs.Inner.Effects.{Effect, entered, End, whole, refused, failed, full, long, short, calls}
use Rattle.sr_database_history.specs.Folds.{State, after_dones}
use Rattle.sr_database_history.specs.Recorded.{Recorded, Done, taken, done_of}
use Rattle.sr_logform.specs.declared.op.Transaction.{Transaction}
use Rattle.sr_mail.specs.Inboxes.{Gathered, pieces_of, is_dropped}
use Rattle.sr_mail.specs.Inner.Inboxes.{IsNext, IsWholeWindow, is_seen}
use Rattle.sr_mail.specs.Reaching.{Leads}
use Rattle.sr_mail.specs.Seen.{same_window}
use Rattle.sr_mail.specs.declared.piece.Piece.{Piece}
use Rattle.sr_mail.specs.declared.window.Window.{Window}
use Rattle.sr_site.specs.Happenings.{Happening}
use Rattle.sr_resolve.specs.Taking.{is_above}
use Rattle.sr_receive_gather.specs.Fetches.{Pairs, RefetchedInPart, refetch, refetches}
use Rattle.sr_receive_gather.specs.Windows.{IsRefetched, IsUnlike, past}
use Rattle.sr_receive_gather.specs.declared.fault.ReceiveFault.{ReceiveFault}
use Rattle.sr_receive_gather.specs.declared.report.Report.{Report}
use Rattle.sr_receive_gather.specs.declared.report.Report.TheVariants.{Torn}
use Rattle.sr_receive_judged.specs.Judged.{AreDone}
use Rattle.sr_receive.specs.Acts.{ReceiveAct, dropped, torn, begun, took, IsReadAs}
use Rattle.sr_receive.specs.Inner.Noting.{fault_of}
use Rattle.sr_receive.specs.Reports.{outcome_reports}

-- whose mail it is, what the database's entries come to, what was received and how many were taken, where the reports of ops end, the inbox, the reports, and
-- the transactions that are to be taken of the window begun
pub record Stand : Type 0 where
  pub user : Name
  pub state : State
  pub received : ℕ
  pub took : ℕ
  pub told : ℕ
  pub inbox : List Gathered
  pub reports : List Report
  pub left : List Transaction

abbrev pub publisher_in : Stand → Name
publisher_in s = s.state.catalog.publisher

-- ---- which act may come, and where it leads

-- the window that is due, and pieces that cover it
pub record IsDueHere (s : Stand) (w : Window) (pieces : List Piece) : Type 0 where
  pub idle : s.left ≡ []
  pub next : IsNext s.inbox s.received pieces
  pub window_is : next.window ≡ w

-- a window is not tried again
pub record Loses (inbox inbox' : List Gathered) (w : Window) : Type 0 where
  pub pieces : (v : Window) → pieces_of inbox' v ≡ pieces_of inbox v
  pub dropped : (v : Window) → is_dropped inbox' v ≡ (if same_window w v then is_seen inbox v else is_dropped inbox v)

pub record Drops (s s' : Stand) (w : Window) (pairs : Pairs) (piece : Piece) (found : Option (List ℕ)) : Type 0 where
  pub behind : List Piece
  pub due : IsDueHere s w (map (λ p. p.0) pairs ++ piece ∷ behind)
  pub still : AllByRecursion (IsRefetched (publisher_in s) s.user) pairs
  pub unlike : IsUnlike (publisher_in s) s.user piece found
  pub lost : Loses s.inbox s'.inbox w
  pub same : s' ≡ record s { inbox = s'.inbox }

-- the window is due, and all its pieces came again
pub record HasCome (s : Stand) (w : Window) (pairs : Pairs) : Type 0 where
  pub due : IsDueHere s w (map (λ p. p.0) pairs)
  pub still : AllByRecursion (IsRefetched (publisher_in s) s.user) pairs

pub record Tears (s s' : Stand) (w : Window) (pairs : Pairs) : Type 0 where
  pub come : HasCome s w pairs
  pub unread : (txs : List Transaction) → ¬ (IsReadAs pairs w txs)
  pub lost : Loses s.inbox s'.inbox w
  pub same : s' ≡ record s { inbox = s'.inbox; reports = s.reports ++ Torn s.user (offset_from w.prev) (offset_from w.upto) ∷ [] }

pub record Begins (s s' : Stand) (w : Window) (pairs : Pairs) (txs : List Transaction) : Type 0 where
  pub come : HasCome s w pairs
  pub read : IsReadAs pairs w txs
  pub same : s' ≡ record s { left = past s.received txs }

-- what is reported of ops that were taken goes behind what was reported of ops before
abbrev pub with_reports : ℕ → List Report → List Report → List Report
with_reports told made reports = take told reports ++ (made ++ drop told reports)

abbrev pub made_of : Stand → Transaction → List Done → List Report
made_of s t dones = outcome_reports s.user t.at 1 (map done_of dones)

pub record Takes (s s' : Stand) (t : Transaction) (dones : List Done) : Type 0 where
  pub rest : List Transaction
  pub left_are : s.left ≡ t ∷ rest
  pub done : AreDone s.state (is_above s.state s.user) t.ops dones
  pub same : s' ≡ record s {
    state = after_dones dones s.state;
    received = t.at.0;
    took = min (s.took + 1) (2 ^ 64 - 1);
    told = s.told + length (made_of s t dones);
    reports = with_reports s.told (made_of s t dones) s.reports;
    left = rest;
  }

abbrev pub IsStep : Stand → ReceiveAct → Stand → Type 0
IsStep s (dropped w pairs piece found) s' = Drops s s' w pairs piece found
IsStep s (torn w pairs) s' = Tears s s' w pairs
IsStep s (begun w pairs txs) s' = Begins s s' w pairs txs
IsStep s (took t dones) s' = Takes s s' t dones

-- acts lead from one stand to another, the newest first
abbrev pub Steps : Stand → List ReceiveAct → Stand → Type 0
Steps s [] s' = s' ≡ s
Steps s (act ∷ earlier) s' = (middle : Stand) × Steps s earlier middle × IsStep middle act s'

-- ---- what was done meanwhile

abbrev pub effects_in : Name → Name → ReceiveAct → List Effect
effects_in publisher user (dropped w pairs piece found) = calls (refetch publisher piece found ∷ refetches publisher pairs [])
effects_in publisher user (torn w pairs) = calls (refetches publisher pairs [])
effects_in publisher user (begun w pairs txs) = calls (refetches publisher pairs [])
effects_in publisher user (took t dones) = entered (taken user t.at dones) ∷ []

abbrev pub effects_of : Name → Name → List ReceiveAct → List Effect
effects_of publisher user [] = []
effects_of publisher user (act ∷ earlier) = effects_of publisher user earlier ++ effects_in publisher user act

-- acts led from one stand to another while the database went from one place to another, and then it ended so
pub record Acted (s s' : Stand) (a b : PlaceView) (end : End) : Type 0 where
  pub acts : List ReceiveAct
  pub steps : Steps s acts s'
  pub did : Did a b (effects_of (publisher_in s) s.user acts) end

-- ---- what was under way where a fault ended it

pub record IsNextEntryHere (s : Stand) (r : Recorded) : Type 0 where
  pub t : Transaction
  pub dones : List Done
  pub rest : List Transaction
  pub is : r ≡ taken s.user t.at dones
  pub left_are : s.left ≡ t ∷ rest
  pub done : AreDone s.state (is_above s.state s.user) t.ops dones

pub record IsFetching (s : Stand) (hs : List Happening) : Type 0 where
  pub window : Window
  pub pieces : List Piece
  pub due : IsDueHere s window pieces
  pub part : RefetchedInPart (publisher_in s) s.user pieces [] hs

abbrev pub IsUnderWay : Stand → End → Type 0
IsUnderWay s whole = ⊥
IsUnderWay s (refused r) = IsNextEntryHere s r
IsUnderWay s (failed hs) = IsFetching s hs
IsUnderWay s (full r end need) = IsNextEntryHere s r
IsUnderWay s (long r size limit) = IsNextEntryHere s r
IsUnderWay s (short hs) = (hs ≡ []) ⊎ IsFetching s hs

-- a fault ended it where some of the acts had come, and the inbox and the reports are as they were then
pub record Stopped (s : Stand) (inbox : List Gathered) (reports : List Report) (a b : PlaceView) (fault : ReceiveFault) : Type 0 where
  pub middle : Stand
  pub end : End
  pub is : fault ≡ fault_of end
  pub acted : Acted s middle a b end
  pub under_way : IsUnderWay middle end
  pub inbox_is : inbox ≡ middle.inbox
  pub reports_are : reports ≡ middle.reports

-- acts led from one stand to the other, or a fault ended it
abbrev pub Ran : Stand → Stand → PlaceView → PlaceView → Result (Unit {0}) ReceiveFault → Type 0
Ran s s' a b (Ok done) = Acted s s' a b whole
Ran s s' a b (Err fault) = Stopped s s'.inbox s'.reports a b fault

-- nothing is to be taken, and no window leads on
pub record IsResting (s : Stand) : Type 0 where
  pub idle : s.left ≡ []
  pub none : (w : Window) → IsWholeWindow s.inbox w → ¬ (Leads w s.received)
