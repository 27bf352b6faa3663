-- What a pass makes of the windows of a user's message files: one thing after the other, the newest first.
use Rattle.std.specs.Prelude.{◌≡◌, ⊤, ℕ, ◌+◌, List, [], ◌∷◌, ◌++◌, map, Option}
use Rattle.std.specs.List.{AllByRecursion}
use Rattle.sr_book.specs.Entries.{Name}
use Rattle.sr_base.specs.Values.{offset_from}
use Rattle.sr_database_history.specs.Folds.{State, after_dones}
use Rattle.sr_database_history.specs.Recorded.{Recorded, Done, taken, done_of}
use Rattle.sr_logform.specs.declared.op.Transaction.{Transaction}
use Rattle.sr_mail.specs.Assembled.{IsAssembled}
use Rattle.sr_mail.specs.declared.piece.Piece.{Piece}
use Rattle.sr_mail.specs.declared.window.Window.{Window}
use Rattle.sr_site.specs.Happenings.{Happening}
use Rattle.sr_resolve.specs.Taking.{is_above}
use Rattle.sr_receive_gather.specs.Fetches.{Pairs, refetch, refetches}
use Rattle.sr_receive_judged.specs.Judged.{AreDone}
use Rattle.sr_receive.specs.Reports.{outcome_reports}
use Rattle.sr_receive_gather.specs.MessageFiles.{MessageFile}
use Rattle.sr_receive_gather.specs.Windows.{IsDue, IsRefetched, IsUnlike, NoneLeads, Spell, past}
use Rattle.sr_receive_gather.specs.declared.report.Report.{Report}
use Rattle.sr_receive_gather.specs.declared.report.Report.TheVariants.{Torn}

pub data ReceiveAct : Type 0 where
  -- a window was tried and dropped: pieces came again, and then what came of one was not its own
  dropped : Window → Pairs → Piece → Option (List ℕ) → ReceiveAct
  -- a window was tried and torn: all pieces came again, and their bytes spell no transactions of it
  torn : Window → Pairs → ReceiveAct
  -- a window was tried, and its transactions are to be taken
  begun : Window → Pairs → List Transaction → ReceiveAct
  -- the next of its transactions was taken, and this was done with its ops
  took : Transaction → List Done → ReceiveAct

-- where a pass stands: the state and what was received, the windows that were lost, and the transactions that are to be taken of the one begun
pub record PassState : Type 0 where
  pub state : State
  pub received : ℕ
  pub dropped_windows : List Window
  pub left : List Transaction

-- transactions after the first
abbrev pub rest_of : List Transaction → List Transaction
rest_of [] = []
rest_of (t ∷ ts) = ts

abbrev pub stand_after : ReceiveAct → PassState → PassState
stand_after (dropped w pairs piece found) s = record s { dropped_windows = w ∷ s.dropped_windows }
stand_after (torn w pairs) s = record s { dropped_windows = w ∷ s.dropped_windows }
stand_after (begun w pairs txs) s = record s { left = past s.received txs }
stand_after (took t dones) s = record s { state = after_dones dones s.state; received = t.at.0; left = rest_of s.left }

abbrev pub stand_of : PassState → List ReceiveAct → PassState
stand_of first [] = first
stand_of first (act ∷ earlier) = stand_after act (stand_of first earlier)

-- ---- which acts may come

-- no window is begun of which transactions are left, and this one is due; all its pieces came again
pub record CameAgain (publisher user : Name) (message_files : List MessageFile) (s : PassState) (w : Window) (pairs : Pairs) : Type 0 where
  pub idle : s.left ≡ []
  pub due : IsDue message_files s.dropped_windows s.received w (map (λ p. p.0) pairs)
  pub still : AllByRecursion (IsRefetched publisher user) pairs

-- the bytes of the pieces are these
pub record IsReadAs (pairs : Pairs) (w : Window) (txs : List Transaction) : Type 0 where
  pub bytes : List ℕ
  pub assembled : IsAssembled pairs bytes
  pub spell : Spell w bytes txs

-- a window is due, and of its pieces those before one came again
pub record IsDropped (publisher user : Name) (message_files : List MessageFile) (s : PassState) (w : Window) (pairs : Pairs) (piece : Piece) (found : Option (List ℕ)) : Type 0 where
  pub idle : s.left ≡ []
  pub behind : List Piece
  pub due : IsDue message_files s.dropped_windows s.received w (map (λ p. p.0) pairs ++ piece ∷ behind)
  pub still : AllByRecursion (IsRefetched publisher user) pairs
  pub unlike : IsUnlike publisher user piece found

-- the transaction is the next of the window begun, and each op has the outcome that judging gives it in the state before
pub record IsNextTaken (user : Name) (s : PassState) (t : Transaction) (dones : List Done) : Type 0 where
  pub rest : List Transaction
  pub left_are : s.left ≡ t ∷ rest
  pub done : AreDone s.state (is_above s.state user) t.ops dones

abbrev pub IsAct : Name → Name → List MessageFile → PassState → ReceiveAct → Type 0
IsAct publisher user message_files s (dropped w pairs piece found) = IsDropped publisher user message_files s w pairs piece found
IsAct publisher user message_files s (torn w pairs) = CameAgain publisher user message_files s w pairs × ((txs : List Transaction) → ¬ (IsReadAs pairs w txs))
IsAct publisher user message_files s (begun w pairs txs) = CameAgain publisher user message_files s w pairs × IsReadAs pairs w txs
IsAct publisher user message_files s (took t dones) = IsNextTaken user s t dones

-- each may come where those before it have led
abbrev pub AreActs : Name → Name → List MessageFile → PassState → List ReceiveAct → Type 0
AreActs publisher user message_files first [] = ⊤
AreActs publisher user message_files first (act ∷ earlier) = AreActs publisher user message_files first earlier × IsAct publisher user message_files (stand_of first earlier) act

-- nothing is left to be taken, and no window leads on
abbrev pub IsAtRest : List MessageFile → PassState → Type 0
IsAtRest message_files s = (s.left ≡ []) × NoneLeads message_files s.dropped_windows s.received

-- ---- what follows from acts

-- the entries that were committed, in order
abbrev pub entries_of : Name → List ReceiveAct → List Recorded
entries_of user [] = []
entries_of user (dropped w pairs piece found ∷ earlier) = entries_of user earlier
entries_of user (torn w pairs ∷ earlier) = entries_of user earlier
entries_of user (begun w pairs txs ∷ earlier) = entries_of user earlier
entries_of user (took t dones ∷ earlier) = entries_of user earlier ++ taken user t.at dones ∷ []

-- how many transactions were taken
abbrev pub taken_in : List ReceiveAct → ℕ
taken_in [] = 0
taken_in (dropped w pairs piece found ∷ earlier) = taken_in earlier
taken_in (torn w pairs ∷ earlier) = taken_in earlier
taken_in (begun w pairs txs ∷ earlier) = taken_in earlier
taken_in (took t dones ∷ earlier) = taken_in earlier + 1

-- what is reported of the ops that were taken, in order
abbrev pub op_reports : Name → List ReceiveAct → List Report
op_reports user [] = []
op_reports user (dropped w pairs piece found ∷ earlier) = op_reports user earlier
op_reports user (torn w pairs ∷ earlier) = op_reports user earlier
op_reports user (begun w pairs txs ∷ earlier) = op_reports user earlier
op_reports user (took t dones ∷ earlier) = op_reports user earlier ++ outcome_reports user t.at 1 (map done_of dones)

-- and of torn windows
abbrev pub torn_reports : Name → List ReceiveAct → List Report
torn_reports user [] = []
torn_reports user (dropped w pairs piece found ∷ earlier) = torn_reports user earlier
torn_reports user (torn w pairs ∷ earlier) = torn_reports user earlier ++ Torn user (offset_from w.prev) (offset_from w.upto) ∷ []
torn_reports user (begun w pairs txs ∷ earlier) = torn_reports user earlier
torn_reports user (took t dones ∷ earlier) = torn_reports user earlier

-- what happened to the mail
abbrev pub mail_after : Name → List ReceiveAct → List Happening → List Happening
mail_after address [] before = before
mail_after address (dropped w pairs piece found ∷ earlier) before = refetch address piece found ∷ refetches address pairs (mail_after address earlier before)
mail_after address (torn w pairs ∷ earlier) before = refetches address pairs (mail_after address earlier before)
mail_after address (begun w pairs txs ∷ earlier) before = refetches address pairs (mail_after address earlier before)
mail_after address (took t dones ∷ earlier) before = mail_after address earlier before
