-- The windows of message files, and the one that is to be tried next.
use Rattle.std.specs.Prelude.{◌≡◌, ℕ, Bool, false, ◌||◌, List, [], ◌∷◌, map, filter, Option, Some, nat_lt}
use Rattle.std.specs.List.{AllByRecursion, Contains}
use Rattle.sr_mail_cut.specs.Bodies.{IsBody, RisesPast, body_spelling, last_offset}
use Rattle.sr_base.specs.declared.offset.Offset.{Offset}
use Rattle.sr_logform.specs.declared.op.Transaction.{Transaction}
use Rattle.sr_mail.specs.Assembled.{IsItsPiece}
use Rattle.sr_mail.specs.Reaching.{Leads}
use Rattle.sr_mail.specs.Seen.{ComesBefore, Cover, same_window, window_of, piece_of}
use Rattle.sr_mail.specs.declared.piece.Piece.{Piece}
use Rattle.sr_mail.specs.declared.window.Window.{Window}
use Rattle.sr_msgform.specs.Messages.{IsMessage, message_spelling}
use Rattle.sr_msgform.specs.declared.message.Message.{Message}
use Rattle.sr_receive_gather.specs.MessageFiles.{MessageFile}

-- the pieces of a window among message files
abbrev pub pieces_among : List MessageFile → Window → List Piece
pieces_among message_files w = filter (λ p. same_window (window_of p) w) (map (λ l. piece_of l.0 l.1) message_files)

-- a window was torn or dropped
abbrev pub is_dropped_window : List Window → Window → Bool
is_dropped_window [] w = false
is_dropped_window (v ∷ dropped_windows) w = same_window v w || is_dropped_window dropped_windows w

-- message files have every byte of a window's body, and it was not lost
pub record IsWholeOf (message_files : List MessageFile) (dropped_windows : List Window) (w : Window) : Type 0 where
  pub seen : ¬ (pieces_among message_files w ≡ [])
  pub covered : Cover (pieces_among message_files w) w.total
  pub kept : is_dropped_window dropped_windows w ≡ false

-- the window that is to be tried, of those that lead on from what was received the least, and pieces that cover it
pub record IsDue (message_files : List MessageFile) (dropped_windows : List Window) (received : ℕ) (w : Window) (pieces : List Piece) : Type 0 where
  pub whole : IsWholeOf message_files dropped_windows w
  pub leads : Leads w received
  pub least : (other : Window) → IsWholeOf message_files dropped_windows other → Leads other received → ¬ (ComesBefore other w)
  pub own : AllByRecursion (λ p. (window_of p ≡ w) × Contains (pieces_among message_files w) p) pieces
  pub filled : ¬ (pieces ≡ [])
  pub covered : Cover pieces w.total

-- no window leads on
abbrev pub NoneLeads : List MessageFile → List Window → ℕ → Type 0
NoneLeads message_files dropped_windows received = (w : Window) → IsWholeOf message_files dropped_windows w → ¬ (Leads w received)

-- a message that was fetched again is still that of the piece
pub record IsStill (publisher user : List ℕ) (pair : Piece × Message) : Type 0 where
  pub to : pair.1.to ≡ publisher
  pub from : pair.1.from ≡ user
  pub own : IsItsPiece pair

-- it is, and its file was one
abbrev pub IsRefetched : List ℕ → List ℕ → Piece × Message → Type 0
IsRefetched publisher user pair = IsMessage pair.1 × IsStill publisher user pair

-- what the second fetch of a piece gave is no message, or not its own any more
abbrev pub IsUnlike : List ℕ → List ℕ → Piece → Option (List ℕ) → Type 0
IsUnlike publisher user piece found = (m : Message) → IsMessage m → found ≡ Some (message_spelling m) → ¬ (IsStill publisher user (piece, m))

-- transactions of a window: their offsets lie past its beginning, and the last is its end
pub record AreOf (w : Window) (txs : List Transaction) : Type 0 where
  pub body : IsBody txs
  pub past : RisesPast w.prev txs
  pub ends : (last : Offset) × (last_offset txs ≡ Some last) × (last.0 ≡ w.upto)

-- the bytes spell transactions of the window
abbrev pub Spell : Window → List ℕ → List Transaction → Type 0
Spell w bytes txs = AreOf w txs × (bytes ≡ body_spelling txs)

-- those that lie past an offset
abbrev pub past : ℕ → List Transaction → List Transaction
past received txs = filter (λ t. nat_lt received t.at.0) txs
