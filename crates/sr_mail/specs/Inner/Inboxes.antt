-- What an inbox holds, and which of its windows are whole.
-- Here is what no contract of the program says by itself.
use Rattle.std.specs.Prelude.{◌≡◌, ℕ, Bool, true, false, ◌++◌, List, [], ◌∷◌, if◌then◌else◌}
use Rattle.std.specs.List.{AllByRecursion, Contains}
use Rattle.sr_mail.specs.declared.piece.Piece.{Piece}
use Rattle.sr_mail.specs.declared.window.Window.{Window}
use Rattle.sr_mail.specs.Reaching.{Leads}
use Rattle.sr_mail.specs.Seen.{ComesBefore, same_window, window_of, Cover}
use Rattle.sr_mail.specs.Inboxes.{Gathered, pieces_of, is_dropped, IsSeen}

-- whether there is one
abbrev pub is_some : List Piece → Bool
is_some [] = false
is_some (p ∷ pieces) = true

-- whether a piece of the window was added
abbrev pub is_seen : List Gathered → Window → Bool
is_seen inbox w = is_some (pieces_of inbox w)

-- it was added, and its pieces have every byte of the body; a dropped window is not whole
pub record IsWholeWindow (inbox : List Gathered) (w : Window) : Type 0 where
  pub seen : IsSeen inbox w
  pub covered : Cover (pieces_of inbox w) w.total
  pub kept : is_dropped inbox w ≡ false

-- pieces of the window that is to be taken next: of the whole windows that lead on from `received` the least
pub record IsNext (inbox : List Gathered) (received : ℕ) (pieces : List Piece) : Type 0 where
  pub window : Window
  pub whole : IsWholeWindow inbox window
  pub leads : Leads window received
  pub least : (other : Window) → IsWholeWindow inbox other → Leads other received → ¬ (ComesBefore other window)
  -- they are of that window, some at least, and have every byte of its body
  pub own : AllByRecursion (λ piece. (window_of piece ≡ window) × Contains (pieces_of inbox window) piece) pieces
  pub filled : ¬ (pieces ≡ [])
  pub covered : Cover pieces window.total

-- the pieces of each window after one more
abbrev pub Adds : List Gathered → Piece → List Gathered → Type 0
Adds inbox piece after = (w : Window) → pieces_of after w ≡ (if same_window (window_of piece) w then pieces_of inbox w ++ piece ∷ [] else pieces_of inbox w)
