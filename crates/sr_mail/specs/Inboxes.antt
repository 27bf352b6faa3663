-- What an inbox holds, and which of its windows are whole.
use Rattle.std.specs.Prelude.{◌≡◌, ℕ, ◌≤◌, Bool, false, List, [], ◌∷◌, if◌then◌else◌}
use Rattle.sr_mail.specs.declared.piece.Piece.{Piece}
use Rattle.sr_mail.specs.declared.window.Window.{Window}
use Rattle.sr_mail.specs.Seen.{same_window}

-- one window: the pieces of it that were added, in their order, and whether it was dropped
pub record Gathered : Type 0 where
  pub window : Window
  pub pieces : List Piece
  pub dropped : Bool

-- the pieces of a window
abbrev pub pieces_of : List Gathered → Window → List Piece
pieces_of [] w = []
pieces_of (g ∷ inbox) w = if same_window g.window w then g.pieces else pieces_of inbox w

-- whether it was dropped
abbrev pub is_dropped : List Gathered → Window → Bool
is_dropped [] w = false
is_dropped (g ∷ inbox) w = if same_window g.window w then g.dropped else is_dropped inbox w

-- a piece of the window was added
abbrev pub IsSeen : List Gathered → Window → Type 0
IsSeen inbox w = ¬ (pieces_of inbox w ≡ [])

-- a window was seen that ends here, and none that ends past it
pub record IsGreatest (inbox : List Gathered) (upto : ℕ) : Type 0 where
  pub window : Window
  pub seen : IsSeen inbox window
  pub ends : window.upto ≡ upto
  pub greatest : (other : Window) → IsSeen inbox other → other.upto ≤ upto
