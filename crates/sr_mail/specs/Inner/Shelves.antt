-- Windows in their order, as they stand on shelves.
use Rattle.std.specs.Prelude.{◌≡◌, ℕ, ◌⊎◌, ◌<◌, ◌≤◌, Bool, true, false, ◌&&◌, ◌||◌, ◌==◌, nat_lt, ⊤, List, [], ◌∷◌, ◌++◌, if◌then◌else◌}
use Rattle.std.specs.List.{flat_map, AllByRecursion}
use Rattle.sr_mail.specs.declared.piece.Piece.{Piece}
use Rattle.sr_mail.specs.declared.window.Window.{Window}
use Rattle.sr_mail.specs.Inboxes.{Gathered, pieces_of}
use Rattle.sr_mail.specs.Inner.Inboxes.{IsWholeWindow}
use Rattle.sr_mail.specs.Reaching.{Leads}
use Rattle.sr_mail.specs.Seen.{ComesBefore, same_window, window_of, Cover}

-- whether one window comes before another
abbrev pub is_before : Window → Window → Bool
is_before w v = nat_lt w.prev v.prev || ((w.prev == v.prev) && (nat_lt w.upto v.upto || ((w.upto == v.upto) && nat_lt w.total v.total)))

-- every byte came, and the window was not dropped
abbrev pub IsReady : Gathered → Type 0
IsReady g = (g.dropped ≡ false) × Cover g.pieces g.window.total

-- a ready window that ends past an offset
abbrev pub EndsPast : ℕ → Gathered → Type 0
EndsPast offset g = IsReady g × (offset < g.window.upto)

-- all stand before a window
abbrev pub AllBefore : List Gathered → Window → Type 0
AllBefore gs w = AllByRecursion (λ g. is_before g.window w ≡ true) gs

-- all stand behind a window
abbrev pub AllBehind : List Gathered → Window → Type 0
AllBehind gs w = AllByRecursion (λ g. is_before w g.window ≡ true) gs

-- the first does not stand before a window
abbrev pub BeginsBehind : List Gathered → Window → Type 0
BeginsBehind [] w = ⊤
BeginsBehind (g ∷ gs) w = is_before g.window w ≡ false

-- the first is that window
abbrev pub StandsFirst : List Gathered → Window → Type 0
StandsFirst [] w = ⊥
StandsFirst (g ∷ gs) w = g.window ≡ w

-- each stands before those behind it
abbrev pub AreInOrder : List Gathered → Type 0
AreInOrder [] = ⊤
AreInOrder (g ∷ gs) = AllBehind gs g.window × AreInOrder gs

-- what one piece more makes of windows in their order
abbrev pub added : Piece → List Gathered → List Gathered
added piece [] = record { window = window_of piece; pieces = piece ∷ []; dropped = false } ∷ []
added piece (g ∷ gs) =
    if is_before g.window (window_of piece) then g ∷ added piece gs
    else (if same_window g.window (window_of piece) then record { window = g.window; pieces = g.pieces ++ piece ∷ []; dropped = g.dropped } ∷ gs
    else record { window = window_of piece; pieces = piece ∷ []; dropped = false } ∷ g ∷ gs)

-- whether a window stands among them
abbrev pub stands_among : List Gathered → Window → Bool
stands_among [] w = false
stands_among (g ∷ gs) w = if same_window g.window w then true else stands_among gs w

-- what it makes of them to drop the first one
abbrev pub first_dropped : List Gathered → List Gathered
first_dropped [] = []
first_dropped (g ∷ gs) = record { window = g.window; pieces = g.pieces; dropped = true } ∷ gs

-- what it makes of them to drop a window
abbrev pub without : Window → List Gathered → List Gathered
without w [] = []
without w (g ∷ gs) = if same_window g.window w then first_dropped (g ∷ gs) else g ∷ without w gs

-- what stands on shelves, one after the other
abbrev pub all_of : List (List Gathered) → List Gathered
all_of shelves = flat_map (λ shelf. shelf) shelves

-- no ready window ends past this offset
abbrev pub EndBy : ℕ → List Gathered → Type 0
EndBy farthest gs = AllByRecursion (λ g. IsReady g → g.window.upto ≤ farthest) gs

-- the first of the ready windows that end past an offset
pub record IsFirstPast (offset : ℕ) (gs : List Gathered) (g : Gathered) : Type 0 where
  pub prefix : List Gathered
  pub behind : List Gathered
  pub parts : gs ≡ prefix ++ g ∷ behind
  pub passed : AllByRecursion (λ other. ¬ (EndsPast offset other)) prefix
  pub is_one : EndsPast offset g

-- one of the windows ends here
abbrev pub OneEnds : ℕ → List Gathered → Type 0
OneEnds upto [] = ⊥
OneEnds upto (g ∷ gs) = (g.window.upto ≡ upto) ⊎ OneEnds upto gs

-- what an inbox keeps: windows in their order, each with a piece at least, and the greatest of their ends
pub record IsInbox (inbox : List Gathered) (farthest : ℕ) : Type 0 where
  pub order : AreInOrder inbox
  pub filled : AllByRecursion (λ g. ¬ (g.pieces ≡ []) × AllByRecursion (λ p. window_of p ≡ g.window) g.pieces) inbox
  pub ends : AllByRecursion (λ g. g.window.upto ≤ farthest) inbox
  pub attained : 0 < farthest → OneEnds farthest inbox

-- what came of the window that is to be taken next
pub record IsLeading (inbox : List Gathered) (received : ℕ) (g : Gathered) : Type 0 where
  pub whole : IsWholeWindow inbox g.window
  pub leads : Leads g.window received
  pub least : (other : Window) → IsWholeWindow inbox other → Leads other received → ¬ (ComesBefore other g.window)
  pub pieces : pieces_of inbox g.window ≡ g.pieces
