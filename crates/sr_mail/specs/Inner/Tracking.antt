-- What a reach knows of the pieces that were added.
use Rattle.std.specs.Prelude.{◌≡◌, ℕ, ◌+◌, ◌<◌, ◌≤◌, ◌⊎◌, Some, List, [], ◌∷◌, IsTrue}
use Rattle.std.specs.BTreeMap.{get}
use Rattle.std.specs.List.{AllByRecursion, list_any}
use Rattle.std.specs.Ordering.{nat_cmp}
use Rattle.sr_mail.specs.declared.piece.Piece.{Piece}
use Rattle.sr_mail.specs.declared.reach.Reach.{Reach}
use Rattle.sr_mail.specs.declared.window.Window.{Window}
use Rattle.sr_mail.specs.Seen.{window_of, covers}

-- a fragment waits that begins where the piece does, and ends no earlier
abbrev pub Waits : Reach → Piece → Type 0
Waits r p = (end : ℕ) × (get nat_cmp r.waiting p.start ≡ Some end) × (p.start + p.length ≤ end)

-- the places before the reached one are in pieces, as are those of fragments that wait; and each piece ends before it or waits
pub record Follows (r : Reach) (pieces : List Piece) : Type 0 where
  pub covered : (place : ℕ) → place < r.reached → IsTrue (list_any (covers place) pieces)
  pub waits : (start end place : ℕ) → get nat_cmp r.waiting start ≡ Some end → start ≤ place → place < end → IsTrue (list_any (covers place) pieces)
  pub known : AllByRecursion (λ p. (p.start + p.length ≤ r.reached) ⊎ Waits r p) pieces

-- each fragment that waits begins behind the reached place
pub record IsSettled (r : Reach) : Type 0 where
  pub behind : (start end : ℕ) → get nat_cmp r.waiting start ≡ Some end → r.reached < start

-- one reach is another one, as far as can be seen
pub record IsSame (r after : Reach) : Type 0 where
  pub reached : after.reached ≡ r.reached
  pub waiting : (start : ℕ) → get nat_cmp after.waiting start ≡ get nat_cmp r.waiting start

-- a fragment waits now; of two that begin together the longer one does
pub record NowWaits (r : Reach) (start end : ℕ) (after : Reach) : Type 0 where
  pub longest : ℕ
  pub here : get nat_cmp after.waiting start ≡ Some longest
  pub enough : end ≤ longest
  pub known : (longest ≡ end) ⊎ (get nat_cmp r.waiting start ≡ Some longest)
  pub longer : (other : ℕ) → get nat_cmp r.waiting start ≡ Some other → other ≤ longest
  pub others : (other : ℕ) → ¬ (other ≡ start) → get nat_cmp after.waiting other ≡ get nat_cmp r.waiting other
  pub reached : after.reached ≡ r.reached

-- the first fragment that waits begins in what has come
pub record BeginsWithin (r : Reach) : Type 0 where
  pub start : ℕ
  pub end : ℕ
  pub behind : List (ℕ × ℕ)
  pub entries : r.waiting.entries ≡ (start, end) ∷ behind
  pub within : start ≤ r.reached

-- the pieces of a window, and how far they reach
pub record IsHeld (w : Window) (pieces : List Piece) (r : Reach) : Type 0 where
  pub filled : ¬ (pieces ≡ [])
  pub own : AllByRecursion (λ p. window_of p ≡ w) pieces
  pub follows : Follows r pieces
  pub settled : IsSettled r
