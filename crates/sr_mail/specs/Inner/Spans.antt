-- Spans of a body: where each begins, where it ends, and which piece has it.
use Rattle.std.specs.Prelude.{◌≡◌, ℕ, ◌+◌, ◌<◌, ◌≤◌, Bool, ◌&&◌, nat_le, nat_lt, Some, slice_get, List, [], ◌∷◌, ◌++◌, IsTrue, ⊤}
use Rattle.std.specs.List.{list_any, AllByRecursion, Contains}
use Rattle.sr_mail.specs.declared.piece.Piece.{Piece}

abbrev pub Span : Type 0
Span = ℕ × ℕ × ℕ

-- the spans of pieces, the first of which has this number
abbrev pub spans_from : ℕ → List Piece → List Span
spans_from number [] = []
spans_from number (p ∷ pieces) = (p.start, p.start + p.length, number) ∷ spans_from (number + 1) pieces

-- whether a span has the byte at this place
abbrev pub has_place : ℕ → Span → Bool
has_place place s = nat_le s.0 place && nat_lt place s.1

-- each of so many bytes lies in a span
abbrev pub SpansCover : List Span → ℕ → Type 0
SpansCover spans total = (place : ℕ) → place < total → IsTrue (list_any (has_place place) spans)

-- the first begins behind a place
abbrev pub BeginsLater : ℕ → List Span → Type 0
BeginsLater place [] = ⊤
BeginsLater place (s ∷ spans) = place < s.0

-- each begins no later than those behind it
abbrev pub AreSorted : List Span → Type 0
AreSorted [] = ⊤
AreSorted (s ∷ spans) = AllByRecursion (λ other. s.0 ≤ other.0) spans × AreSorted spans

-- of the spans before these, which begin at a place or before it, one that ends last
pub record IsSoFar (spans : List Span) (place : ℕ) (farthest : Span) (behind : List Span) : Type 0 where
  pub passed : List Span
  pub parts : spans ≡ passed ++ behind
  pub member : Contains passed farthest
  pub begins : farthest.0 ≤ place
  pub ends : AllByRecursion (λ s. s.1 ≤ farthest.1) passed

-- it is the span of one of these pieces, by its number
pub record SpanOf (pieces : List Piece) (s : Span) : Type 0 where
  pub piece : Piece
  pub number : slice_get pieces s.2 ≡ Some piece
  pub starts : piece.start ≡ s.0
  pub ends : piece.start + piece.length ≡ s.1
