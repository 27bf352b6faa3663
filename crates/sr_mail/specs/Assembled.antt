-- The bytes of a body, put together of fragments.
use Rattle.std.specs.Prelude.{◌≡◌, ℕ, ◌-◌, ◌<◌, List, [], ◌∷◌, length, map, get_or, Option, Some, None, if◌then◌else◌}
use Rattle.std.specs.List.{AllByRecursion}
use Rattle.sr_mail.specs.declared.piece.Piece.{Piece}
use Rattle.sr_mail.specs.Seen.{covers, Cover}
use Rattle.sr_msgform.specs.declared.message.Message.{Message}

-- the length of that window's body
abbrev pub total_of : List (Piece × Message) → ℕ
total_of [] = 0
total_of (first ∷ others) = first.0.total

-- the message is the piece's
pub record IsItsPiece (pair : Piece × Message) : Type 0 where
  pub prev : pair.1.prev ≡ pair.0.prev
  pub upto : pair.1.upto ≡ pair.0.upto
  pub total : pair.1.total ≡ pair.0.total
  pub start : pair.1.start ≡ pair.0.start
  pub size : length pair.1.fragment ≡ pair.0.length

-- each message is its piece's, and together they have every byte
pub record CanAssemble (pairs : List (Piece × Message)) : Type 0 where
  pub own : AllByRecursion IsItsPiece pairs
  pub covered : Cover (map (λ pair. pair.0) pairs) (total_of pairs)

-- the byte at a place of the body: that of the first fragment which has it
abbrev pub byte_at : List (Piece × Message) → ℕ → Option ℕ
byte_at [] place = None
byte_at (pair ∷ pairs) place = if covers place pair.0 then Some (get_or pair.1.fragment (place - pair.0.start) 0) else byte_at pairs place

-- these are the bytes
pub record IsAssembled (pairs : List (Piece × Message)) (bytes : List ℕ) : Type 0 where
  pub can : CanAssemble pairs
  pub whole : length bytes ≡ total_of pairs
  pub each : (place : ℕ) → place < total_of pairs → byte_at pairs place ≡ Some (get_or bytes place 0)
