-- The bytes of a body, put together of fragments.
-- Here is what no contract of the program says by itself.
use Rattle.std.specs.Prelude.{◌≡◌, ⊤, List, [], ◌∷◌}
use Rattle.std.specs.List.{AllByRecursion}
use Rattle.sr_mail.specs.declared.piece.Piece.{Piece}
use Rattle.sr_mail.specs.Seen.{window_of}
use Rattle.sr_msgform.specs.declared.message.Message.{Message}

-- the pieces are of one window
abbrev pub AreOfOneWindow : List (Piece × Message) → Type 0
AreOfOneWindow [] = ⊤
AreOfOneWindow (first ∷ others) = AllByRecursion (λ other. window_of other.0 ≡ window_of first.0) others
