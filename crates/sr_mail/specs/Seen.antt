-- Windows and the pieces of them that were seen.
use Rattle.std.specs.Prelude.{◌≡◌, ℕ, ◌+◌, ◌<◌, Bool, ◌&&◌, ◌==◌, ◌⊎◌, nat_le, nat_lt, min, List, length, IsTrue}
use Rattle.std.specs.List.{list_any}
use Rattle.sr_mail.specs.declared.piece.Piece.{Piece}
use Rattle.sr_mail.specs.declared.window.Window.{Window}
use Rattle.sr_msgform.specs.declared.message.Message.{Message}

-- the order of windows: by prev, then upto, then total
abbrev pub ComesBefore : Window → Window → Type 0
ComesBefore w v = (w.prev < v.prev) ⊎ ((w.prev ≡ v.prev) × ((w.upto < v.upto) ⊎ ((w.upto ≡ v.upto) × (w.total < v.total))))

abbrev pub same_window : Window → Window → Bool
same_window w v = (w.prev == v.prev) && (w.upto == v.upto) && (w.total == v.total)

-- the window that a piece is of
abbrev pub window_of : Piece → Window
window_of piece = record { prev = piece.prev.0; upto = piece.upto.0; total = piece.total }

-- what is kept of a message that came under this name: a fragment that is longer than any message file counts as far as a u32 tells
abbrev pub piece_of : List ℕ → Message → Piece
piece_of name m = record { name = name; start = m.start; length = min (length m.fragment) 4294967295; total = m.total; prev = m.prev; upto = m.upto }

-- whether the piece's fragment has the byte at this place of the body
abbrev pub covers : ℕ → Piece → Bool
covers place piece = nat_le piece.start place && nat_lt place (piece.start + piece.length)

-- each of so many bytes lies in a piece
abbrev pub Cover : List Piece → ℕ → Type 0
Cover pieces total = (place : ℕ) → place < total → IsTrue (list_any (covers place) pieces)
