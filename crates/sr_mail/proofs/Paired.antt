-- The pieces of a window that is to be taken next, each with its message.
use Rattle.std.proofs.Common.{◌≡◌, ℕ, List, [], ◌∷◌, map, sym, ap, ◌∙◌, subst}
use Rattle.std.specs.List.{AllByRecursion, Contains}
use Rattle.sr_mail_cut.proofs.Lists.{AllByRecursion-map}
use Rattle.sr_mail.specs.declared.piece.Piece.{Piece}
use Rattle.sr_mail.specs.declared.window.Window.{Window}
use Rattle.sr_mail.specs.Inner.Assembled.{AreOfOneWindow}
use Rattle.sr_mail.specs.Inboxes.{Gathered, pieces_of}
use Rattle.sr_mail.specs.Inner.Inboxes.{IsNext}
use Rattle.sr_mail.specs.Seen.{window_of}
use Rattle.sr_msgform.specs.declared.message.Message.{Message}

all_of_window : (w : Window) (pairs : List (Piece × Message)) → AllByRecursion (λ piece. window_of piece ≡ w) (map (λ (pair : Piece × Message). pair.0) pairs) → AllByRecursion (λ (pair : Piece × Message). window_of pair.0 ≡ w) pairs
all_of_window w [] h = tt
all_of_window w (p ∷ pairs) h = (h.0, all_of_window w pairs h.1)

one_window : (w : Window) (pairs : List (Piece × Message)) → AllByRecursion (λ piece. window_of piece ≡ w) (map (λ (pair : Piece × Message). pair.0) pairs) → AreOfOneWindow pairs
one_window w [] h = tt
one_window w (p ∷ pairs) h = AllByRecursion-map (λ (pair : Piece × Message). window_of pair.0 ≡ w) (λ (pair : Piece × Message). window_of pair.0 ≡ window_of p.0) pairs (λ x e. e ∙ sym h.0) (all_of_window w pairs h.1)

-- they can be put together, once each message is its piece's
pub next_pairs : (inbox : List Gathered) (received : ℕ) (pieces : List Piece) (pairs : List (Piece × Message)) → IsNext inbox received pieces → map (λ (pair : Piece × Message). pair.0) pairs ≡ pieces → AreOfOneWindow pairs × ¬ (pairs ≡ [])
next_pairs inbox received pieces pairs next e =
    let own : AllByRecursion (λ piece. window_of piece ≡ next.window) pieces = AllByRecursion-map (λ piece. (window_of piece ≡ next.window) × Contains (pieces_of inbox next.window) piece) (λ piece. window_of piece ≡ next.window) pieces (λ x h. h.0) next.own in (
      one_window next.window pairs (subst (AllByRecursion (λ piece. window_of piece ≡ next.window)) (sym e) own),
      λ none. next.filled (sym e ∙ ap (map (λ (pair : Piece × Message). pair.0)) none),
    )
