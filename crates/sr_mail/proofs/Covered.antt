-- Pieces and the places that they cover.
use Rattle.std.proofs.Common.{◌≡◌, ℕ, ◌+◌, ◌-◌, ◌<◌, ◌≤◌, Bool, true, false, cond, Option, Some, List, [], ◌∷◌, length, take, drop, get_or, refl, sym, ap, ◌∙◌, arith}
use Rattle.std.specs.List.{AllByRecursion}
use Rattle.std.proofs.lemmas.List.{get_or-take, get_or-drop, ext_get_or}
use Rattle.sr_mail.specs.declared.piece.Piece.{Piece}
use Rattle.sr_mail.specs.Assembled.{IsItsPiece, byte_at, IsAssembled}
use Rattle.sr_mail.specs.Seen.{covers}
use Rattle.sr_mail_cut.specs.Truths.{IsFragmentOf}
use Rattle.sr_msgform.specs.declared.message.Message.{Message}

pub covers-at : (place : ℕ) (p : Piece) → covers place p ≡ true → (p.start ≤ place) × (place < p.start + p.length)
covers-at place p e = (grind arith, grind arith)

pub covers-here : (place : ℕ) (p : Piece) → p.start ≤ place → place < p.start + p.length → covers place p ≡ true
covers-here place p le lt = grind arith

some_is : {A : Type 0} (x y : A) → (Some x) ≡ (Some y) → x ≡ y
some_is x y e = cc

here_or : (c : Bool) (body : List ℕ) (p : Piece × Message) (others : Option ℕ) (place : ℕ) (b : ℕ) → IsItsPiece p → IsFragmentOf body p.1 → covers place p.0 ≡ c →
    (others ≡ Some b → b ≡ get_or body place 0) → cond c (Some (get_or p.1.fragment (place - p.0.start) 0)) others ≡ Some b → b ≡ get_or body place 0
here_or true body p others place b own part is behind e =
    let at = covers-at place p.0 is in
    let n = length p.1.fragment in
    let i = place - p.0.start in
    let within : i < n = omega (arith, at.0, at.1, own.size) in
    let found : b ≡ get_or p.1.fragment i 0 = sym (some_is (get_or p.1.fragment i 0) b e) in
    let fragment : get_or p.1.fragment i 0 ≡ get_or (take n (drop p.1.start body)) i 0 = ap (λ (f : List ℕ). get_or f i 0) part.fragment in
    let place_is : p.1.start + i ≡ place = omega (arith, at.0, own.start) in
    found ∙ fragment ∙ get_or-take n (drop p.1.start body) i 0 within ∙ get_or-drop p.1.start body i 0 ∙ ap (λ (k : ℕ). get_or body k 0) place_is
here_or false body p others place b own part is behind e = behind e

-- the byte at a place is the body's
byte-of : (body : List ℕ) (pieces : List (Piece × Message)) (place : ℕ) (b : ℕ) → AllByRecursion IsItsPiece pieces → AllByRecursion (λ p. IsFragmentOf body p.1) pieces → byte_at pieces place ≡ Some b → b ≡ get_or body place 0
byte-of body [] place b own parts e = absurd cc
byte-of body (p ∷ pieces) place b own parts e =
    here_or (covers place p.0) body p (byte_at pieces place) place b own.0 parts.0 refl (byte-of body pieces place b own.1 parts.1) e

pub assembled_true : (body : List ℕ) (pieces : List (Piece × Message)) (bytes : List ℕ) → AllByRecursion (λ p. IsFragmentOf body p.1) pieces → ¬ (pieces ≡ []) → IsAssembled pieces bytes → bytes ≡ body
assembled_true body [] bytes parts some is = absurd (some refl)
assembled_true body (p ∷ pieces) bytes parts some is =
    let size : length bytes ≡ length body = is.whole ∙ sym is.can.own.0.total ∙ parts.0.total in
    ext_get_or 0 bytes body size (λ i lt. byte-of body (p ∷ pieces) i (get_or bytes i 0) is.can.own parts (is.each i (omega (arith, lt, is.whole))))
