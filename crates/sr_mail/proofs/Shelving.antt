-- One piece more, and one window dropped, of windows in their order.
use Rattle.std.proofs.Common.{◌≡◌, Bool, true, false, cond, List, [], ◌∷◌, ◌++◌, refl, sym, ap, ◌∙◌}
use Rattle.std.specs.List.{AllByRecursion}
use Rattle.sr_mail.specs.declared.piece.Piece.{Piece}
use Rattle.sr_mail.specs.declared.window.Window.{Window}
use Rattle.sr_mail.specs.Inboxes.{Gathered}
use Rattle.sr_mail.specs.Seen.{same_window, window_of}
use Rattle.sr_mail.specs.Inner.Shelves.{is_before, AllBefore, AllBehind, BeginsBehind, StandsFirst, AreInOrder, added, without, first_dropped}
use Rattle.sr_mail_cut.proofs.Lists.{AllByRecursion-map, AllByRecursion-append, AllByRecursion-prefix, AllByRecursion-back}
use Rattle.sr_mail.proofs.Order.{before-on, before-other, behind-other, not-behind, other-before, same-is, is-same}

-- what a piece begins
abbrev pub begun : Piece → Gathered
begun piece = record { window = window_of piece; pieces = piece ∷ []; dropped = false }

-- what a piece joins
abbrev pub grown : Piece → Gathered → Gathered
grown piece g = record { window = g.window; pieces = g.pieces ++ piece ∷ []; dropped = g.dropped }

pub added-skip : (piece : Piece) (prefix rest : List Gathered) → AllBefore prefix (window_of piece) → added piece (prefix ++ rest) ≡ prefix ++ added piece rest
added-skip piece [] rest h = refl
added-skip piece (g ∷ prefix) rest h = rw h.0 (ap (λ (gs : List Gathered). g ∷ gs) (added-skip piece prefix rest h.1))

-- where the first is the piece's window, and where it is another one behind it
pub added-first : (piece : Piece) (g : Gathered) (gs : List Gathered) → is_before g.window (window_of piece) ≡ false → same_window g.window (window_of piece) ≡ true → added piece (g ∷ gs) ≡ grown piece g ∷ gs
added-first piece g gs a b = rw (a, b) refl

not_same_by : (b : Bool) (w v : Window) → same_window w v ≡ b → ¬ (w ≡ v) → b ≡ false
not_same_by true w v e h = absurd (h (same-is w v e))
not_same_by false w v e h = refl

not_same : (w v : Window) → ¬ (w ≡ v) → same_window w v ≡ false
not_same w v h = not_same_by (same_window w v) w v refl h

pub added-new : (piece : Piece) (gs : List Gathered) → BeginsBehind gs (window_of piece) → ¬ (StandsFirst gs (window_of piece)) → added piece gs ≡ begun piece ∷ gs
added-new piece [] a b = refl
added-new piece (g ∷ gs) a b =
    let c : same_window g.window (window_of piece) ≡ false = not_same g.window (window_of piece) b in
    rw (a, c) refl

within_case : (b c : Bool) (g more fresh : Gathered) (s behind rest all : List Gathered) → all ≡ rest ++ behind →
    cond b (g ∷ all) (cond c (more ∷ (s ++ behind)) (fresh ∷ g ∷ (s ++ behind))) ≡ cond b (g ∷ rest) (cond c (more ∷ s) (fresh ∷ g ∷ s)) ++ behind
within_case true c g more fresh s behind rest all e = ap (λ (gs : List Gathered). g ∷ gs) e
within_case false true g more fresh s behind rest all e = refl
within_case false false g more fresh s behind rest all e = refl

behind_first : (gs : List Gathered) (w : Window) → AllBehind gs w → BeginsBehind gs w
behind_first [] w h = tt
behind_first (g ∷ gs) w h = not-behind w g.window h.0

told_apart : (b : Bool) → b ≡ false → b ≡ true → ⊥
told_apart b e f = let g : false ≡ true = sym e ∙ f in absurd cc

behind_not : (gs : List Gathered) (w : Window) → AllBehind gs w → ¬ (StandsFirst gs w)
behind_not [] w h f = f
behind_not (g ∷ gs) w h f = told_apart (same_window g.window w) (behind-other w g.window h.0) (is-same g.window w f)

pub added-within : (piece : Piece) (s behind : List Gathered) → AllBehind behind (window_of piece) → added piece (s ++ behind) ≡ added piece s ++ behind
added-within piece [] behind h = added-new piece behind (behind_first behind (window_of piece) h) (behind_not behind (window_of piece) h)
added-within piece (g ∷ s) behind h =
    within_case (is_before g.window (window_of piece)) (same_window g.window (window_of piece)) g (grown piece g) (begun piece) s behind (added piece s) (added piece (s ++ behind)) (added-within piece s behind h)

-- ---- the order stays

behind_case : (b c : Bool) (w : Window) (piece : Piece) (g : Gathered) (gs all : List Gathered) → AllBehind (g ∷ gs) w → is_before w (window_of piece) ≡ true → AllBehind all w →
    AllBehind (cond b (g ∷ all) (cond c (grown piece g ∷ gs) (begun piece ∷ g ∷ gs))) w
behind_case true c w piece g gs all h a rest = (h.0, rest)
behind_case false true w piece g gs all h a rest = h
behind_case false false w piece g gs all h a rest = (a, h)

behind-added : (w : Window) (piece : Piece) (gs : List Gathered) → AllBehind gs w → is_before w (window_of piece) ≡ true → AllBehind (added piece gs) w
behind-added w piece [] h a = (a, tt)
behind-added w piece (g ∷ gs) h a = behind_case (is_before g.window (window_of piece)) (same_window g.window (window_of piece)) w piece g gs (added piece gs) h a (behind-added w piece gs h.1 a)

order_case : (b c : Bool) (piece : Piece) (g : Gathered) (gs : List Gathered) → is_before g.window (window_of piece) ≡ b → same_window g.window (window_of piece) ≡ c → AreInOrder (g ∷ gs) → AreInOrder (added piece gs) →
    AreInOrder (cond b (g ∷ added piece gs) (cond c (grown piece g ∷ gs) (begun piece ∷ g ∷ gs)))
order_case true c piece g gs a e h rest = (behind-added g.window piece gs h.0 a, rest)
order_case false true piece g gs a e h rest = h
order_case false false piece g gs a e h rest =
    let first : is_before (window_of piece) g.window ≡ true = other-before g.window (window_of piece) a e in
    ((first, AllByRecursion-map (λ (x : Gathered). is_before g.window x.window ≡ true) (λ (x : Gathered). is_before (window_of piece) x.window ≡ true) gs (λ x k. before-on (window_of piece) g.window x.window first k) h.0), h)

pub order-added : (piece : Piece) (gs : List Gathered) → AreInOrder gs → AreInOrder (added piece gs)
order-added piece [] h = (tt, tt)
order-added piece (g ∷ gs) h = order_case (is_before g.window (window_of piece)) (same_window g.window (window_of piece)) piece g gs refl refl h (order-added piece gs h.1)

pub order-prefix : (a b : List Gathered) → AreInOrder (a ++ b) → AreInOrder a
order-prefix [] b h = tt
order-prefix (g ∷ a) b h = (AllByRecursion-prefix (λ (x : Gathered). is_before g.window x.window ≡ true) a b h.0, order-prefix a b h.1)

pub order-back : (a b : List Gathered) → AreInOrder (a ++ b) → AreInOrder b
order-back [] b h = h
order-back (g ∷ a) b h = order-back a b h.1

before_one : (a : List Gathered) (x : Gathered) (b : List Gathered) → AreInOrder (a ++ x ∷ b) → AllBefore a x.window
before_one [] x b h = tt
before_one (g ∷ a) x b h = ((AllByRecursion-back (λ (y : Gathered). is_before g.window y.window ≡ true) a (x ∷ b) h.0).0, before_one a x b h.1)

order-drop : (a : List Gathered) (x : Gathered) (b : List Gathered) → AreInOrder (a ++ x ∷ b) → AreInOrder (a ++ b)
order-drop [] x b h = h.1
order-drop (g ∷ a) x b h = (
  AllByRecursion-append (λ (y : Gathered). is_before g.window y.window ≡ true) a b (AllByRecursion-prefix (λ (y : Gathered). is_before g.window y.window ≡ true) a (x ∷ b) h.0) (AllByRecursion-back (λ (y : Gathered). is_before g.window y.window ≡ true) a (x ∷ b) h.0).1,
  order-drop a x b h.1,
)

-- what stands behind others of an order
pub order-across : (a b : List Gathered) → AreInOrder (a ++ b) → AllByRecursion (λ (x : Gathered). AllBefore a x.window) b
order-across a [] h = tt
order-across a (x ∷ b) h = (before_one a x b h, order-across a b (order-drop a x b h))

-- ---- a window dropped

pub without-skip : (w : Window) (prefix rest : List Gathered) → AllBefore prefix w → without w (prefix ++ rest) ≡ prefix ++ without w rest
without-skip w [] rest h = refl
without-skip w (g ∷ prefix) rest h =
    let apart : same_window g.window w ≡ false = before-other g.window w h.0 in
    rw apart (ap (λ (gs : List Gathered). g ∷ gs) (without-skip w prefix rest h.1))

without-none : (w : Window) (gs : List Gathered) → AllBehind gs w → without w gs ≡ gs
without-none w [] h = refl
without-none w (g ∷ gs) h =
    let apart : same_window g.window w ≡ false = behind-other w g.window h.0 in
    rw apart (ap (λ (x : List Gathered). g ∷ x) (without-none w gs h.1))

without_case : (b : Bool) (g : Gathered) (s behind rest all : List Gathered) → all ≡ rest ++ behind → cond b (first_dropped (g ∷ (s ++ behind))) (g ∷ all) ≡ cond b (first_dropped (g ∷ s)) (g ∷ rest) ++ behind
without_case true g s behind rest all e = refl
without_case false g s behind rest all e = ap (λ (gs : List Gathered). g ∷ gs) e

pub without-within : (w : Window) (s behind : List Gathered) → AllBehind behind w → without w (s ++ behind) ≡ without w s ++ behind
without-within w [] behind h = without-none w behind h
without-within w (g ∷ s) behind h = without_case (same_window g.window w) g s behind (without w s) (without w (s ++ behind)) (without-within w s behind h)

pub without-first : (w : Window) (gs : List Gathered) → StandsFirst gs w → without w gs ≡ first_dropped gs
without-first w [] h = absurd h
without-first w (g ∷ gs) h = let same : same_window g.window w ≡ true = is-same g.window w h in rw same refl

pub all_behind : (w : Window) (gs : List Gathered) → AreInOrder gs → BeginsBehind gs w → ¬ (StandsFirst gs w) → AllBehind gs w
all_behind w [] order behind not = tt
all_behind w (g ∷ gs) order behind not =
    let first : is_before w g.window ≡ true = other-before g.window w behind (not_same g.window w not) in
    (first, AllByRecursion-map (λ (x : Gathered). is_before g.window x.window ≡ true) (λ (x : Gathered). is_before w x.window ≡ true) gs (λ x k. before-on w g.window x.window first k) order.0)

-- where it is not there
pub without-absent : (w : Window) (prefix rest : List Gathered) → AreInOrder (prefix ++ rest) → AllBefore prefix w → BeginsBehind rest w → ¬ (StandsFirst rest w) → without w (prefix ++ rest) ≡ prefix ++ rest
without-absent w prefix rest order before behind not = without-skip w prefix rest before ∙ ap (λ (gs : List Gathered). prefix ++ gs) (without-none w rest (all_behind w rest (order-back prefix rest order) behind not))

behind_without_case : (b : Bool) (v : Window) (g : Gathered) (gs rest : List Gathered) → AllBehind (g ∷ gs) v → AllBehind rest v → AllBehind (cond b (first_dropped (g ∷ gs)) (g ∷ rest)) v
behind_without_case true v g gs rest h k = h
behind_without_case false v g gs rest h k = (h.0, k)

behind-without : (v w : Window) (gs : List Gathered) → AllBehind gs v → AllBehind (without w gs) v
behind-without v w [] h = tt
behind-without v w (g ∷ gs) h = behind_without_case (same_window g.window w) v g gs (without w gs) h (behind-without v w gs h.1)

order_without_case : (b : Bool) (g : Gathered) (gs rest : List Gathered) → AreInOrder (g ∷ gs) → AllBehind rest g.window → AreInOrder rest → AreInOrder (cond b (first_dropped (g ∷ gs)) (g ∷ rest))
order_without_case true g gs rest h k o = h
order_without_case false g gs rest h k o = (k, o)

pub order-without : (w : Window) (gs : List Gathered) → AreInOrder gs → AreInOrder (without w gs)
order-without w [] h = tt
order-without w (g ∷ gs) h = order_without_case (same_window g.window w) g gs (without w gs) h (behind-without g.window w gs h.0) (order-without w gs h.1)
