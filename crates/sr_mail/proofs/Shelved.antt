-- Lists of windows that change at one place, and shelves.
use Rattle.std.proofs.Common.{◌≡◌, ℕ, zero, suc, ◌+◌, ◌<◌, ◌≤◌, ◌⊎◌, inl, inr, Bool, true, false, cond, Some, List, [], ◌∷◌, ◌++◌, length, take, drop, set, get_or, refl, sym, ap, ◌∙◌, arith, append_assoc, subst}
use Rattle.std.specs.List.{AllByRecursion, insert}
use Rattle.std.specs.Prelude.{slice_get}
use Rattle.std.proofs.lemmas.List.{append-nil, length-append, take-append-drop, set_split, set_at, set-get_or, drop_more, length-take}
use Rattle.std.proofs.lemmas.Option.{get_or_from_slice_get}
use Rattle.sr_mail.specs.declared.piece.Piece.{Piece}
use Rattle.sr_mail.specs.declared.window.Window.{Window}
use Rattle.sr_mail.specs.Inboxes.{Gathered, pieces_of, is_dropped, IsSeen, IsGreatest}
use Rattle.sr_mail.specs.Inner.Inboxes.{is_seen, IsWholeWindow}
use Rattle.sr_mail.specs.Reaching.{Leads}
use Rattle.sr_mail.specs.Seen.{ComesBefore, same_window, window_of}
use Rattle.sr_mail.specs.Inner.Shelves.{is_before, IsReady, EndsPast, AllBefore, AllBehind, BeginsBehind, StandsFirst, AreInOrder, EndBy, added, without, first_dropped, all_of, IsFirstPast, OneEnds, IsInbox, IsLeading}
use Rattle.sr_mail_cut.proofs.Lists.{AllByRecursion-append, AllByRecursion-prefix, AllByRecursion-back, AllByRecursion-map, take_item}
use Rattle.sr_mail.proofs.Observing.{pieces-added, dropped-added, pieces-without, dropped-without, stands-seen, first_is_next, first_is_whole, first_pieces, none_leads, none_ready, first_begins, seen_in}
use Rattle.sr_mail.proofs.Order.{is-same, same-is, before-on, is-before, not_before_itself}
use Rattle.sr_mail.proofs.Shelving.{begun, grown, added-first, added-new, added-skip, added-within, all_behind, order-prefix, order-back, order-across, order-added, order-without, without-skip, without-within, without-first, without-absent}

-- what stands at a place of a list and behind it
parted : (gs : List Gathered) (place : ℕ) (y : Gathered) → place < length gs → y ≡ get_or gs place y → (drop place gs ≡ y ∷ drop (place + 1) gs) × (gs ≡ take place gs ++ y ∷ drop (place + 1) gs)
parted gs place y lt is =
    let at : drop place gs ≡ y ∷ drop (place + 1) gs = drop_more gs place y lt ∙ ap (λ (x : Gathered). x ∷ drop (place + 1) gs) (sym is) in
    (at, sym (take-append-drop place gs) ∙ ap (λ (x : List Gathered). take place gs ++ x) at)

changed : (gs : List Gathered) (place : ℕ) (x : Gathered) → place < length gs → set gs place x ≡ take place gs ++ x ∷ drop (place + 1) gs
changed gs place x lt = let next : suc place ≡ place + 1 = omega arith in set_split gs place x lt ∙ ap (λ (k : ℕ). take place gs ++ x ∷ drop k gs) next

order-replaced : (prefix : List Gathered) (y x : Gathered) (behind : List Gathered) → x.window ≡ y.window → AreInOrder (prefix ++ y ∷ behind) → AreInOrder (prefix ++ x ∷ behind)
order-replaced [] y x behind same h = (subst (AllBehind behind) (sym same) h.0, h.1)
order-replaced (f ∷ prefix) y x behind same h =
    let first = AllByRecursion-prefix (λ (g : Gathered). is_before f.window g.window ≡ true) prefix (y ∷ behind) h.0 in
    let last = AllByRecursion-back (λ (g : Gathered). is_before f.window g.window ≡ true) prefix (y ∷ behind) h.0 in (
      AllByRecursion-append (λ (g : Gathered). is_before f.window g.window ≡ true) prefix (x ∷ behind) first (subst (λ (w : Window). is_before f.window w ≡ true) (sym same) last.0, last.1),
      order-replaced prefix y x behind same h.1,
    )

order-inserted : (prefix : List Gathered) (x : Gathered) (behind : List Gathered) → AreInOrder (prefix ++ behind) → AllBefore prefix x.window → AllBehind behind x.window → AreInOrder (prefix ++ x ∷ behind)
order-inserted [] x behind h before after = (after, h)
order-inserted (f ∷ prefix) x behind h before after =
    let first = AllByRecursion-prefix (λ (g : Gathered). is_before f.window g.window ≡ true) prefix behind h.0 in
    let last = AllByRecursion-back (λ (g : Gathered). is_before f.window g.window ≡ true) prefix behind h.0 in
    (AllByRecursion-append (λ (g : Gathered). is_before f.window g.window ≡ true) prefix (x ∷ behind) first (before.0, last), order-inserted prefix x behind h.1 before.1 after)

ends-more : (farthest later : ℕ) (prefix : List Gathered) (x : Gathered) (behind : List Gathered) → farthest ≤ later → EndBy farthest prefix → (IsReady x → x.window.upto ≤ later) → EndBy farthest behind → EndBy later (prefix ++ x ∷ behind)
ends-more farthest later prefix x behind le first one last =
    AllByRecursion-append (λ g. IsReady g → g.window.upto ≤ later) prefix (x ∷ behind)
    (AllByRecursion-map (λ g. IsReady g → g.window.upto ≤ farthest) (λ g. IsReady g → g.window.upto ≤ later) prefix (λ g h ready. omega (arith, h ready, le)) first)
    (one, AllByRecursion-map (λ g. IsReady g → g.window.upto ≤ farthest) (λ g. IsReady g → g.window.upto ≤ later) behind (λ g h ready. omega (arith, h ready, le)) last)

-- ---- one window of a shelf changes

pub order-set : (gs : List Gathered) (place : ℕ) (y x : Gathered) → place < length gs → y ≡ get_or gs place y → x.window ≡ y.window → AreInOrder gs → AreInOrder (set gs place x)
order-set gs place y x lt is same h =
    subst AreInOrder (sym (changed gs place x lt)) (order-replaced (take place gs) y x (drop (place + 1) gs) same (subst AreInOrder (parted gs place y lt is).1 h))

pub ends-set : (farthest later : ℕ) (gs : List Gathered) (place : ℕ) (y x : Gathered) → place < length gs → y ≡ get_or gs place y → farthest ≤ later → (IsReady x → x.window.upto ≤ later) → EndBy farthest gs → EndBy later (set gs place x)
ends-set farthest later gs place y x lt is le one h =
    let k = subst (EndBy farthest) (parted gs place y lt is).1 h in
    subst (EndBy later) (sym (changed gs place x lt))
    (ends-more farthest later (take place gs) x (drop (place + 1) gs) le (AllByRecursion-prefix (λ g. IsReady g → g.window.upto ≤ farthest) (take place gs) (y ∷ drop (place + 1) gs) k) one
    (AllByRecursion-back (λ g. IsReady g → g.window.upto ≤ farthest) (take place gs) (y ∷ drop (place + 1) gs) k).1)

pub stands_within : (gs : List Gathered) (place : ℕ) (w : Window) → StandsFirst (drop place gs) w → place < length gs
stands_within [] zero w h = absurd h
stands_within [] (suc place) w h = absurd h
stands_within (g ∷ gs) zero w h = omega arith
stands_within (g ∷ gs) (suc place) w h = omega (arith, stands_within gs place w h)

pub grows : (gs : List Gathered) (place : ℕ) (piece : Piece) (y x : Gathered) → place < length gs → y ≡ get_or gs place y → StandsFirst (drop place gs) (window_of piece) → x ≡ grown piece y →
    set gs place x ≡ take place gs ++ added piece (drop place gs)
grows gs place piece y x lt is first e =
    let at = (parted gs place y lt is).0 in
    let own : y.window ≡ window_of piece = subst (λ (l : List Gathered). StandsFirst l (window_of piece)) at first in
    let made : added piece (y ∷ drop (place + 1) gs) ≡ grown piece y ∷ drop (place + 1) gs = added-first piece y (drop (place + 1) gs) (not_before_itself y.window (window_of piece) own) (is-same y.window (window_of piece) own) in
    changed gs place x lt ∙ ap (λ (l : List Gathered). take place gs ++ l) (ap (λ (g : Gathered). g ∷ drop (place + 1) gs) e ∙ sym made ∙ ap (added piece) (sym at))

pub drops : (gs : List Gathered) (place : ℕ) (y x : Gathered) → place < length gs → y ≡ get_or gs place y → x ≡ record { window = y.window; pieces = y.pieces; dropped = true } → set gs place x ≡ take place gs ++ first_dropped (drop place gs)
drops gs place y x lt is e =
    let at = (parted gs place y lt is).0 in
    changed gs place x lt ∙ ap (λ (l : List Gathered). take place gs ++ l) (ap (λ (g : Gathered). g ∷ drop (place + 1) gs) e ∙ ap first_dropped (sym at))

-- ---- a window comes to a shelf

pub order-insert : (gs : List Gathered) (place : ℕ) (x : Gathered) → AreInOrder gs → AllBefore (take place gs) x.window → BeginsBehind (drop place gs) x.window → ¬ (StandsFirst (drop place gs) x.window) → AreInOrder (insert gs place x)
order-insert gs place x h before behind not =
    let parts : gs ≡ take place gs ++ drop place gs = sym (take-append-drop place gs) in
    let k = subst AreInOrder parts h in
    order-inserted (take place gs) x (drop place gs) k before (all_behind x.window (drop place gs) (order-back (take place gs) (drop place gs) k) behind not)

pub ends-insert : (farthest later : ℕ) (gs : List Gathered) (place : ℕ) (x : Gathered) → farthest ≤ later → (IsReady x → x.window.upto ≤ later) → EndBy farthest gs → EndBy later (insert gs place x)
ends-insert farthest later gs place x le one h =
    let k = subst (EndBy farthest) (sym (take-append-drop place gs)) h in
    ends-more farthest later (take place gs) x (drop place gs) le (AllByRecursion-prefix (λ g. IsReady g → g.window.upto ≤ farthest) (take place gs) (drop place gs) k) one (AllByRecursion-back (λ g. IsReady g → g.window.upto ≤ farthest) (take place gs) (drop place gs) k)

pub comes : (gs : List Gathered) (place : ℕ) (piece : Piece) (x : Gathered) → x ≡ begun piece → BeginsBehind (drop place gs) (window_of piece) → ¬ (StandsFirst (drop place gs) (window_of piece)) → insert gs place x ≡ take place gs ++ added piece (drop place gs)
comes gs place piece x e behind not = ap (λ (l : List Gathered). take place gs ++ l) (ap (λ (g : Gathered). g ∷ drop place gs) e ∙ sym (added-new piece (drop place gs) behind not))

pub adds_at : (gs : List Gathered) (place : ℕ) (piece : Piece) → AllBefore (take place gs) (window_of piece) → take place gs ++ added piece (drop place gs) ≡ added piece gs
adds_at gs place piece before = sym (added-skip piece (take place gs) (drop place gs) before) ∙ ap (added piece) (take-append-drop place gs)

pub drops_at : (gs : List Gathered) (place : ℕ) (w : Window) → AllBefore (take place gs) w → StandsFirst (drop place gs) w → take place gs ++ first_dropped (drop place gs) ≡ without w gs
drops_at gs place w before first =
    ap (λ (l : List Gathered). take place gs ++ l) (sym (without-first w (drop place gs) first)) ∙ sym (without-skip w (take place gs) (drop place gs) before) ∙ ap (without w) (take-append-drop place gs)

pub drops_none : (gs : List Gathered) (place : ℕ) (w : Window) → AreInOrder gs → AllBefore (take place gs) w → BeginsBehind (drop place gs) w → ¬ (StandsFirst (drop place gs) w) → gs ≡ without w gs
drops_none gs place w order before behind not =
    let parts : gs ≡ take place gs ++ drop place gs = sym (take-append-drop place gs) in
    sym (ap (without w) parts ∙ without-absent w (take place gs) (drop place gs) (subst AreInOrder parts order) before behind not ∙ sym parts)

-- ---- the last window of a shelf

all_get : {A : Type 0} (P : A → Type 0) (xs : List A) (i : ℕ) (x : A) → AllByRecursion P xs → Some x ≡ slice_get xs i → P x
all_get P [] i x h e = absurd cc
all_get P (y ∷ xs) zero x h e = let same : x ≡ y = cc in subst P (sym same) h.0
all_get P (y ∷ xs) (suc i) x h e = all_get P xs i x h.1 e

pub last_before : (gs : List Gathered) (i : ℕ) (last : Gathered) (w : Window) → AreInOrder gs → i + 1 ≡ length gs → Some last ≡ slice_get gs i → is_before last.window w ≡ true → AllBefore gs w
last_before [] i last w order size e before = absurd (omega arith)
last_before (g ∷ []) zero last w order size e before = let same : last ≡ g = cc in (subst (λ (x : Gathered). is_before x.window w ≡ true) same before, tt)
last_before (g ∷ h ∷ gs) zero last w order size e before = absurd (omega arith)
last_before (g ∷ gs) (suc i) last w order size e before =
    let rest = last_before gs i last w order.1 (omega (arith, size)) e before in
    (before-on g.window last.window w (all_get (λ (x : Gathered). is_before g.window x.window ≡ true) gs i last order.0 e) before, rest)

-- ---- windows that end by an offset

pub ends_item : (farthest later : ℕ) (gs : List Gathered) (i : ℕ) (g : Gathered) → i < length gs → g ≡ get_or gs i g → farthest ≤ later → (IsReady g → g.window.upto ≤ later) → EndBy farthest (take i gs) → EndBy later (take (i + 1) gs)
ends_item farthest later gs i g lt is le one h = subst (EndBy later) (sym (take_item gs i g lt is)) (ends-more farthest later (take i gs) g [] le h one tt)

pub none_ends : (offset farthest : ℕ) (gs : List Gathered) → farthest ≤ offset → EndBy farthest gs → AllByRecursion (λ g. ¬ (EndsPast offset g)) gs
none_ends offset farthest gs le h = AllByRecursion-map (λ g. IsReady g → g.window.upto ≤ farthest) (λ g. ¬ (EndsPast offset g)) gs (λ g k past. omega (arith, k past.0, past.1, le)) h

-- ---- shelves

pub all_of-append : (a b : List (List Gathered)) → all_of (a ++ b) ≡ all_of a ++ all_of b
all_of-append [] b = refl
all_of-append (x ∷ a) b = ap (λ (l : List Gathered). x ++ l) (all_of-append a b) ∙ sym (append_assoc x (all_of a) (all_of b))

pub first_on_shelf : (offset : ℕ) (shelves prefix : List (List Gathered)) (shelf : List Gathered) (behind : List (List Gathered)) (g : Gathered) → shelves ≡ prefix ++ shelf ∷ behind → AllByRecursion (λ x. ¬ (EndsPast offset x)) (all_of prefix) → IsFirstPast offset shelf g → IsFirstPast offset (all_of shelves) g
first_on_shelf offset shelves prefix shelf behind g e passed first = record {
  prefix = all_of prefix ++ first.prefix;
  behind = first.behind ++ all_of behind;
  parts =
      ap all_of e ∙ all_of-append prefix (shelf ∷ behind) ∙ ap (λ (l : List Gathered). all_of prefix ++ (l ++ all_of behind)) first.parts
      ∙ ap (λ (l : List Gathered). all_of prefix ++ l) (append_assoc first.prefix (g ∷ first.behind) (all_of behind)) ∙ sym (append_assoc (all_of prefix) first.prefix (g ∷ (first.behind ++ all_of behind)));
  passed = AllByRecursion-append (λ x. ¬ (EndsPast offset x)) (all_of prefix) first.prefix passed first.passed;
  is_one = first.is_one;
}

pub passed_shelf : (offset : ℕ) (prefix : List (List Gathered)) (shelf : List Gathered) → AllByRecursion (λ x. ¬ (EndsPast offset x)) (all_of prefix) → AllByRecursion (λ x. ¬ (EndsPast offset x)) shelf → AllByRecursion (λ x. ¬ (EndsPast offset x)) (all_of (prefix ++ shelf ∷ []))
passed_shelf offset prefix shelf passed h =
    subst (AllByRecursion (λ x. ¬ (EndsPast offset x))) (sym (all_of-append prefix (shelf ∷ []) ∙ ap (λ (l : List Gathered). all_of prefix ++ l) (append-nil shelf)))
    (AllByRecursion-append (λ x. ¬ (EndsPast offset x)) (all_of prefix) shelf passed h)

-- the shelves before a place, the one there, and those behind it
pub shelf_at : (shelves : List (List Gathered)) (at : ℕ) (shelf : List Gathered) → at < length shelves → shelf ≡ get_or shelves at shelf → shelves ≡ take at shelves ++ shelf ∷ drop (at + 1) shelves
shelf_at shelves at shelf lt is = sym (take-append-drop at shelves) ∙ ap (λ (l : List (List Gathered)). take at shelves ++ l) (drop_more shelves at shelf lt ∙ ap (λ (x : List Gathered). x ∷ drop (at + 1) shelves) (sym is))

pub all_at : (shelves : List (List Gathered)) (at : ℕ) (shelf : List Gathered) → at < length shelves → shelf ≡ get_or shelves at shelf → all_of shelves ≡ all_of (take at shelves) ++ (shelf ++ all_of (drop (at + 1) shelves))
all_at shelves at shelf lt is = ap all_of (shelf_at shelves at shelf lt is) ∙ all_of-append (take at shelves) (shelf ∷ drop (at + 1) shelves)

pub all_set : (shelves : List (List Gathered)) (at : ℕ) (x : List Gathered) → at < length shelves → all_of (set shelves at x) ≡ all_of (take at shelves) ++ (x ++ all_of (drop (at + 1) shelves))
all_set shelves at x lt =
    let next : suc at ≡ at + 1 = omega arith in
    ap all_of (set_split shelves at x lt ∙ ap (λ (k : ℕ). take at shelves ++ x ∷ drop k shelves) next) ∙ all_of-append (take at shelves) (x ∷ drop (at + 1) shelves)

pub behind_shelf : (shelves : List (List Gathered)) (at : ℕ) (shelf : List Gathered) (w : Window) → at < length shelves → shelf ≡ get_or shelves at shelf → AreInOrder (all_of shelves) → ((other : Window) → AllBefore shelf other → ComesBefore w other) → AllBehind (all_of (drop (at + 1) shelves)) w
behind_shelf shelves at shelf w lt is order ends =
    let rest = order-back (all_of (take at shelves)) (shelf ++ all_of (drop (at + 1) shelves)) (subst AreInOrder (all_at shelves at shelf lt is) order) in
    AllByRecursion-map (λ (x : Gathered). AllBefore shelf x.window) (λ (x : Gathered). is_before w x.window ≡ true) (all_of (drop (at + 1) shelves)) (λ x h. is-before w x.window (ends x.window h)) (order-across shelf (all_of (drop (at + 1) shelves)) rest)

-- one piece more, and one window dropped, on its shelf
pub added_on : (shelves : List (List Gathered)) (at : ℕ) (shelf x : List Gathered) (piece : Piece) → at < length shelves → shelf ≡ get_or shelves at shelf → AllBefore (all_of (take at shelves)) (window_of piece) → AllBehind (all_of (drop (at + 1) shelves)) (window_of piece) →
    x ≡ added piece shelf → all_of (set shelves at x) ≡ added piece (all_of shelves)
added_on shelves at shelf x piece lt is before behind e =
    all_set shelves at x lt ∙ ap (λ (l : List Gathered). all_of (take at shelves) ++ (l ++ all_of (drop (at + 1) shelves))) e
    ∙ ap (λ (l : List Gathered). all_of (take at shelves) ++ l) (sym (added-within piece shelf (all_of (drop (at + 1) shelves)) behind))
    ∙ sym (added-skip piece (all_of (take at shelves)) (shelf ++ all_of (drop (at + 1) shelves)) before) ∙ ap (added piece) (sym (all_at shelves at shelf lt is))

pub dropped_on : (shelves : List (List Gathered)) (at : ℕ) (shelf x : List Gathered) (w : Window) → at < length shelves → shelf ≡ get_or shelves at shelf → AllBefore (all_of (take at shelves)) w → AllBehind (all_of (drop (at + 1) shelves)) w →
    x ≡ without w shelf → all_of (set shelves at x) ≡ without w (all_of shelves)
dropped_on shelves at shelf x w lt is before behind e =
    all_set shelves at x lt ∙ ap (λ (l : List Gathered). all_of (take at shelves) ++ (l ++ all_of (drop (at + 1) shelves))) e
    ∙ ap (λ (l : List Gathered). all_of (take at shelves) ++ l) (sym (without-within w shelf (all_of (drop (at + 1) shelves)) behind))
    ∙ sym (without-skip w (all_of (take at shelves)) (shelf ++ all_of (drop (at + 1) shelves)) before) ∙ ap (without w) (sym (all_at shelves at shelf lt is))

-- one that is as it was
pub same_on : (shelves : List (List Gathered)) (at : ℕ) (shelf x : List Gathered) → at < length shelves → shelf ≡ get_or shelves at shelf → x ≡ shelf → all_of (set shelves at x) ≡ all_of shelves
same_on shelves at shelf x lt is e = all_set shelves at x lt ∙ ap (λ (l : List Gathered). all_of (take at shelves) ++ (l ++ all_of (drop (at + 1) shelves))) e ∙ sym (all_at shelves at shelf lt is)

-- ---- what an inbox keeps

still_seen : (b : Bool) (g : Gathered) (gs : List Gathered) (w : Window) → same_window g.window w ≡ b → ¬ (g.pieces ≡ []) → IsSeen gs w → IsSeen (g ∷ gs) w
still_seen true g gs w e some seen = λ none. some (rw e at none)
still_seen false g gs w e some seen = λ none. seen (rw e at none)

one_seen : (n : ℕ) (gs : List Gathered) → AllByRecursion (λ g. ¬ (g.pieces ≡ []) × AllByRecursion (λ p. window_of p ≡ g.window) g.pieces) gs → OneEnds n gs → (w : Window) × IsSeen gs w × (w.upto ≡ n)
one_seen n [] filled h = absurd h
one_seen n (g ∷ gs) filled (inl e) =
    let same : same_window g.window g.window ≡ true = is-same g.window g.window refl in
    (g.window, (λ none. filled.0.0 (rw same at none)), e)
one_seen n (g ∷ gs) filled (inr h) =
    let rest = one_seen n gs filled.1 h in
    (rest.0, still_seen (same_window g.window rest.0) g gs rest.0 refl filled.0.0 rest.1, rest.2)

pub seen_first : (inbox : List Gathered) (farthest : ℕ) → IsInbox inbox farthest → 0 < farthest → IsGreatest inbox farthest
seen_first inbox farthest h some =
    let one = one_seen farthest inbox h.filled (h.attained some) in
    record { window = one.0; seen = one.1; ends = one.2; greatest = λ other seen. seen_in (λ w. w.upto ≤ farthest) inbox other h.ends seen }

pub seen_ends : (inbox : List Gathered) (farthest : ℕ) (w : Window) → IsInbox inbox farthest → IsSeen inbox w → w.upto ≤ farthest
seen_ends inbox farthest w h seen = seen_in (λ w. w.upto ≤ farthest) inbox w h.ends seen

pub leading : (inbox : List Gathered) (farthest received : ℕ) (g : Gathered) → IsInbox inbox farthest → IsFirstPast received inbox g → g.window.prev ≤ received → IsLeading inbox received g
leading inbox farthest received g h first le = record {
  whole = first_is_whole inbox received g h.order h.filled first;
  leads = record { begins = le; ends = first.is_one.1 };
  least = λ other whole leads before. first_is_next inbox received g other h.order first whole leads before;
  pieces = first_pieces inbox received g h.order first;
}

pub none_leading : (inbox : List Gathered) (farthest received : ℕ) → IsInbox inbox farthest → AllByRecursion (λ g. ¬ (EndsPast received g)) inbox → (w : Window) → IsWholeWindow inbox w → Leads w received → ⊥
none_leading inbox farthest received h none w whole leads = none_leads inbox received w (none_ready inbox received none) whole leads

pub later_leading : (inbox : List Gathered) (farthest received : ℕ) (g : Gathered) → IsInbox inbox farthest → IsFirstPast received inbox g → received < g.window.prev → (w : Window) → IsWholeWindow inbox w → Leads w received → ⊥
later_leading inbox farthest received g h first past w whole leads = none_leads inbox received w (first_begins inbox received g h.order first past) whole leads

ends_added_case : (a b : Bool) (P : Window → Type 0) (piece : Piece) (g : Gathered) (gs rest : List Gathered) → AllByRecursion (λ g. P g.window) (g ∷ gs) → P (window_of piece) → AllByRecursion (λ g. P g.window) rest →
    AllByRecursion (λ g. P g.window) (cond a (g ∷ rest) (cond b (grown piece g ∷ gs) (begun piece ∷ g ∷ gs)))
ends_added_case true b P piece g gs rest h one k = (h.0, k)
ends_added_case false true P piece g gs rest h one k = h
ends_added_case false false P piece g gs rest h one k = (one, h)

-- one piece more, and one window dropped
pub ends-added : (P : Window → Type 0) (piece : Piece) (gs : List Gathered) → AllByRecursion (λ g. P g.window) gs → P (window_of piece) → AllByRecursion (λ g. P g.window) (added piece gs)
ends-added P piece [] h one = (one, tt)
ends-added P piece (g ∷ gs) h one = ends_added_case (is_before g.window (window_of piece)) (same_window g.window (window_of piece)) P piece g gs (added piece gs) h one (ends-added P piece gs h.1 one)

some_more : (ps : List Piece) (p : Piece) → ¬ (ps ++ p ∷ [] ≡ [])
some_more [] p e = absurd cc
some_more (q ∷ ps) p e = absurd cc

filled_added_case : (a b : Bool) (piece : Piece) (g : Gathered) (gs rest : List Gathered) → same_window g.window (window_of piece) ≡ b → AllByRecursion (λ g. ¬ (g.pieces ≡ []) × AllByRecursion (λ p. window_of p ≡ g.window) g.pieces) (g ∷ gs) →
    AllByRecursion (λ g. ¬ (g.pieces ≡ []) × AllByRecursion (λ p. window_of p ≡ g.window) g.pieces) rest →
    AllByRecursion (λ g. ¬ (g.pieces ≡ []) × AllByRecursion (λ p. window_of p ≡ g.window) g.pieces) (cond a (g ∷ rest) (cond b (grown piece g ∷ gs) (begun piece ∷ g ∷ gs)))
filled_added_case true b piece g gs rest e h k = (h.0, k)
filled_added_case false true piece g gs rest e h k =
    ((some_more g.pieces piece, AllByRecursion-append (λ p. window_of p ≡ g.window) g.pieces (piece ∷ []) h.0.1 (sym (same-is g.window (window_of piece) e), tt)), h.1)
filled_added_case false false piece g gs rest e h k = (((λ e. absurd cc), (refl, tt)), h)

filled-added : (piece : Piece) (gs : List Gathered) → AllByRecursion (λ g. ¬ (g.pieces ≡ []) × AllByRecursion (λ p. window_of p ≡ g.window) g.pieces) gs → AllByRecursion (λ g. ¬ (g.pieces ≡ []) × AllByRecursion (λ p. window_of p ≡ g.window) g.pieces) (added piece gs)
filled-added piece [] h = (((λ e. absurd cc), (refl, tt)), tt)
filled-added piece (g ∷ gs) h = filled_added_case (is_before g.window (window_of piece)) (same_window g.window (window_of piece)) piece g gs (added piece gs) refl h (filled-added piece gs h.1)

one_added_case : (a b : Bool) (n : ℕ) (piece : Piece) (g : Gathered) (gs rest : List Gathered) → OneEnds n (g ∷ gs) → (OneEnds n gs → OneEnds n rest) → OneEnds n (cond a (g ∷ rest) (cond b (grown piece g ∷ gs) (begun piece ∷ g ∷ gs)))
one_added_case true b n piece g gs rest (inl e) k = inl e
one_added_case true b n piece g gs rest (inr h) k = inr (k h)
one_added_case false true n piece g gs rest h k = h
one_added_case false false n piece g gs rest h k = inr h

-- a window that ended last still does
pub one-added : (n : ℕ) (piece : Piece) (gs : List Gathered) → OneEnds n gs → OneEnds n (added piece gs)
one-added n piece [] h = absurd h
one-added n piece (g ∷ gs) h = one_added_case (is_before g.window (window_of piece)) (same_window g.window (window_of piece)) n piece g gs (added piece gs) h (one-added n piece gs)

one_new_case : (a b : Bool) (piece : Piece) (g : Gathered) (gs rest : List Gathered) → same_window g.window (window_of piece) ≡ b → OneEnds (window_of piece).upto rest → OneEnds (window_of piece).upto (cond a (g ∷ rest) (cond b (grown piece g ∷ gs) (begun piece ∷ g ∷ gs)))
one_new_case true b piece g gs rest e k = inr k
one_new_case false true piece g gs rest e k = inl (ap (λ (w : Window). w.upto) (same-is g.window (window_of piece) e))
one_new_case false false piece g gs rest e k = inl refl

pub one-new : (piece : Piece) (gs : List Gathered) → OneEnds (window_of piece).upto (added piece gs)
one-new piece [] = inl refl
one-new piece (g ∷ gs) = one_new_case (is_before g.window (window_of piece)) (same_window g.window (window_of piece)) piece g gs (added piece gs) refl (one-new piece gs)

-- an inbox after one piece more
pub inbox-added : (farthest later : ℕ) (piece : Piece) (gs : List Gathered) → IsInbox gs farthest → farthest ≤ later → (window_of piece).upto ≤ later → (later ≡ farthest) ⊎ (later ≡ (window_of piece).upto) → IsInbox (added piece gs) later
inbox-added farthest later piece gs h le own is = record {
  order = order-added piece gs h.order;
  filled = filled-added piece gs h.filled;
  ends = ends-added (λ w. w.upto ≤ later) piece gs (AllByRecursion-map (λ g. g.window.upto ≤ farthest) (λ g. g.window.upto ≤ later) gs (λ g k. omega (arith, k, le)) h.ends) own;
  attained = λ some. elim is [
    | inl stays ↦ subst (λ (n : ℕ). OneEnds n (added piece gs)) (sym stays) (one-added farthest piece gs (h.attained (omega (arith, some, stays))))
    | inr new ↦ subst (λ (n : ℕ). OneEnds n (added piece gs)) (sym new) (one-new piece gs)
  ];
}

-- the same, as one who adds meets it
pub inbox_more : (farthest later : ℕ) (piece : Piece) (gs before after : List Gathered) → before ≡ gs → after ≡ added piece before → IsInbox gs farthest → farthest ≤ later → (window_of piece).upto ≤ later → (later ≡ farthest) ⊎ (later ≡ (window_of piece).upto) → IsInbox after later
inbox_more farthest later piece gs before after e made h le own is = subst (λ (l : List Gathered). IsInbox l later) (sym (made ∙ ap (added piece) e)) (inbox-added farthest later piece gs h le own is)

kept_without_case : (b : Bool) (P : Window → List Piece → Type 0) (g : Gathered) (gs rest : List Gathered) → AllByRecursion (λ g. P g.window g.pieces) (g ∷ gs) → AllByRecursion (λ g. P g.window g.pieces) rest → AllByRecursion (λ g. P g.window g.pieces) (cond b (first_dropped (g ∷ gs)) (g ∷ rest))
kept_without_case true P g gs rest h k = h
kept_without_case false P g gs rest h k = (h.0, k)

-- dropping changes no window and no piece
kept-without : (P : Window → List Piece → Type 0) (w : Window) (gs : List Gathered) → AllByRecursion (λ g. P g.window g.pieces) gs → AllByRecursion (λ g. P g.window g.pieces) (without w gs)
kept-without P w [] h = tt
kept-without P w (g ∷ gs) h = kept_without_case (same_window g.window w) P g gs (without w gs) h (kept-without P w gs h.1)

one_without_case : (b : Bool) (n : ℕ) (g : Gathered) (gs rest : List Gathered) → OneEnds n (g ∷ gs) → (OneEnds n gs → OneEnds n rest) → OneEnds n (cond b (first_dropped (g ∷ gs)) (g ∷ rest))
one_without_case true n g gs rest h k = h
one_without_case false n g gs rest (inl e) k = inl e
one_without_case false n g gs rest (inr h) k = inr (k h)

one-without : (n : ℕ) (w : Window) (gs : List Gathered) → OneEnds n gs → OneEnds n (without w gs)
one-without n w [] h = h
one-without n w (g ∷ gs) h = one_without_case (same_window g.window w) n g gs (without w gs) h (one-without n w gs)

pub inbox-without : (farthest : ℕ) (w : Window) (gs : List Gathered) → IsInbox gs farthest → IsInbox (without w gs) farthest
inbox-without farthest w gs h = record {
  order = order-without w gs h.order;
  filled = kept-without (λ v ps. ¬ (ps ≡ []) × AllByRecursion (λ p. window_of p ≡ v) ps) w gs h.filled;
  ends = kept-without (λ v ps. v.upto ≤ farthest) w gs h.ends;
  attained = λ some. one-without farthest w gs (h.attained some);
}

-- what stands at a place stands within
pub some_get : {A : Type 0} (xs : List A) (i : ℕ) (x : A) → Some x ≡ slice_get xs i → i < length xs
some_get [] i x e = absurd cc
some_get (y ∷ xs) zero x e = omega arith
some_get (y ∷ xs) (suc i) x e = omega (arith, some_get xs i x e)

-- a window that stays as it is
pub unchanged_set : (gs : List Gathered) (place : ℕ) (y x : Gathered) → y ≡ get_or gs place y → x ≡ y → set gs place x ≡ gs
unchanged_set gs place y x is e = ap (set gs place) (e ∙ is) ∙ set-get_or gs place y

-- a window that comes to a place
pub comes_in_order : (gs now : List Gathered) (place : ℕ) (piece : Piece) (held : Gathered) (farthest later : ℕ) → gs ≡ now → held ≡ begun piece → AreInOrder gs × EndBy farthest gs → AllBefore (take place now) (window_of piece) → BeginsBehind (drop place now) (window_of piece) →
    ¬ (StandsFirst (drop place now) (window_of piece)) → farthest ≤ later → (IsReady held → held.window.upto ≤ later) → AreInOrder (insert gs place held) × EndBy later (insert gs place held)
comes_in_order gs now place piece held farthest later e f h before behind not le one =
    let same : window_of piece ≡ held.window = ap (λ (g : Gathered). g.window) (sym f) in
    let k : AreInOrder now = subst AreInOrder e h.0 in (
      subst (λ (l : List Gathered). AreInOrder (insert l place held)) (sym e)
          (order-insert now place held k (subst (AllBefore (take place now)) same before) (subst (BeginsBehind (drop place now)) same behind) (λ first. not (subst (StandsFirst (drop place now)) (sym same) first))),
      ends-insert farthest later gs place held le one h.1,
    )

-- what is left of a list
pub drop_parts : {A : Type 0} (xs : List A) (n : ℕ) (x : A) (rest : List A) → drop n xs ≡ x ∷ rest → (n < length xs) × (x ≡ get_or xs n x) × (rest ≡ drop (n + 1) xs)
drop_parts [] zero x rest e = absurd cc
drop_parts [] (suc n) x rest e = absurd cc
drop_parts (y ∷ xs) zero x rest e = let a : x ≡ y = cc in let b : rest ≡ xs = cc in (omega arith, a, b)
drop_parts (y ∷ xs) (suc n) x rest e =
    let more = drop_parts xs n x rest e in
    let next : suc n + 1 ≡ suc (n + 1) = omega arith in
    (omega (arith, more.0), more.1, more.2 ∙ ap (λ (k : ℕ). drop k (y ∷ xs)) (sym next))

pub before_more : (gs : List Gathered) (place : ℕ) (g : Gathered) (w : Window) → place < length gs → g ≡ get_or gs place g → AllBefore (take place gs) w → is_before g.window w ≡ true → AllBefore (take (place + 1) gs) w
before_more gs place g w lt is h one = subst (λ (l : List Gathered). AllBefore l w) (sym (take_item gs place g lt is)) (AllByRecursion-append (λ (x : Gathered). is_before x.window w ≡ true) (take place gs) (g ∷ []) h (one, tt))

-- what an inbox shows after one piece more
pub inbox_shows : (now gs after : List Gathered) (piece own : Piece) → gs ≡ now → piece ≡ own → AreInOrder gs → after ≡ added piece gs → (w : Window) →
    (pieces_of after w ≡ cond (same_window (window_of own) w) (pieces_of now w ++ own ∷ []) (pieces_of now w)) × (is_dropped after w ≡ is_dropped now w)
inbox_shows now gs after piece own e f order g w =
    subst (λ (x : List Gathered). (pieces_of after w ≡ cond (same_window (window_of own) w) (pieces_of x w ++ own ∷ []) (pieces_of x w)) × (is_dropped after w ≡ is_dropped x w)) e
    (subst (λ (p : Piece). (pieces_of after w ≡ cond (same_window (window_of p) w) (pieces_of gs w ++ p ∷ []) (pieces_of gs w)) × (is_dropped after w ≡ is_dropped gs w)) f
    (ap (λ (x : List Gathered). pieces_of x w) g ∙ pieces-added piece gs w order, ap (λ (x : List Gathered). is_dropped x w) g ∙ dropped-added piece gs w order))

-- an empty shelf among others
pub all_of-insert : (shelves : List (List Gathered)) (n : ℕ) → all_of (insert shelves n []) ≡ all_of shelves
all_of-insert shelves n = all_of-append (take n shelves) ([] ∷ drop n shelves) ∙ sym (all_of-append (take n shelves) (drop n shelves)) ∙ ap all_of (take-append-drop n shelves)

pub half_moved : (shelves : List (List Gathered)) (at : ℕ) (shelf prefix behind : List Gathered) → at + 1 < length shelves → shelf ≡ get_or shelves at shelf → slice_get shelves (at + 1) ≡ Some [] → shelf ≡ prefix ++ behind →
    all_of (set (set shelves at prefix) (at + 1) behind) ≡ all_of shelves
half_moved shelves at shelf prefix behind lt is empty e =
    let within : at < length shelves = omega (arith, lt) in
    let second : [] ≡ get_or shelves (at + 1) [] = sym (get_or_from_slice_get shelves (at + 1) [] [] empty) in
    let before : length (take at shelves) ≡ at = omega (arith, length-take at shelves) in
    let parts : shelves ≡ take at shelves ++ shelf ∷ [] ∷ drop (at + 1 + 1) shelves =
    shelf_at shelves at shelf within is ∙ ap (λ (l : List (List Gathered)). take at shelves ++ shelf ∷ l) (drop_more shelves (at + 1) [] lt ∙ ap (λ (x : List Gathered). x ∷ drop (at + 1 + 1) shelves) (sym second)) in
    let one : set shelves at prefix ≡ take at shelves ++ prefix ∷ [] ∷ drop (at + 1 + 1) shelves =
    ap (λ (l : List (List Gathered)). set l at prefix) parts ∙ set_at (take at shelves) shelf ([] ∷ drop (at + 1 + 1) shelves) prefix at before in
    let both : set (set shelves at prefix) (at + 1) behind ≡ take at shelves ++ prefix ∷ behind ∷ drop (at + 1 + 1) shelves =
    ap (λ (l : List (List Gathered)). set l (at + 1) behind) (one ∙ sym (append_assoc (take at shelves) (prefix ∷ []) ([] ∷ drop (at + 1 + 1) shelves)))
    ∙ set_at (take at shelves ++ prefix ∷ []) [] (drop (at + 1 + 1) shelves) behind (at + 1) (omega (arith, before, length-append (take at shelves) (prefix ∷ [])))
    ∙ append_assoc (take at shelves) (prefix ∷ []) (behind ∷ drop (at + 1 + 1) shelves) in
    ap all_of both ∙ all_of-append (take at shelves) (prefix ∷ behind ∷ drop (at + 1 + 1) shelves)
    ∙ ap (λ (l : List Gathered). all_of (take at shelves) ++ l) (sym (append_assoc prefix behind (all_of (drop (at + 1 + 1) shelves))) ∙ ap (λ (l : List Gathered). l ++ all_of (drop (at + 1 + 1) shelves)) (sym e))
    ∙ sym (ap all_of parts ∙ all_of-append (take at shelves) (shelf ∷ [] ∷ drop (at + 1 + 1) shelves))

-- parts of what stands in order
pub order-taken : (n : ℕ) (gs : List Gathered) → AreInOrder gs → AreInOrder (take n gs)
order-taken n gs h = order-prefix (take n gs) (drop n gs) (subst AreInOrder (sym (take-append-drop n gs)) h)

pub order-dropped : (n : ℕ) (gs : List Gathered) → AreInOrder gs → AreInOrder (drop n gs)
order-dropped n gs h = order-back (take n gs) (drop n gs) (subst AreInOrder (sym (take-append-drop n gs)) h)

-- what an inbox shows after a window is dropped
pub drops_shown : (now gs after : List Gathered) (v : Window) → gs ≡ now → AllByRecursion (λ g. ¬ (g.pieces ≡ []) × AllByRecursion (λ p. window_of p ≡ g.window) g.pieces) gs → after ≡ without v gs → (w : Window) →
    (pieces_of after w ≡ pieces_of now w) × (is_dropped after w ≡ cond (same_window v w) (is_seen now w) (is_dropped now w))
drops_shown now gs after v e filled made w =
    subst (λ (x : List Gathered). (pieces_of after w ≡ pieces_of x w) × (is_dropped after w ≡ cond (same_window v w) (is_seen x w) (is_dropped x w))) e (
      ap (λ (x : List Gathered). pieces_of x w) made ∙ pieces-without v gs w,
      ap (λ (x : List Gathered). is_dropped x w) made ∙ dropped-without v gs w ∙ ap (λ (b : Bool). cond (same_window v w) b (is_dropped gs w)) (stands-seen gs w filled),
    )
