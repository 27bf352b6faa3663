-- What an inbox shows of a window.
use Rattle.std.proofs.Common.{◌≡◌, ℕ, ◌<◌, ◌≤◌, inl, inr, Bool, true, false, cond, List, [], ◌∷◌, ◌++◌, refl, sym, ap, ◌∙◌, arith, subst}
use Rattle.std.specs.List.{AllByRecursion}
use Rattle.sr_mail.specs.declared.piece.Piece.{Piece}
use Rattle.sr_mail.specs.declared.window.Window.{Window}
use Rattle.sr_mail.specs.Inboxes.{Gathered, pieces_of, is_dropped, IsSeen}
use Rattle.sr_mail.specs.Inner.Inboxes.{is_some, is_seen, IsWholeWindow}
use Rattle.sr_mail.specs.Reaching.{Leads}
use Rattle.sr_mail.specs.Seen.{ComesBefore, same_window, window_of, Cover}
use Rattle.sr_mail.specs.Inner.Shelves.{is_before, AllBehind, AreInOrder, added, without, first_dropped, EndsPast, IsFirstPast, stands_among}
use Rattle.sr_mail_cut.proofs.Lists.{AllByRecursion-append, AllByRecursion-map, AllByRecursion-back}
use Rattle.sr_mail.proofs.Order.{before-is, is-before, before-on, before-other, behind-other, other-before, same-is, is-same}
use Rattle.sr_mail.proofs.Shelving.{begun, grown, order-back}

-- nothing stands for a window before all others
pub none_of : (gs : List Gathered) (w : Window) → AllBehind gs w → pieces_of gs w ≡ []
none_of [] w h = refl
none_of (g ∷ gs) w h = let apart : same_window g.window w ≡ false = behind-other w g.window h.0 in rw apart (none_of gs w h.1)

not_dropped : (gs : List Gathered) (w : Window) → AllBehind gs w → is_dropped gs w ≡ false
not_dropped [] w h = refl
not_dropped (g ∷ gs) w h = let apart : same_window g.window w ≡ false = behind-other w g.window h.0 in rw apart (not_dropped gs w h.1)

further : (w v : Window) (gs : List Gathered) → is_before w v ≡ true → AllBehind gs v → AllBehind gs w
further w v gs a h = AllByRecursion-map (λ (x : Gathered). is_before v x.window ≡ true) (λ (x : Gathered). is_before w x.window ≡ true) gs (λ x k. before-on w v x.window a k) h

-- the test of two windows, where one of them is known
same_through : (w v u : Window) → w ≡ v → same_window w u ≡ same_window v u
same_through w v u e = ap (λ (x : Window). same_window x u) e

pub Shows : Piece → List Gathered → List Gathered → Window → Type 0
Shows piece gs after w = (pieces_of after w ≡ cond (same_window (window_of piece) w) (pieces_of gs w ++ piece ∷ []) (pieces_of gs w)) × (is_dropped after w ≡ is_dropped gs w)

not_both : (b : Bool) (x v w : Window) → same_window v w ≡ b → same_window x w ≡ true → same_window x v ≡ false → b ≡ false
not_both true x v w e f apart =
    let same : same_window x v ≡ true = is-same x v (same-is x w f ∙ sym (same-is v w e)) in
    let never : false ≡ true = sym apart ∙ same in absurd cc
not_both false x v w e f apart = refl

-- a window before the piece's
shows_before : (a b : Bool) (piece : Piece) (g : Gathered) (gs rest : List Gathered) (w : Window) → same_window (window_of piece) w ≡ a → same_window g.window w ≡ b → same_window g.window (window_of piece) ≡ false → Shows piece gs rest w → Shows piece (g ∷ gs) (g ∷ rest) w
unfolding Shows
shows_before a true piece g gs rest w e f apart h =
    let other : same_window (window_of piece) w ≡ false = not_both (same_window (window_of piece) w) g.window (window_of piece) w refl f apart in
    (rw (f, other) refl, rw f refl)
shows_before a false piece g gs rest w e f apart h = (rw f h.0, rw f h.1)

-- the piece's window
shows_here : (b : Bool) (piece : Piece) (g : Gathered) (gs : List Gathered) (w : Window) → same_window g.window w ≡ b → g.window ≡ window_of piece → Shows piece (g ∷ gs) (grown piece g ∷ gs) w
unfolding Shows
shows_here true piece g gs w f is = let same : same_window (window_of piece) w ≡ true = sym (same_through g.window (window_of piece) w is) ∙ f in (rw (f, same) refl, rw f refl)
shows_here false piece g gs w f is = let same : same_window (window_of piece) w ≡ false = sym (same_through g.window (window_of piece) w is) ∙ f in (rw (f, same) refl, rw f refl)

-- a new window before others
shows_new : (b : Bool) (piece : Piece) (gs : List Gathered) (w : Window) → same_window (window_of piece) w ≡ b → AllBehind gs (window_of piece) → Shows piece gs (begun piece ∷ gs) w
unfolding Shows
shows_new true piece gs w f behind =
    let is : window_of piece ≡ w = same-is (window_of piece) w f in
    let none : pieces_of gs w ≡ [] = none_of gs w (subst (AllBehind gs) is behind) in
    let kept : is_dropped gs w ≡ false = not_dropped gs w (subst (AllBehind gs) is behind) in
    (rw (f, none) refl, rw (f, kept) refl)
shows_new false piece gs w f behind = (rw f refl, rw f refl)

shows_case : (a b : Bool) (piece : Piece) (g : Gathered) (gs : List Gathered) (w : Window) → is_before g.window (window_of piece) ≡ a → same_window g.window (window_of piece) ≡ b → AreInOrder (g ∷ gs) → Shows piece gs (added piece gs) w →
    Shows piece (g ∷ gs) (cond a (g ∷ added piece gs) (cond b (grown piece g ∷ gs) (begun piece ∷ g ∷ gs))) w
shows_case true b piece g gs w e f order rest = shows_before (same_window (window_of piece) w) (same_window g.window w) piece g gs (added piece gs) w refl refl (before-other g.window (window_of piece) e) rest
shows_case false true piece g gs w e f order rest = shows_here (same_window g.window w) piece g gs w refl (same-is g.window (window_of piece) f)
shows_case false false piece g gs w e f order rest =
    let first : is_before (window_of piece) g.window ≡ true = other-before g.window (window_of piece) e f in
    shows_new (same_window (window_of piece) w) piece (g ∷ gs) w refl (first, further (window_of piece) g.window gs first order.0)

pub shows-added : (piece : Piece) (gs : List Gathered) (w : Window) → AreInOrder gs → Shows piece gs (added piece gs) w
unfolding Shows
shows-added piece [] w order = shows_new (same_window (window_of piece) w) piece [] w refl tt
shows-added piece (g ∷ gs) w order =
    shows_case (is_before g.window (window_of piece)) (same_window g.window (window_of piece)) piece g gs w refl refl order (shows-added piece gs w order.1)

pub pieces-added : (piece : Piece) (gs : List Gathered) (w : Window) → AreInOrder gs → pieces_of (added piece gs) w ≡ cond (same_window (window_of piece) w) (pieces_of gs w ++ piece ∷ []) (pieces_of gs w)
unfolding Shows
pieces-added piece gs w order = (shows-added piece gs w order).0

pub dropped-added : (piece : Piece) (gs : List Gathered) (w : Window) → AreInOrder gs → is_dropped (added piece gs) w ≡ is_dropped gs w
unfolding Shows
dropped-added piece gs w order = (shows-added piece gs w order).1

-- ---- a dropped window

pieces_without_case : (b : Bool) (g : Gathered) (gs rest : List Gathered) (w : Window) → pieces_of rest w ≡ pieces_of gs w → pieces_of (cond b (first_dropped (g ∷ gs)) (g ∷ rest)) w ≡ pieces_of (g ∷ gs) w
pieces_without_case true g gs rest w e = refl
pieces_without_case false g gs rest w e = ap (λ (ps : List Piece). cond (same_window g.window w) g.pieces ps) e

pub pieces-without : (v : Window) (gs : List Gathered) (w : Window) → pieces_of (without v gs) w ≡ pieces_of gs w
pieces-without v [] w = refl
pieces-without v (g ∷ gs) w = pieces_without_case (same_window g.window v) g gs (without v gs) w (pieces-without v gs w)

cond_same : {A : Type 0} (b : Bool) (x : A) → x ≡ cond b x x
cond_same true x = refl
cond_same false x = refl

dropped_without_case : (a b : Bool) (v : Window) (g : Gathered) (gs rest : List Gathered) (w : Window) → same_window g.window v ≡ a → same_window g.window w ≡ b → is_dropped rest w ≡ cond (same_window v w) (stands_among gs w) (is_dropped gs w) →
    is_dropped (cond a (first_dropped (g ∷ gs)) (g ∷ rest)) w ≡ cond (same_window v w) (stands_among (g ∷ gs) w) (is_dropped (g ∷ gs) w)
dropped_without_case true true v g gs rest w e f h = let same : same_window v w ≡ true = sym (same_through g.window v w (same-is g.window v e)) ∙ f in rw (f, same) refl
dropped_without_case true false v g gs rest w e f h = let same : same_window v w ≡ false = sym (same_through g.window v w (same-is g.window v e)) ∙ f in rw (f, same) refl
dropped_without_case false true v g gs rest w e f h =
    let other : same_window v w ≡ false = not_both (same_window v w) g.window v w refl f e in
    rw (f, other) refl
dropped_without_case false false v g gs rest w e f h = rw f h

pub dropped-without : (v : Window) (gs : List Gathered) (w : Window) → is_dropped (without v gs) w ≡ cond (same_window v w) (stands_among gs w) (is_dropped gs w)
dropped-without v [] w = cond_same (same_window v w) false
dropped-without v (g ∷ gs) w = dropped_without_case (same_window g.window v) (same_window g.window w) v g gs (without v gs) w refl refl (dropped-without v gs w)

some_is : (ps : List Piece) → ¬ (ps ≡ []) → true ≡ is_some ps
some_is [] some = absurd (some refl)
some_is (p ∷ ps) some = refl

stands_case : (b : Bool) (g : Gathered) (gs : List Gathered) (w : Window) → ¬ (g.pieces ≡ []) → stands_among gs w ≡ is_some (pieces_of gs w) → cond b true (stands_among gs w) ≡ is_some (cond b g.pieces (pieces_of gs w))
stands_case true g gs w some rest = some_is g.pieces some
stands_case false g gs w some rest = rest

-- a window stands where a piece of it was added
pub stands-seen : (gs : List Gathered) (w : Window) → AllByRecursion (λ g. ¬ (g.pieces ≡ []) × AllByRecursion (λ p. window_of p ≡ g.window) g.pieces) gs → stands_among gs w ≡ is_seen gs w
stands-seen [] w h = refl
stands-seen (g ∷ gs) w h = stands_case (same_window g.window w) g gs w h.0.0 (stands-seen gs w h.1)

-- ---- whole windows

-- what an inbox shows of one of its windows
pub shown : (prefix : List Gathered) (g : Gathered) (behind : List Gathered) → AreInOrder (prefix ++ g ∷ behind) → (pieces_of (prefix ++ g ∷ behind) g.window ≡ g.pieces) × (is_dropped (prefix ++ g ∷ behind) g.window ≡ g.dropped)
shown [] g behind order = let same : same_window g.window g.window ≡ true = is-same g.window g.window refl in (rw same refl, rw same refl)
shown (f ∷ prefix) g behind order =
    let before = AllByRecursion-back (λ (x : Gathered). is_before f.window x.window ≡ true) prefix (g ∷ behind) order.0 in
    let apart : same_window f.window g.window ≡ false = before-other f.window g.window before.0 in
    let rest = shown prefix g behind order.1 in
    (rw apart rest.0, rw apart rest.1)

least_case : (b : Bool) (f : Gathered) (prefix : List Gathered) (g : Gathered) (behind : List Gathered) (r : ℕ) (w : Window) → same_window f.window w ≡ b → AreInOrder ((f ∷ prefix) ++ g ∷ behind) → AllByRecursion (λ x. ¬ (EndsPast r x)) (f ∷ prefix) →
    ¬ (pieces_of ((f ∷ prefix) ++ g ∷ behind) w ≡ []) → Cover (pieces_of ((f ∷ prefix) ++ g ∷ behind) w) w.total → is_dropped ((f ∷ prefix) ++ g ∷ behind) w ≡ false → r < w.upto → ComesBefore w g.window →
    (¬ (pieces_of (prefix ++ g ∷ behind) w ≡ []) → Cover (pieces_of (prefix ++ g ∷ behind) w) w.total → is_dropped (prefix ++ g ∷ behind) w ≡ false → r < w.upto → ComesBefore w g.window → ⊥) → ⊥
least_case true f prefix g behind r w is order passed seen covered kept ends before rest =
    let same : f.window ≡ w = same-is f.window w is in
    let ready : Cover f.pieces w.total = rw is at covered in
    let stays : f.dropped ≡ false = rw is at kept in
    passed.0 ((stays, subst (λ (x : Window). Cover f.pieces x.total) (sym same) ready), subst (λ (x : Window). r < x.upto) (sym same) ends)
least_case false f prefix g behind r w is order passed seen covered kept ends before rest =
    rest (rw is at seen) (rw is at covered) (rw is at kept) ends before

-- the windows before the first ready one are not it
least_first : (prefix : List Gathered) (g : Gathered) (behind : List Gathered) (r : ℕ) (w : Window) → AreInOrder (prefix ++ g ∷ behind) → AllByRecursion (λ x. ¬ (EndsPast r x)) prefix →
    ¬ (pieces_of (prefix ++ g ∷ behind) w ≡ []) → Cover (pieces_of (prefix ++ g ∷ behind) w) w.total → is_dropped (prefix ++ g ∷ behind) w ≡ false → r < w.upto → ComesBefore w g.window → ⊥
least_first [] g behind r w order passed seen covered kept ends before =
    let first : is_before w g.window ≡ true = is-before w g.window before in
    seen (none_of (g ∷ behind) w (first, further w g.window behind first order.0))
least_first (f ∷ prefix) g behind r w order passed seen covered kept ends before = least_case (same_window f.window w) f prefix g behind r w refl order passed seen covered kept ends before
    (least_first prefix g behind r w order.1 passed.1)

-- the first ready window is the one to be taken next
pub first_is_next : (gs : List Gathered) (r : ℕ) (g : Gathered) (other : Window) → AreInOrder gs → IsFirstPast r gs g → IsWholeWindow gs other → Leads other r → ComesBefore other g.window → ⊥
first_is_next gs r g other order first whole leads before =
    let h = subst AreInOrder first.parts order in
    least_first first.prefix g first.behind r other h first.passed
    (λ none. whole.seen (ap (λ (x : List Gathered). pieces_of x other) first.parts ∙ none))
    (subst (λ (x : List Gathered). Cover (pieces_of x other) other.total) first.parts whole.covered)
    (ap (λ (x : List Gathered). is_dropped x other) (sym first.parts) ∙ whole.kept) leads.ends before

-- it is whole
pub first_is_whole : (gs : List Gathered) (r : ℕ) (g : Gathered) → AreInOrder gs → AllByRecursion (λ x. ¬ (x.pieces ≡ []) × AllByRecursion (λ p. window_of p ≡ x.window) x.pieces) gs → IsFirstPast r gs g → IsWholeWindow gs g.window
first_is_whole gs r g order filled first =
    let h = subst AreInOrder first.parts order in
    let s = shown first.prefix g first.behind h in
    let pieces : pieces_of gs g.window ≡ g.pieces = ap (λ (x : List Gathered). pieces_of x g.window) first.parts ∙ s.0 in
    let dropped : is_dropped gs g.window ≡ g.dropped = ap (λ (x : List Gathered). is_dropped x g.window) first.parts ∙ s.1 in
    let some = (AllByRecursion-back (λ x. ¬ (x.pieces ≡ []) × AllByRecursion (λ p. window_of p ≡ x.window) x.pieces) first.prefix (g ∷ first.behind)
    (subst (AllByRecursion (λ x. ¬ (x.pieces ≡ []) × AllByRecursion (λ p. window_of p ≡ x.window) x.pieces)) first.parts filled)).0 in
    record {
      seen = λ none. some.0 (sym pieces ∙ none);
      covered = subst (λ (ps : List Piece). Cover ps g.window.total) (sym pieces) first.is_one.0.1;
      kept = dropped ∙ first.is_one.0.0;
    }

-- its pieces
pub first_pieces : (gs : List Gathered) (r : ℕ) (g : Gathered) → AreInOrder gs → IsFirstPast r gs g → pieces_of gs g.window ≡ g.pieces
first_pieces gs r g order first = ap (λ (x : List Gathered). pieces_of x g.window) first.parts ∙ (shown first.prefix g first.behind (subst AreInOrder first.parts order)).0

none_case : (b : Bool) (g : Gathered) (gs : List Gathered) (r : ℕ) (w : Window) → same_window g.window w ≡ b → AllByRecursion (λ x. EndsPast r x → r < x.window.prev) (g ∷ gs) → ¬ (pieces_of (g ∷ gs) w ≡ []) → Cover (pieces_of (g ∷ gs) w) w.total → is_dropped (g ∷ gs) w ≡ false → Leads w r →
    (¬ (pieces_of gs w ≡ []) → Cover (pieces_of gs w) w.total → is_dropped gs w ≡ false → Leads w r → ⊥) → ⊥
none_case true g gs r w is h seen covered kept leads rest =
    let same : g.window ≡ w = same-is g.window w is in
    let ready : Cover g.pieces w.total = rw is at covered in
    let stays : g.dropped ≡ false = rw is at kept in
    let past : r < g.window.prev = h.0 ((stays, subst (λ (x : Window). Cover g.pieces x.total) (sym same) ready), subst (λ (x : Window). r < x.upto) (sym same) leads.ends) in
    let begins : g.window.prev ≤ r = subst (λ (x : Window). x.prev ≤ r) (sym same) leads.begins in
    omega (arith, past, begins)
none_case false g gs r w is h seen covered kept leads rest = rest (rw is at seen) (rw is at covered) (rw is at kept) leads

none_leads_of : (gs : List Gathered) (r : ℕ) (w : Window) → AllByRecursion (λ g. EndsPast r g → r < g.window.prev) gs → ¬ (pieces_of gs w ≡ []) → Cover (pieces_of gs w) w.total → is_dropped gs w ≡ false → Leads w r → ⊥
none_leads_of [] r w h seen covered kept leads = seen refl
none_leads_of (g ∷ gs) r w h seen covered kept leads = none_case (same_window g.window w) g gs r w refl h seen covered kept leads (none_leads_of gs r w h.1)

-- where each ready window that ends past an offset begins past it too, none leads on
pub none_leads : (gs : List Gathered) (r : ℕ) (w : Window) → AllByRecursion (λ g. EndsPast r g → r < g.window.prev) gs → IsWholeWindow gs w → Leads w r → ⊥
none_leads gs r w h whole leads = none_leads_of gs r w h whole.seen whole.covered whole.kept leads

-- where none is ready, and where the first ready one begins past the offset
pub none_ready : (gs : List Gathered) (r : ℕ) → AllByRecursion (λ g. ¬ (EndsPast r g)) gs → AllByRecursion (λ g. EndsPast r g → r < g.window.prev) gs
none_ready gs r h = AllByRecursion-map (λ g. ¬ (EndsPast r g)) (λ g. EndsPast r g → r < g.window.prev) gs (λ g k past. absurd (k past)) h

later_begins : (w v : Window) (r : ℕ) → r < w.prev → ComesBefore w v → r < v.prev
later_begins w v r lt (inl a) = omega arith
later_begins w v r lt (inr (e, a)) = omega arith

pub first_begins : (gs : List Gathered) (r : ℕ) (g : Gathered) → AreInOrder gs → IsFirstPast r gs g → r < g.window.prev → AllByRecursion (λ x. EndsPast r x → r < x.window.prev) gs
first_begins gs r g order first past =
    let h = order-back first.prefix (g ∷ first.behind) (subst AreInOrder first.parts order) in
    subst (AllByRecursion (λ x. EndsPast r x → r < x.window.prev)) (sym first.parts)
    (AllByRecursion-append (λ x. EndsPast r x → r < x.window.prev) first.prefix (g ∷ first.behind) (none_ready first.prefix r first.passed)
    ((λ e. past), AllByRecursion-map (λ x. is_before g.window x.window ≡ true) (λ x. EndsPast r x → r < x.window.prev) first.behind (λ x k e. later_begins g.window x.window r past (before-is g.window x.window k)) h.0))

seen_case : (b : Bool) (P : Window → Type 0) (g : Gathered) (gs : List Gathered) (w : Window) → same_window g.window w ≡ b → P g.window → IsSeen (g ∷ gs) w → (IsSeen gs w → P w) → P w
seen_case true P g gs w is h seen rest = subst P (same-is g.window w is) h
seen_case false P g gs w is h seen rest = rest (rw is at seen)

-- a window that is seen is one of them
pub seen_in : (P : Window → Type 0) (gs : List Gathered) (w : Window) → AllByRecursion (λ g. P g.window) gs → IsSeen gs w → P w
seen_in P [] w h seen = absurd (seen refl)
seen_in P (g ∷ gs) w h seen = seen_case (same_window g.window w) P g gs w refl h.0 seen (seen_in P gs w h.1)
