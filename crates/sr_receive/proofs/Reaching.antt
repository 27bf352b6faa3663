-- How far a pass has come after each act.
use Rattle.std.proofs.Common.{◌≡◌, ℕ, ◌≤◌, ◌<◌, Bool, true, false, ◌||◌, cond, nat_lt, List, [], ◌∷◌, Some, refl, sym, ap, subst, ◌∙◌, arith, le_refl, inl, inr}
use Rattle.std.proofs.lemmas.Bool.{cases_lt, lt-ltb, ltb-true}
use Rattle.sr_base.specs.declared.offset.Offset.{Offset}
use Rattle.sr_book.specs.Entries.{Name}
use Rattle.sr_mail_cut.specs.Bodies.{AreRising, RisesPast, last_at, last_offset}
use Rattle.sr_logform.specs.declared.op.Transaction.{Transaction}
use Rattle.sr_mail.specs.Reaching.{IsFar, Leads, Reaches, goes_on, start}
use Rattle.sr_mail.specs.Seen.{same_window}
use Rattle.sr_mail.specs.declared.window.Window.{Window}
use Rattle.sr_mail.proofs.Order.{same-is}
use Rattle.sr_receive.specs.Acts.{ReceiveAct, AreActs, IsAct, IsAtRest, PassState, begun, dropped, rest_of, stand_of, took, torn}
use Rattle.sr_receive_gather.specs.MessageFiles.{MessageFile}
use Rattle.sr_receive_gather.specs.Windows.{AreOf, IsWholeOf, is_dropped_window, past}
use Rattle.sr_receive.proofs.Far.{none_past}

-- ---- transactions that are left of a window

-- their offsets rise past one, and the last of them ends here
unfoldable pub EndAt : ℕ → ℕ → List Transaction → Type 0
EndAt low end [] = ⊥
EndAt low end (t ∷ ts) = (low < t.at.0) × RisesPast t.at.0 ts × ((last_at t.at ts).0 ≡ end)

all_past : (low received : ℕ) (ts : List Transaction) → received ≤ low → RisesPast low ts → past received ts ≡ ts
all_past low received [] le h = refl
all_past low received (t ∷ ts) le h =
    let first : nat_lt received t.at.0 ≡ true = lt-ltb received t.at.0 (omega (arith, h.0)) in
    ap (λ (b : Bool). cond b (t ∷ past received ts) (past received ts)) first ∙ ap (λ (l : List Transaction). t ∷ l) (all_past t.at.0 received ts (omega (arith, h.0)) h.1)

not_past : (received at : ℕ) → nat_lt received at ≡ false → at ≤ received
not_past received at e = elim (cases_lt received at) [
  | inl less ↦ let never : true ≡ false = sym (lt-ltb received at less) ∙ e in absurd cc
  | inr le ↦ le
]

-- the first of them lies past an offset, or is passed over
one_past : (b : Bool) (received end : ℕ) (t : Transaction) (ts : List Transaction) → nat_lt received t.at.0 ≡ b → RisesPast t.at.0 ts → (last_at t.at ts).0 ≡ end
    → (nat_lt received t.at.0 ≡ false → EndAt received end (past received ts)) → EndAt received end (cond b (t ∷ past received ts) (past received ts))
unfolding EndAt
one_past true received end t ts e rises ends rest =
    let first = ltb-true received t.at.0 e in
    subst (λ (l : List Transaction). EndAt received end (t ∷ l)) (sym (all_past t.at.0 received ts (omega (arith, first)) rises)) (first, rises, ends)
one_past false received end t ts e rises ends rest = rest e

end_past : (received : ℕ) (t : Transaction) (ts : List Transaction) → RisesPast t.at.0 ts → received < (last_at t.at ts).0 → EndAt received (last_at t.at ts).0 (past received (t ∷ ts))
end_past received t [] rises less = one_past (nat_lt received t.at.0) received t.at.0 t [] refl tt refl (λ e. absurd (omega (arith, less, not_past received t.at.0 e)))
end_past received t (u ∷ us) rises less = one_past (nat_lt received t.at.0) received (last_at u.at us).0 t (u ∷ us) refl rises refl (λ e. end_past received u us rises.1 less)

end_of_past : (received : ℕ) (txs : List Transaction) (last : Offset) → AreRising txs → last_offset txs ≡ Some last → received < last.0 → EndAt received last.0 (past received txs)
end_of_past received [] last rises e less = absurd cc
end_of_past received (t ∷ ts) last rises e less =
    let is : last_at t.at ts ≡ last = cc in
    subst (λ (o : Offset). EndAt received o.0 (past received (t ∷ ts))) is (end_past received t ts rises (subst (λ (o : Offset). received < o.0) (sym is) less))

-- ---- how far a pass has come

-- a window is under way: it led on from an offset that was reached, and ends where its transactions do
pub record IsUnder (message_files : List MessageFile) (dropped_windows : List Window) (from received : ℕ) (t : Transaction) (ts : List Transaction) : Type 0 where
  pub offset : ℕ
  pub w : Window
  pub reached : Reaches (IsWholeOf message_files dropped_windows) from offset
  pub whole : IsWholeOf message_files dropped_windows w
  pub leads : Leads w offset
  pub left : EndAt received w.upto (t ∷ ts)

-- what was received is reached, or a window is under way
unfoldable pub Comes : List MessageFile → List Window → ℕ → ℕ → List Transaction → Type 0
Comes message_files dropped_windows from received [] = Reaches (IsWholeOf message_files dropped_windows) from received
Comes message_files dropped_windows from received (t ∷ ts) = IsUnder message_files dropped_windows from received t ts

pub record IsOn (message_files : List MessageFile) (from : ℕ) (s : PassState) : Type 0 where
  pub comes : Comes message_files s.dropped_windows from s.received s.left
  pub later : from ≤ s.received

idle_reached : (message_files : List MessageFile) (dropped_windows : List Window) (from received : ℕ) (left : List Transaction) → left ≡ [] → Comes message_files dropped_windows from received left → Reaches (IsWholeOf message_files dropped_windows) from received
unfolding Comes
idle_reached message_files dropped_windows from received left idle comes = subst (Comes message_files dropped_windows from received) idle comes

idle_comes : (message_files : List MessageFile) (dropped_windows : List Window) (from received : ℕ) (left : List Transaction) → left ≡ [] → Reaches (IsWholeOf message_files dropped_windows) from received → Comes message_files dropped_windows from received left
unfolding Comes
idle_comes message_files dropped_windows from received left idle reached = subst (Comes message_files dropped_windows from received) (sym idle) reached

under_way : (message_files : List MessageFile) (dropped_windows : List Window) (from offset received : ℕ) (w : Window) (left : List Transaction) → Reaches (IsWholeOf message_files dropped_windows) from offset → IsWholeOf message_files dropped_windows w → Leads w offset
    → EndAt received w.upto left → Comes message_files dropped_windows from received left
unfolding Comes EndAt
under_way message_files dropped_windows from offset received w [] reached whole leads end = absurd end
under_way message_files dropped_windows from offset received w (t ∷ ts) reached whole leads end = record { offset = offset; w = w; reached = reached; whole = whole; leads = leads; left = end }

-- ---- a window that was lost

-- windows that end by what was reached are enough for it
reached_by : (W V : Window → Type 0) (from x : ℕ) → ((w : Window) → w.upto ≤ x → W w → V w) → Reaches W from x → Reaches V from x
reached_by W V from _ keep start = start
reached_by W V from _ keep (goes_on z w reached of leads) =
    goes_on z w (reached_by W V from z (λ v le. keep v (omega (arith, le, leads.ends))) reached) (keep w (le_refl w.upto) of) leads

apart : (v w : Window) (received : ℕ) → received < v.upto → w.upto ≤ received → same_window v w ≡ false
apart v w received past by = go (same_window v w) refl where
  go : (b : Bool) → same_window v w ≡ b → same_window v w ≡ false
  go true e = let same : v.upto ≡ w.upto = ap (λ (x : Window). x.upto) (same-is v w e) in absurd (omega (arith, past, by, same))
  go false e = e

kept_whole : (message_files : List MessageFile) (dropped_windows : List Window) (v : Window) (received : ℕ) → received < v.upto → (w : Window) → w.upto ≤ received → IsWholeOf message_files dropped_windows w → IsWholeOf message_files (v ∷ dropped_windows) w
kept_whole message_files dropped_windows v received past w by whole = record {
  seen = whole.seen;
  covered = whole.covered;
  kept = ap (λ (b : Bool). b || is_dropped_window dropped_windows w) (apart v w received past by) ∙ whole.kept;
}

on_dropped_windows : (message_files : List MessageFile) (from : ℕ) (s : PassState) (w : Window) → s.left ≡ [] → Leads w s.received → IsOn message_files from s → IsOn message_files from (record s { dropped_windows = w ∷ s.dropped_windows })
on_dropped_windows message_files from s w idle leads on = record {
  comes = idle_comes message_files (w ∷ s.dropped_windows) from s.received s.left idle
      (reached_by (IsWholeOf message_files s.dropped_windows) (IsWholeOf message_files (w ∷ s.dropped_windows)) from s.received (kept_whole message_files s.dropped_windows w s.received leads.ends)
      (idle_reached message_files s.dropped_windows from s.received s.left idle on.comes));
  later = on.later;
}

-- ---- a window that was begun

on_begun : (message_files : List MessageFile) (from : ℕ) (s : PassState) (w : Window) (txs : List Transaction) → s.left ≡ [] → IsWholeOf message_files s.dropped_windows w → Leads w s.received → AreOf w txs → IsOn message_files from s
    → IsOn message_files from (record s { left = past s.received txs })
on_begun message_files from s w txs idle whole leads of on =
    let ends : of.ends.0.0 ≡ w.upto = of.ends.2 in
    record {
      comes = under_way message_files s.dropped_windows from s.received s.received w (past s.received txs) (idle_reached message_files s.dropped_windows from s.received s.left idle on.comes) whole leads
          (subst (λ (n : ℕ). EndAt s.received n (past s.received txs)) ends
          (end_of_past s.received txs of.ends.0 of.body.rising of.ends.1 (subst (λ (n : ℕ). s.received < n) (sym ends) leads.ends)));
      later = on.later;
    }

-- ---- a transaction that was taken

taken_comes : (message_files : List MessageFile) (dropped_windows : List Window) (from received : ℕ) (t : Transaction) (rest : List Transaction) → IsUnder message_files dropped_windows from received t rest → Comes message_files dropped_windows from t.at.0 rest
unfolding Comes EndAt
taken_comes message_files dropped_windows from received t [] u = subst (λ (n : ℕ). Reaches (IsWholeOf message_files dropped_windows) from n) (sym u.left.2) (goes_on u.offset u.w u.reached u.whole u.leads)
taken_comes message_files dropped_windows from received t (n ∷ rest) u =
    record { offset = u.offset; w = u.w; reached = u.reached; whole = u.whole; leads = u.leads; left = (u.left.1.0, u.left.1.1, u.left.2) }

under_left : (message_files : List MessageFile) (dropped_windows : List Window) (from received : ℕ) (left : List Transaction) (t : Transaction) (rest : List Transaction) → left ≡ t ∷ rest → Comes message_files dropped_windows from received left
    → IsUnder message_files dropped_windows from received t rest
unfolding Comes
under_left message_files dropped_windows from received left t rest is comes = subst (Comes message_files dropped_windows from received) is comes

lies_past : (message_files : List MessageFile) (dropped_windows : List Window) (from received : ℕ) (t : Transaction) (rest : List Transaction) → IsUnder message_files dropped_windows from received t rest → received < t.at.0
unfolding EndAt
lies_past message_files dropped_windows from received t rest u = u.left.0

on_taken : (message_files : List MessageFile) (from : ℕ) (s after : PassState) (t : Transaction) (rest : List Transaction) → s.left ≡ t ∷ rest → after.dropped_windows ≡ s.dropped_windows → after.received ≡ t.at.0 → after.left ≡ rest_of s.left → IsOn message_files from s
    → IsOn message_files from after
on_taken message_files from s after t rest is dropped_windows received left on =
    let u = under_left message_files s.dropped_windows from s.received s.left t rest is on.comes in
    let behind : after.left ≡ rest = left ∙ ap rest_of is in
    record {
      comes =
          subst (λ (l : List Window). Comes message_files l from after.received after.left) (sym dropped_windows)
          (subst (λ (n : ℕ). Comes message_files s.dropped_windows from n after.left) (sym received)
          (subst (λ (l : List Transaction). Comes message_files s.dropped_windows from t.at.0 l) (sym behind) (taken_comes message_files s.dropped_windows from s.received t rest u)));
      later = omega (arith, on.later, received, lies_past message_files s.dropped_windows from s.received t rest u);
    }

-- ---- act by act

on_after : (publisher user : Name) (message_files : List MessageFile) (first : PassState) (act : ReceiveAct) (earlier : List ReceiveAct) → IsAct publisher user message_files (stand_of first earlier) act → IsOn message_files first.received (stand_of first earlier)
    → IsOn message_files first.received (stand_of first (act ∷ earlier))
on_after publisher user message_files first (dropped w pairs piece found) earlier is on = on_dropped_windows message_files first.received (stand_of first earlier) w is.idle is.due.leads on
on_after publisher user message_files first (torn w pairs) earlier is on = on_dropped_windows message_files first.received (stand_of first earlier) w is.0.idle is.0.due.leads on
on_after publisher user message_files first (begun w pairs txs) earlier is on =
    on_begun message_files first.received (stand_of first earlier) w txs is.0.idle is.0.due.whole is.0.due.leads is.1.spell.0 on
on_after publisher user message_files first (took t dones) earlier is on =
    on_taken message_files first.received (stand_of first earlier) (stand_of first (took t dones ∷ earlier)) t is.rest is.left_are refl refl refl on

acts_on : (publisher user : Name) (message_files : List MessageFile) (first : PassState) (acts : List ReceiveAct) → first.left ≡ [] → AreActs publisher user message_files first acts → IsOn message_files first.received (stand_of first acts)
acts_on publisher user message_files first [] idle are = record { comes = idle_comes message_files first.dropped_windows first.received first.received first.left idle start; later = le_refl first.received }
acts_on publisher user message_files first (act ∷ earlier) idle are = on_after publisher user message_files first act earlier are.1 (acts_on publisher user message_files first earlier idle are.0)

-- windows are taken as far as they reach
pub far_taken : (publisher user : Name) (message_files : List MessageFile) (first : PassState) (acts : List ReceiveAct) → first.left ≡ [] → AreActs publisher user message_files first acts → IsAtRest message_files (stand_of first acts)
    → IsFar (IsWholeOf message_files (stand_of first acts).dropped_windows) first.received (stand_of first acts).received
far_taken publisher user message_files first acts idle are rest =
    let s = stand_of first acts in
    let on = acts_on publisher user message_files first acts idle are in
    record {
      reached = idle_reached message_files s.dropped_windows first.received s.received s.left rest.0 on.comes;
      greatest = none_past (IsWholeOf message_files s.dropped_windows) first.received s.received on.later rest.1;
    }
