-- Windows in their order.
use Rattle.std.proofs.Common.{◌≡◌, ℕ, inl, inr, Bool, true, false, ◌&&◌, ◌||◌, ◌==◌, nat_lt, refl, sym, ap, ◌∙◌, arith, subst}
use Rattle.std.proofs.lemmas.Bool.{eqb-true, lt-ltb, ltb-true, and_from, or_right, or_left, or_cases}
use Rattle.sr_mail.specs.declared.window.Window.{Window}
use Rattle.sr_mail.specs.Seen.{ComesBefore, same_window}
use Rattle.sr_mail.specs.Inner.Shelves.{is_before}
use Rattle.sr_mail_cut.proofs.Lists.{three_ways}
use Rattle.sr_base.proofs.Truths.{both_true}

not_true : (b : Bool) → ¬ (b ≡ true) → b ≡ false
not_true true h = absurd (h refl)
not_true false h = refl

clash : (b : Bool) → b ≡ false → b ≡ true → ⊥
clash b e f = let g : false ≡ true = sym e ∙ f in absurd cc

window : ℕ → ℕ → ℕ → Window
window prev upto total = record { prev = prev; upto = upto; total = total }

same_parts : (a b c d m n : ℕ) → a ≡ b → c ≡ d → m ≡ n → window a c m ≡ window b d n
unfolding window
same_parts a b c d m n e f g = rw (e, f, g) refl

-- the test of the order tells it
pub before-is : (w v : Window) → is_before w v ≡ true → ComesBefore w v
before-is w v e = elim (or_cases (nat_lt w.prev v.prev) ((w.prev == v.prev) && (nat_lt w.upto v.upto || ((w.upto == v.upto) && nat_lt w.total v.total))) e) [
  | inl first ↦ inl (ltb-true w.prev v.prev first)
  | inr tie ↦
      let a = both_true (w.prev == v.prev) (nat_lt w.upto v.upto || ((w.upto == v.upto) && nat_lt w.total v.total)) tie in
      elim (or_cases (nat_lt w.upto v.upto) ((w.upto == v.upto) && nat_lt w.total v.total) a.1) [
        | inl second ↦ inr (eqb-true w.prev v.prev a.0, inl (ltb-true w.upto v.upto second))
        | inr tie' ↦
            let b = both_true (w.upto == v.upto) (nat_lt w.total v.total) tie' in
            inr (eqb-true w.prev v.prev a.0, inr (eqb-true w.upto v.upto b.0, ltb-true w.total v.total b.1))
      ]
]

same_number : (a b : ℕ) → a ≡ b → (a == b) ≡ true
same_number a b e = grind arith

pub is-before : (w v : Window) → ComesBefore w v → is_before w v ≡ true
is-before w v (inl first) = or_left (nat_lt w.prev v.prev) ((w.prev == v.prev) && (nat_lt w.upto v.upto || ((w.upto == v.upto) && nat_lt w.total v.total))) (lt-ltb w.prev v.prev first)
is-before w v (inr (e, inl second)) =
    or_right (nat_lt w.prev v.prev) ((w.prev == v.prev) && (nat_lt w.upto v.upto || ((w.upto == v.upto) && nat_lt w.total v.total)))
    (and_from (w.prev == v.prev) (nat_lt w.upto v.upto || ((w.upto == v.upto) && nat_lt w.total v.total)) (same_number w.prev v.prev e)
    (or_left (nat_lt w.upto v.upto) ((w.upto == v.upto) && nat_lt w.total v.total) (lt-ltb w.upto v.upto second)))
is-before w v (inr (e, inr (f, third))) =
    or_right (nat_lt w.prev v.prev) ((w.prev == v.prev) && (nat_lt w.upto v.upto || ((w.upto == v.upto) && nat_lt w.total v.total)))
    (and_from (w.prev == v.prev) (nat_lt w.upto v.upto || ((w.upto == v.upto) && nat_lt w.total v.total)) (same_number w.prev v.prev e)
    (or_right (nat_lt w.upto v.upto) ((w.upto == v.upto) && nat_lt w.total v.total)
    (and_from (w.upto == v.upto) (nat_lt w.total v.total) (same_number w.upto v.upto f) (lt-ltb w.total v.total third))))

pub comes-on : (w v u : Window) → ComesBefore w v → ComesBefore v u → ComesBefore w u
comes-on w v u (inl a) (inl b) = inl (omega arith)
comes-on w v u (inl a) (inr (e, b)) = inl (omega arith)
comes-on w v u (inr (e, a)) (inl b) = inl (omega arith)
comes-on w v u (inr (e, inl a)) (inr (f, inl b)) = inr (e ∙ f, inl (omega arith))
comes-on w v u (inr (e, inl a)) (inr (f, inr (g, b))) = inr (e ∙ f, inl (omega arith))
comes-on w v u (inr (e, inr (h, a))) (inr (f, inl b)) = inr (e ∙ f, inl (omega arith))
comes-on w v u (inr (e, inr (h, a))) (inr (f, inr (g, b))) = inr (e ∙ f, inr (h ∙ g, omega arith))

pub not_itself : (w : Window) → ComesBefore w w → ⊥
not_itself w (inl a) = omega arith
not_itself w (inr (e, inl a)) = omega arith
not_itself w (inr (e, inr (f, a))) = omega arith

pub before-on : (w v u : Window) → is_before w v ≡ true → is_before v u ≡ true → is_before w u ≡ true
before-on w v u a b = is-before w u (comes-on w v u (before-is w v a) (before-is v u b))

pub same-is : (w v : Window) → same_window w v ≡ true → w ≡ v
unfolding window
same-is w v e =
    let a = both_true ((w.prev == v.prev) && (w.upto == v.upto)) (w.total == v.total) e in
    let b = both_true (w.prev == v.prev) (w.upto == v.upto) a.0 in
    same_parts (w.prev) (v.prev) (w.upto) (v.upto) (w.total) (v.total) (eqb-true w.prev v.prev b.0) (eqb-true w.upto v.upto b.1) (eqb-true w.total v.total a.1)

pub is-same : (w v : Window) → w ≡ v → same_window w v ≡ true
is-same w v e =
    and_from ((w.prev == v.prev) && (w.upto == v.upto)) (w.total == v.total)
    (and_from (w.prev == v.prev) (w.upto == v.upto) (same_number w.prev v.prev (ap (λ (x : Window). x.prev) e)) (same_number w.upto v.upto (ap (λ (x : Window). x.upto) e)))
    (same_number w.total v.total (ap (λ (x : Window). x.total) e))

pub not_before_itself : (w v : Window) → w ≡ v → is_before w v ≡ false
not_before_itself w v e = not_true (is_before w v) (λ a. not_itself v (subst (λ (x : Window). ComesBefore x v) e (before-is w v a)))

-- what comes before a window is another one
pub before-other : (w v : Window) → is_before w v ≡ true → same_window w v ≡ false
before-other w v a = not_true (same_window w v) (λ e. not_itself v (subst (λ (x : Window). ComesBefore x v) (same-is w v e) (before-is w v a)))

pub behind-other : (w v : Window) → is_before w v ≡ true → same_window v w ≡ false
behind-other w v a = not_true (same_window v w) (λ e. not_itself v (subst (λ (x : Window). ComesBefore x v) (sym (same-is v w e)) (before-is w v a)))

pub not-behind : (w v : Window) → is_before w v ≡ true → is_before v w ≡ false
not-behind w v a = not_true (is_before v w) (λ b. not_itself w (comes-on w v w (before-is w v a) (before-is v w b)))

-- one of two windows comes before the other, or they are one
pub other-before : (w v : Window) → is_before w v ≡ false → same_window w v ≡ false → is_before v w ≡ true
unfolding window
other-before w v a b = elim (three_ways w.prev v.prev) [
  | inl lt ↦ absurd (clash (is_before w v) a (is-before w v (inl lt)))
  | inr (inr gt) ↦ is-before v w (inl gt)
  | inr (inl e) ↦ elim (three_ways w.upto v.upto) [
    | inl lt ↦ absurd (clash (is_before w v) a (is-before w v (inr (e, inl lt))))
    | inr (inr gt) ↦ is-before v w (inr (sym e, inl gt))
    | inr (inl f) ↦ elim (three_ways w.total v.total) [
      | inl lt ↦ absurd (clash (is_before w v) a (is-before w v (inr (e, inr (f, lt)))))
      | inr (inr gt) ↦ is-before v w (inr (sym e, inr (sym f, gt)))
      | inr (inl g) ↦ absurd (clash (same_window w v) b (is-same w v (same_parts w.prev v.prev w.upto v.upto w.total v.total e f g)))
    ]
  ]
]
