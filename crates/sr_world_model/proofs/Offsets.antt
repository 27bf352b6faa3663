use Rattle.std.proofs.Common.{◌≡◌, ℕ, ◌<◌, ◌≤◌, ◌⊎◌, true, false, ◌&&◌, nat_lt, nat_le, List, [], ◌∷◌, ◌++◌, refl, sym, ap, ◌∙◌, subst, inl, inr}
use Rattle.std.proofs.Common.{arith, append_assoc, append-nil, le_refl}
use Rattle.std.proofs.lemmas.List.Elements.{filter-append}
use Rattle.sr_book.specs.Rising.{Rises, top, offsets}
use Rattle.sr_book.proofs.Offsets.{le-top, Rises-prefix, Rises-back}
use Rattle.sr_world_model.specs.Windows.{window, past}

-- what holds of nothing, and of one more wherever it holds, holds of every list
by_more_on : {A : Type 0} (P : List A → Type 0) → ((xs : List A) (x : A) → P xs → P (xs ++ x ∷ [])) → (done rest : List A) → P done → P (done ++ rest)
by_more_on P more done [] h = subst P (sym (append-nil done)) h
by_more_on P more done (x ∷ rest) h = subst P (append_assoc done (x ∷ []) rest) (by_more_on P more (done ++ x ∷ []) rest (more done x h))

pub by_one_more : {A : Type 0} (P : List A → Type 0) → P [] → ((xs : List A) (x : A) → P xs → P (xs ++ x ∷ [])) → (xs : List A) → P xs
by_one_more P none more xs = by_more_on P more [] xs none

pub le_or_lt : (a b : ℕ) → (a ≤ b) ⊎ (b < a)
le_or_lt a b = grind arith

pub above_test : (prev upto x : ℕ) → upto < x → (nat_lt prev x && nat_le x upto) ≡ false
above_test prev upto x above = grind arith

pub below_test : (prev upto x : ℕ) → x ≤ prev → (nat_lt prev x && nat_le x upto) ≡ false
below_test prev upto x below = grind arith

pub within_test : (prev upto x : ℕ) → prev < x → x ≤ upto → (nat_lt prev x && nat_le x upto) ≡ true
within_test prev upto x above below = grind arith

-- a window ends before what rises above its end
pub window_above : {Ops : Type 0} (prev upto low : ℕ) (txs : List (ℕ × Ops)) → upto ≤ low → Rises low (offsets txs) → window prev upto txs ≡ []
window_above prev upto low [] le rises = refl
window_above prev upto low (tx ∷ txs) le rises =
    let above : upto < tx.0 = omega (arith, rises.0) in
    let le' : upto ≤ tx.0 = omega arith in
    rw (above_test prev upto tx.0 above) (window_above prev upto tx.0 txs le' rises.1)

-- a window begins after what lies at most at its beginning
pub window_below : {Ops : Type 0} (prev upto low : ℕ) (txs : List (ℕ × Ops)) → Rises low (offsets txs) → top low (offsets txs) ≤ prev →
    window prev upto txs ≡ []
window_below prev upto low [] rises le = refl
window_below prev upto low (tx ∷ txs) rises le =
    let on : tx.0 ≤ top tx.0 (offsets txs) = le-top tx.0 (offsets txs) rises.1 in
    let below : tx.0 ≤ prev = omega (arith, le) in
    rw (below_test prev upto tx.0 below) (window_below prev upto tx.0 txs rises.1 le)

pub past_test : (r x : ℕ) → r < x → nat_lt r x ≡ true
past_test r x above = grind arith

pub not_past_test : (r x : ℕ) → x ≤ r → nat_lt r x ≡ false
not_past_test r x below = grind arith

-- what lies past a later offset in a window is the window from there
pub past-window : {Ops : Type 0} (r prev upto : ℕ) (txs : List (ℕ × Ops)) → prev ≤ r → past r (window prev upto txs) ≡ window r upto txs
past-window r prev upto [] le = refl
past-window r prev upto (tx ∷ txs) le =
    elim (le_or_lt tx.0 upto) [
      | inl within ↦ elim (le_or_lt tx.0 r) [
        | inl seen ↦ elim (le_or_lt tx.0 prev) [
          | inl before ↦ rw (below_test prev upto tx.0 before, below_test r upto tx.0 seen) (past-window r prev upto txs le)
          | inr after ↦ rw (within_test prev upto tx.0 after within, below_test r upto tx.0 seen, not_past_test r tx.0 seen) (past-window r prev upto txs le)
        ]
        | inr ahead ↦
            let after : prev < tx.0 = omega arith in
            rw (within_test prev upto tx.0 after within, within_test r upto tx.0 ahead within, past_test r tx.0 ahead)
            (ap (λ rest. tx ∷ rest) (past-window r prev upto txs le))
      ]
      | inr beyond ↦ rw (above_test prev upto tx.0 beyond, above_test r upto tx.0 beyond) (past-window r prev upto txs le)
    ]

-- where the first transactions end at an offset and the others rise above it, the first of a window from there is the first of those
pub window_first : {Ops : Type 0} (r upto : ℕ) (txs : List (ℕ × Ops)) (tx : ℕ × Ops) (rest : List (ℕ × Ops)) →
    Rises r (offsets txs) → window r upto txs ≡ tx ∷ rest → (more : List (ℕ × Ops)) × (txs ≡ tx ∷ more)
window_first r upto [] tx rest rises e = absurd (cc)
window_first r upto (first ∷ txs) tx rest rises e =
    elim (le_or_lt first.0 upto) [
      | inl within ↦
          let shown : first ∷ window r upto txs ≡ tx ∷ rest = rw (within_test r upto first.0 rises.0 within) at e in
          let same : first ≡ tx = cc in
          (txs, ap (λ x. x ∷ txs) same)
      | inr beyond ↦
          let none : window r upto (first ∷ txs) ≡ [] = window_above r upto upto (first ∷ txs) (le_refl upto) (beyond, rises.1) in
          absurd (cc (sym none ∙ e))
    ]

-- what rises is what is done and then the rest: of a window that begins no later than the done ones end, the first past their end is the first of the rest
pub window_next : {Ops : Type 0} (done rest : List (ℕ × Ops)) (prev upto : ℕ) (tx : ℕ × Ops) (others : List (ℕ × Ops)) →
    Rises 0 (offsets done ++ offsets rest) → prev ≤ top 0 (offsets done) →
    past (top 0 (offsets done)) (window prev upto (done ++ rest)) ≡ tx ∷ others → (more : List (ℕ × Ops)) × (rest ≡ tx ∷ more)
window_next done rest prev upto tx others rises reached first =
    let prefix : Rises 0 (offsets done) = Rises-prefix 0 (offsets done) (offsets rest) rises in
    let back : Rises (top 0 (offsets done)) (offsets rest) = Rises-back 0 (offsets done) (offsets rest) rises in
    let none : window (top 0 (offsets done)) upto done ≡ []
    = window_below (top 0 (offsets done)) upto 0 done prefix (le_refl (top 0 (offsets done))) in
    let joined : window (top 0 (offsets done)) upto (done ++ rest) ≡ window (top 0 (offsets done)) upto done ++ window (top 0 (offsets done)) upto rest
    = filter-append _ done rest in
    let at_rest : window (top 0 (offsets done)) upto rest ≡ tx ∷ others
    = ap (λ txs. txs ++ window (top 0 (offsets done)) upto rest) (sym none) ∙ sym joined
    ∙ sym (past-window (top 0 (offsets done)) prev upto (done ++ rest) reached) ∙ first in
    window_first (top 0 (offsets done)) upto rest tx others back at_rest
