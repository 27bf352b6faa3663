use Rattle.std.proofs.Common.{◌≡◌, ℕ, ◌<◌, ◌≤◌, ◌⊎◌, List, [], ◌∷◌, ◌++◌, refl, sym, ap, ap₂, ◌∙◌, subst, inl, inr, arith, le_refl}
use Rattle.sr_book.specs.Entries.{Name}
use Rattle.sr_book.specs.Rising.{Rises, top, offsets}
use Rattle.sr_book.proofs.Offsets.{le-top}
use Rattle.sr_world_model.specs.Layers.{Layers}
use Rattle.sr_world_model.specs.Inner.Layers.{Laws}
use Rattle.sr_world_model.specs.Steps.{Chain, Covers}
use Rattle.sr_world_model.specs.Windows.{window}
use Rattle.sr_world_model.specs.Worlds.{World, history, IsGood}
use Rattle.sr_world_model.proofs.Offsets.{le_or_lt, above_test, below_test, within_test, window_above}
use Rattle.sr_world_model.proofs.Longer.{given_in}
use Rattle.sr_world_model.proofs.Bodies.{whole_bytes, whole_last}

-- a window that ends where it begins has nothing
window_none : {Ops : Type 0} (at : ℕ) (txs : List (ℕ × Ops)) → window at at txs ≡ []
window_none at [] = refl
window_none at (tx ∷ txs) = elim (le_or_lt tx.0 at) [
  | inl before ↦ rw (below_test at at tx.0 before) (window_none at txs)
  | inr after ↦ rw (above_test at at tx.0 after) (window_none at txs)
]

-- of what rises above an offset a window from there has what one from before it has
window_later : {Ops : Type 0} (prev mid upto low : ℕ) (txs : List (ℕ × Ops)) → prev ≤ mid → mid ≤ low → Rises low (offsets txs) →
    window mid upto txs ≡ window prev upto txs
window_later prev mid upto low [] le above rises = refl
window_later prev mid upto low (tx ∷ txs) le above rises =
    let after : mid < tx.0 = omega (arith, rises.0) in
    let after' : prev < tx.0 = omega arith in
    let rest : window mid upto txs ≡ window prev upto txs = window_later prev mid upto tx.0 txs le (omega arith) rises.1 in
    elim (le_or_lt tx.0 upto) [
      | inl within ↦ rw (within_test mid upto tx.0 after within, within_test prev upto tx.0 after' within) (ap (λ them. tx ∷ them) rest)
      | inr beyond ↦ rw (above_test mid upto tx.0 beyond, above_test prev upto tx.0 beyond) rest
    ]

-- two windows of what rises, one after the other, are one
window_joined : {Ops : Type 0} (prev mid upto low : ℕ) (txs : List (ℕ × Ops)) → prev ≤ mid → mid ≤ upto → Rises low (offsets txs) →
    window prev mid txs ++ window mid upto txs ≡ window prev upto txs
window_joined prev mid upto low [] le le' rises = refl
window_joined prev mid upto low (tx ∷ txs) le le' rises = elim (le_or_lt tx.0 mid) [
  | inl within ↦
      let rest : window prev mid txs ++ window mid upto txs ≡ window prev upto txs = window_joined prev mid upto tx.0 txs le le' rises.1 in
      elim (le_or_lt tx.0 prev) [
        | inl before ↦ rw (below_test prev mid tx.0 before, below_test mid upto tx.0 within, below_test prev upto tx.0 before) rest
        | inr after ↦
            rw (within_test prev mid tx.0 after within, below_test mid upto tx.0 within, within_test prev upto tx.0 after (omega arith))
            (ap (λ them. tx ∷ them) rest)
      ]
  | inr beyond ↦
      let none : window prev mid (tx ∷ txs) ≡ [] = window_above prev mid mid (tx ∷ txs) (le_refl mid) (beyond, rises.1) in
      ap (λ them. them ++ window mid upto (tx ∷ txs)) none ∙ window_later prev mid upto mid (tx ∷ txs) le (le_refl mid) (beyond, rises.1)
]

-- a window of what rises has rising offsets past its beginning
window_rises : {Ops : Type 0} (prev upto low base : ℕ) (txs : List (ℕ × Ops)) → (base ≤ low) ⊎ (base ≤ prev) → Rises low (offsets txs) →
    Rises base (offsets (window prev upto txs))
window_rises prev upto low base [] under rises = tt
window_rises prev upto low base (tx ∷ txs) under rises =
    let under' : (base ≤ tx.0) ⊎ (base ≤ prev) = elim under [ inl low' ↦ inl (omega (arith, rises.0)) | inr first ↦ inr first ] in
    elim (le_or_lt tx.0 upto) [
      | inl within ↦ elim (le_or_lt tx.0 prev) [
        | inl before ↦ rw (below_test prev upto tx.0 before) (window_rises prev upto tx.0 base txs under' rises.1)
        | inr after ↦
            let past : base < tx.0 = elim under [ inl low' ↦ omega (arith, rises.0) | inr first ↦ omega arith ] in
            rw (within_test prev upto tx.0 after within) (past, window_rises prev upto tx.0 tx.0 txs (inl (le_refl tx.0)) rises.1)
      ]
      | inr beyond ↦ rw (above_test prev upto tx.0 beyond) (window_rises prev upto tx.0 base txs under' rises.1)
    ]

module _ {Entry Ops : Type 0} (p : Layers Entry Ops) (HasSpelling : (ℕ × Ops) → Type 0) (lawful : Name → List Entry →
    Type 0) (laws : Laws p HasSpelling lawful) (w : World Entry) (d user : Name)
    (good : IsGood p lawful w) where
  rising : Rises 0 (offsets (p.given d user (history w d)))
  rising = (given_in p HasSpelling lawful laws d user (history w d)).0

  -- the windows of a chain lead forward
  chain_le : (prev upto : ℕ) (windows : List (ℕ × List ℕ)) → Chain w.messages d user prev upto windows → prev ≤ upto
  chain_le prev upto [] chain = omega (arith, chain)
  chain_le prev upto (next ∷ windows) chain =
      let last = whole_last p HasSpelling lawful w user d prev next.0 next.1 good chain.0 in
      let up : prev ≤ top prev (offsets (window prev next.0 (p.given d user (history w d))))
      = le-top prev (offsets (window prev next.0 (p.given d user (history w d))))
      (window_rises prev next.0 0 prev (p.given d user (history w d)) (inr (le_refl prev)) rising) in
      omega (arith, last, up, chain_le next.0 upto windows chain.1)

  -- and have all that is given between its ends
  pub chain_covers : (prev upto : ℕ) (windows : List (ℕ × List ℕ)) → Chain w.messages d user prev upto windows →
      Covers p windows (window prev upto (p.given d user (history w d)))
  chain_covers prev upto [] chain = record {
    lists = [];
    bodies = refl;
    joined = sym (subst (λ end. window prev end (p.given d user (history w d)) ≡ []) chain (window_none prev (p.given d user (history w d))));
  }
  chain_covers prev upto (next ∷ windows) chain =
      let given : List (ℕ × Ops) = p.given d user (history w d) in
      let later = chain_covers next.0 upto windows chain.1 in
      let last = whole_last p HasSpelling lawful w user d prev next.0 next.1 good chain.0 in
      let up : prev ≤ top prev (offsets (window prev next.0 given))
      = le-top prev (offsets (window prev next.0 given)) (window_rises prev next.0 0 prev given (inr (le_refl prev)) rising) in
      record {
        lists = window prev next.0 given ∷ later.lists;
        bodies = ap₂ (λ body them. body ∷ them) (sym (whole_bytes p HasSpelling lawful w user d prev next.0 next.1 good chain.0)) later.bodies;
        joined = ap (λ them. window prev next.0 given ++ them) later.joined
            ∙ window_joined prev next.0 upto 0 given (omega (arith, last, up)) (chain_le next.0 upto windows chain.1) rising;
      }
