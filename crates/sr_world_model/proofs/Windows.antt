use Rattle.std.proofs.Common.{All, ◌≡◌, ℕ, ◌<◌, ◌≤◌, List, [], ◌∷◌, ◌++◌, map, refl, sym, ap, ◌∙◌, inl, inr, arith}
use Rattle.sr_book.specs.Entries.{Name, from_user, takes}
use Rattle.sr_book.specs.Histories.{taken, taken_end}
use Rattle.sr_book.specs.Rising.{Rises, top, offsets}
use Rattle.sr_book.proofs.Offsets.{le-top, top-append, offsets-append}
use Rattle.sr_book.proofs.Folds.{same_name, taken_more}
use Rattle.sr_msgform.specs.declared.message.Message.{Message}
use Rattle.sr_world_model.specs.Layers.{Layers}
use Rattle.sr_world_model.specs.Windows.{past}
use Rattle.sr_world_model.specs.Steps.{HasAllFragments, CanTake, CanDoAll, append}
use Rattle.sr_world_model.specs.Inner.Steps.{Take, AreLawfulAfter}
use Rattle.sr_world_model.proofs.Offsets.{le_or_lt, past_test, not_past_test}

-- all lies past an offset that it rises above
past_all : {Ops : Type 0} (r low : ℕ) (txs : List (ℕ × Ops)) → r ≤ low → Rises low (offsets txs) → past r txs ≡ txs
past_all r low [] le rises = refl
past_all r low (tx ∷ txs) le rises =
    rw (past_test r tx.0 (omega (arith, rises.0))) (ap (λ more. tx ∷ more) (past_all r tx.0 txs (omega (arith, rises.0)) rises.1))

-- the first past an offset lies past it, within the window, and the others lie past the first
past_first : {Ops : Type 0} (r low upto : ℕ) (txs : List (ℕ × Ops)) (tx : ℕ × Ops) (more : List (ℕ × Ops)) → Rises low (offsets txs) →
    top low (offsets txs) ≤ upto → past r txs ≡ tx ∷ more → (r < tx.0) × (tx.0 ≤ upto) × (past tx.0 txs ≡ more)
past_first r low upto [] tx more rises within e = absurd (cc)
past_first r low upto (first ∷ txs) tx more rises within e =
    elim (le_or_lt first.0 r) [
      | inl seen ↦
          let e' : past r txs ≡ tx ∷ more = rw (not_past_test r first.0 seen) at e in
          let later = past_first r first.0 upto txs tx more rises.1 within e' in
          (later.0, later.1, rw (not_past_test tx.0 first.0 (omega (arith, later.0))) later.2)
      | inr ahead ↦
          let e' : first ∷ past r txs ≡ tx ∷ more = rw (past_test r first.0 ahead) at e in
          let one : first ≡ tx = cc in
          let rest : past r txs ≡ more = cc in
          let same : first.0 ≡ tx.0 = ap (λ x. x.0) one in
          let last : first.0 ≤ top first.0 (offsets txs) = le-top first.0 (offsets txs) rises.1 in (
            omega (arith, ahead, same),
            omega (arith, within, last, same),
            rw (not_past_test tx.0 first.0 (omega (arith, same)))
                (past_all tx.0 first.0 txs (omega (arith, same)) rises.1
                ∙ sym (past_all r first.0 txs (omega (arith, ahead)) rises.1) ∙ rest),
          )
    ]

-- entries that take transactions took just these
pub taken_of_takes : {Entry Ops : Type 0} (p : Layers Entry Ops) (user : Name) (txs : List (ℕ × Ops)) (new : List Entry) →
    Take p user txs new → taken p.sees user new ≡ txs
taken_of_takes p user [] [] take = refl
taken_of_takes p user [] (e ∷ new) take = absurd (cc)
taken_of_takes p user (tx ∷ txs) [] take = absurd (cc)
taken_of_takes p user (tx ∷ txs) (e ∷ new) take =
    let sees : p.sees e ≡ from_user user tx.0 tx.1 = cc in
    let take' : Take p user txs new = cc in
    rw (sees, same_name user) (ap (λ more. tx ∷ more) (taken_of_takes p user txs new take'))

module _ {Entry Ops : Type 0} (p : Layers Entry Ops) (HasSpelling : (ℕ × Ops) → Type 0)
    (lawful : Name → List Entry → Type 0) (messages : List Message) (d user : Name) (prev upto : ℕ) (txs : List (ℕ × Ops))
    (whole : HasAllFragments messages user d prev upto (p.encode txs)) (fit : All HasSpelling txs) (rises : Rises prev (offsets txs))
    (within : top prev (offsets txs) ≤ upto) where
  -- a window taken to its end is a list of takes, each allowed
  pub window_takes : (es new : List Entry) (more : List (ℕ × Ops)) → prev ≤ taken_end p.sees user es → past (taken_end p.sees user es) txs ≡ more →
      Take p user more new → AreLawfulAfter lawful d es new → CanDoAll p HasSpelling lawful messages d es (map append new)
  window_takes es [] more reached is take keeps = tt
  window_takes es (e ∷ new) [] reached is take keeps = absurd (cc)
  window_takes es (e ∷ new) (tx ∷ more) reached is take keeps =
      let sees : p.sees e ≡ from_user user tx.0 tx.1 = cc in
      let take' : Take p user more new = cc in
      let first = past_first (taken_end p.sees user es) prev upto txs tx more rises within is in
      let can : CanTake p HasSpelling messages d es user tx.0 tx.1 = record {
        prev = prev;
        upto = upto;
        transactions = txs;
        rest = more;
        is_whole = whole;
        have_spellings = fit;
        reached = reached;
        ahead = omega (arith, first.0, first.1);
        first = is;
      } in
      let takes_it : takes user (p.sees e) ≡ tx ∷ [] = rw (sees, same_name user) refl in
      let end : taken_end p.sees user (es ++ e ∷ []) ≡ tx.0
      = ap (λ them. top 0 (offsets them)) (taken_more p.sees user es e ∙ ap (λ them. taken p.sees user es ++ them) takes_it)
      ∙ ap (top 0) (offsets-append (taken p.sees user es) (tx ∷ [])) ∙ top-append 0 (offsets (taken p.sees user es)) (tx.0 ∷ []) in (
        (rw sees can, keeps.0),
        window_takes (es ++ e ∷ []) new more (omega (arith, reached, first.0, end)) (rw end first.2) take' keeps.1,
      )
