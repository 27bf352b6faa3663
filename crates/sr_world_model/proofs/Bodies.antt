use Rattle.std.proofs.Common.{◌≡◌, ℕ, ◌<◌, ◌≤◌, List, [], ◌∷◌, refl, subst, inl, inr, arith}
use Rattle.sr_book.specs.Entries.{Name}
use Rattle.sr_book.specs.Histories.{taken_end}
use Rattle.sr_book.specs.Rising.{top, offsets}
use Rattle.sr_world_model.specs.Layers.{Layers}
use Rattle.sr_world_model.specs.Inner.Layers.{Laws}
use Rattle.sr_world_model.specs.Steps.{Comes, HasAllFragments, CanTake}
use Rattle.sr_world_model.specs.Truth.{IsTrueOf}
use Rattle.sr_world_model.specs.Windows.{window, past}
use Rattle.sr_world_model.specs.Worlds.{World, history, IsGood}
use Rattle.sr_world_model.proofs.Offsets.{le_or_lt, past_test, not_past_test}
use Rattle.sr_world_model.proofs.Spelled.{bytes_given, last_given, window_fit}

-- where the last of some transactions lies past an offset, there is a first one past it
some_past : {Ops : Type 0} (r low : ℕ) (txs : List (ℕ × Ops)) → low ≤ r → r < top low (offsets txs) →
    (tx : ℕ × Ops) × (rest : List (ℕ × Ops)) × (past r txs ≡ tx ∷ rest)
some_past r low [] le above = absurd (omega arith)
some_past r low (tx ∷ txs) le above = elim (le_or_lt tx.0 r) [
  | inl seen ↦ let later = some_past r tx.0 txs seen above in (later.0, later.1, rw (not_past_test r tx.0 seen) later.2)
  | inr ahead ↦ (tx, past r txs, rw (past_test r tx.0 ahead) refl)
]

module _ {Entry Ops : Type 0} (p : Layers Entry Ops) (HasSpelling : (ℕ × Ops) → Type 0) (lawful : Name → List Entry →
    Type 0) (w : World Entry) (d user : Name)
    (prev upto : ℕ) (bytes : List ℕ) (good : IsGood p lawful w) (whole : HasAllFragments w.messages user d prev upto bytes) where
  came_true : (came : Comes w.messages user d) → IsTrueOf p user (history w user) came.message
  came_true came = subst (λ name. IsTrueOf p name (history w name) came.message) came.sent_by (good.messages came.message came.among)

  -- a whole window has the bytes of what is given in it
  pub whole_bytes : bytes ≡ p.encode (window prev upto (p.given user d (history w user)))
  whole_bytes = bytes_given p w.messages user d (history w user) prev upto bytes whole came_true

  pub whole_last : top prev (offsets (window prev upto (p.given user d (history w user)))) ≡ upto
  whole_last = last_given p w.messages user d (history w user) prev upto bytes whole came_true

  -- and where it begins no later than was taken, and ends past that, some transaction may be taken from it
  pub whole_taken : Laws p HasSpelling lawful → prev ≤ taken_end p.sees user (history w d) → taken_end p.sees user (history w d) < upto →
      (place : ℕ) × (ops : Ops) × CanTake p HasSpelling w.messages d (history w d) user place ops
  whole_taken laws reached ahead =
      let them : List (ℕ × Ops) = window prev upto (p.given user d (history w user)) in
      let above : taken_end p.sees user (history w d) < top prev (offsets them) = omega (arith, ahead, whole_last) in
      let next = some_past (taken_end p.sees user (history w d)) prev them reached above in (
        next.0.0,
        next.0.1,
        record {
          prev = prev;
          upto = upto;
          transactions = them;
          rest = next.1;
          is_whole = subst (λ body. HasAllFragments w.messages user d prev upto body) whole_bytes whole;
          have_spellings = window_fit p HasSpelling lawful laws user d (history w user) prev upto (good.are_lawful user);
          reached = reached;
          ahead = ahead;
          first = next.2;
        },
      )
