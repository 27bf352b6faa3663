-- How far windows reach.
use Rattle.std.proofs.Common.{ℕ, ◌≤◌, ◌⊎◌, inl, inr, arith}
use Rattle.std.proofs.lemmas.Bool.{cases_lt}
use Rattle.sr_mail.specs.declared.window.Window.{Window}
use Rattle.sr_mail.specs.Reaching.{Leads, Reaches, start, goes_on, IsFar}

module _ (W : Window → Type 0) where
  reaches_on : (x y z : ℕ) → Reaches W x y → Reaches W y z → Reaches W x z
  reaches_on x y _ r start = r
  reaches_on x y _ r (goes_on z w s is leads) = goes_on z w (reaches_on x y z r s) is leads

  -- what is reached from an offset is reached from a later one, or lies before it
  from_later : (x y : ℕ) → x ≤ y → (z : ℕ) → Reaches W x z → (z ≤ y) ⊎ Reaches W y z
  from_later x y le _ start = inl le
  from_later x y le _ (goes_on z w s is leads) = elim (from_later x y le z s) [
    | inl low ↦ elim (cases_lt y w.upto) [
      | inl past ↦ inr (goes_on y w start is (record { begins = omega (arith, leads.begins); ends = past }))
      | inr within ↦ inl within
    ]
    | inr more ↦ inr (goes_on z w more is leads)
  ]

  stays : (from : ℕ) → ((w : Window) → W w → Leads w from → ⊥) → (z : ℕ) → Reaches W from z → z ≤ from
  stays from none _ start = omega arith
  stays from none _ (goes_on z w s is leads) =
      let low : z ≤ from = stays from none z s in
      elim (cases_lt from w.upto) [
        | inl past ↦ absurd (none w is (record { begins = omega (arith, leads.begins); ends = past }))
        | inr within ↦ within
      ]

  pub far_here : (from : ℕ) → ((w : Window) → W w → Leads w from → ⊥) → IsFar W from from
  far_here from none = record { reached = start; greatest = stays from none }

  pub far_on : (from far : ℕ) (w : Window) → W w → Leads w from → IsFar W w.upto far → IsFar W from far
  far_on from far w is leads further = record {
    reached = reaches_on from w.upto far (goes_on from w start is leads) further.reached;
    greatest = λ z r. elim (from_later from w.upto (omega (arith, leads.ends)) z r) [
      | inl low ↦ omega (arith, further.greatest w.upto start)
      | inr more ↦ further.greatest z more
    ];
  }
