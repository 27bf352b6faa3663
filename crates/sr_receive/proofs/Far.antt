-- Windows are taken as far as they reach.
use Rattle.std.proofs.Common.{◌≡◌, ◌⊎◌, ℕ, ◌≤◌, ◌<◌, arith, inl, inr}
use Rattle.std.proofs.lemmas.Bool.{cases_order}
use Rattle.sr_mail.specs.Reaching.{Leads, Reaches, start, goes_on}
use Rattle.sr_mail.specs.declared.window.Window.{Window}

by_order : (W : Window → Type 0) (w : Window) (x far : ℕ) → x ≤ far → W w → Leads w x → ((v : Window) → W v → ¬ (Leads v far)) → (w.upto ≡ far) ⊎ ((w.upto < far) ⊎ (far < w.upto)) → w.upto ≤ far
by_order W w x far le of leads none (inl is) = omega (arith, is)
by_order W w x far le of leads none (inr (inl less)) = omega (arith, less)
by_order W w x far le of leads none (inr (inr more)) = absurd (none w of (record { begins = omega (arith, leads.begins, le); ends = more }))

-- a window that leads on from an offset before one from which none does ends by that one
pub ends_by : (W : Window → Type 0) (w : Window) (x far : ℕ) → x ≤ far → W w → Leads w x → ((v : Window) → W v → ¬ (Leads v far)) → w.upto ≤ far
ends_by W w x far le of leads none = by_order W w x far le of leads none (cases_order w.upto far)

-- where no window of a kind leads on from an offset, none that is reached from one before it lies past it
pub none_past : (W : Window → Type 0) (from far : ℕ) → from ≤ far → ((w : Window) → W w → ¬ (Leads w far)) → (offset : ℕ) → Reaches W from offset → offset ≤ far
none_past W from far le none _ start = le
none_past W from far le none offset (goes_on x w reached of leads) = ends_by W w x far (none_past W from far le none x reached) of leads none
