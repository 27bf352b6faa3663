-- Outcomes by cases.
use Rattle.std.proofs.Common.{◌≡◌, Bool, true, false, List, [], ◌∷◌, Option, Some, None, refl}
use Rattle.sr_book.specs.Entries.{Name}
use Rattle.sr_logform.specs.declared.outcome.Clash.{Clash as Why}
use Rattle.sr_logform.specs.declared.outcome.Outcome.{Outcome}
use Rattle.sr_logform.specs.declared.outcome.Outcome.TheVariants.{Clash}
use Rattle.sr_resolve.specs.Judging.{clash_if, clash_unless, where_met}

-- what holds of each clash, and of what comes where there is none, holds of the outcome
module _ (P : Outcome → Type 0) (clashes : (why : Why) → P (Clash why)) where
  pub of_if : (b : Bool) (why : Why) (next : Outcome) → (b ≡ false → P next) → P (clash_if b why next)
  of_if true why next h = clashes why
  of_if false why next h = h refl

  pub of_unless : {A : Type 0} (o : Option A) (why : Why) (next : A → Outcome) → ((x : A) → o ≡ Some x → P (next x)) → P (clash_unless o why next)
  of_unless None why next h = clashes why
  of_unless (Some x) why next h = h x refl

pub of_met : (P : Outcome → Type 0) (names : List Name) (met conflict : Outcome) → P met → P conflict → P (where_met names met conflict)
of_met P [] met conflict m c = m
of_met P (name ∷ names) met conflict m c = c
