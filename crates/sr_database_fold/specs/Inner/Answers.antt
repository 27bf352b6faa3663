-- What is answered to the question whether something fits, and what is left behind.
use Rattle.std.specs.Prelude.{◌≡◌, Bool, true, false}
use Rattle.sr_database_history.specs.Folds.{State}

-- it fits, and this came of it; or it does not fit
abbrev pub Tells : Type 0 → Type 0 → Bool → Type 0
Tells fits became true = fits × became
Tells fits became false = ¬ fits

-- of all that it may be taken to mean, one fits, and this is the state that this one leaves; or none fits
abbrev pub TellsOne : {Meaning : Type 0} → (Meaning → Type 0) → (Meaning → State) → State → Bool → Type 0
TellsOne {Meaning} Fits leaves after true = (meant : Meaning) × Fits meant × (after ≡ leaves meant)
TellsOne {Meaning} Fits leaves after false = (meant : Meaning) → ¬ (Fits meant)
