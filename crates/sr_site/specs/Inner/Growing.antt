-- What happened grows step by step.
use Rattle.std.specs.Prelude.{◌≡◌, List, [], ◌∷◌, ◌++◌}
use Rattle.std.proofs.Common.{refl, ap, sym, subst, inl, inr, ◌∙◌, arith}
use Rattle.sr_site.specs.Causes.{Stays, DiskStays, MailStays}
use Rattle.sr_site.specs.Seen.{Seen}
use Rattle.sr_site.specs.Happenings.{Happening, IsMoment, Grows, Throughout}

-- all of it is a moment
pub all_of_it : (before : List Happening) → IsMoment before before
all_of_it [] = refl
all_of_it (step ∷ before) = inl refl

pub grows_by : (before now : List Happening) (step : Happening) → now ≡ step ∷ before → Grows before now
grows_by before now step is = subst (λ (l : List Happening). Grows before l) (sym is) (λ moment there. inr there)

pub grows_same : (before now : List Happening) → now ≡ before → Grows before now
grows_same before now is = subst (λ (l : List Happening). Grows before l) (sym is) (λ moment there. there)

-- a moment is what stood before some more happened
pub more_than : (moment now : List Happening) → IsMoment moment now → (more : List Happening) × (now ≡ more ++ moment)
more_than moment [] is = ([], sym is)
more_than moment (step ∷ before) (inl is) = ([], sym is)
more_than moment (step ∷ before) (inr there) =
    let rest = more_than moment before there in
    (step ∷ rest.0, ap (λ (l : List Happening). step ∷ l) rest.1)

-- what two calls leave, one after the other
pub stays_on : (old middle new : Seen) → Stays old middle → Stays middle new → Stays old new
stays_on old middle new first second =
    record {
      observable = second.observable ∙ first.observable;
      first = second.first ∙ first.first;
      grows = λ moment there. second.grows moment (first.grows moment there);
      disk = omega arith;
      mail = omega arith;
    }

-- what two calls of the disk leave
pub disk_stays_on : (old middle new : Seen) → DiskStays old middle → DiskStays middle new → DiskStays old new
disk_stays_on old middle new first second =
    record {
      observable = second.observable ∙ first.observable;
      first = second.first ∙ first.first;
      grows = λ moment there. second.grows moment (first.grows moment there);
      mail = second.mail ∙ first.mail;
      mail_faults = second.mail_faults ∙ first.mail_faults;
      later = omega arith;
    }

-- what two calls of the mail leave
pub mail_stays_on : (old middle new : Seen) → MailStays old middle → MailStays middle new → MailStays old new
mail_stays_on old middle new first second =
    record {
      observable = second.observable ∙ first.observable;
      first = second.first ∙ first.first;
      files = second.files ∙ first.files;
      grows = λ moment there. second.grows moment (first.grows moment there);
      disk_faults = second.disk_faults ∙ first.disk_faults;
      later = omega arith;
    }

-- what holds at each moment, where it follows from what does
pub throughout_each : (P Q : List Happening → Type 0) → ((moment : List Happening) → P moment → Q moment) → (before more : List Happening) → Throughout P before more → Throughout Q before more
throughout_each P Q each before [] holds = each before holds
throughout_each P Q each before (step ∷ more) holds = (each (step ∷ more ++ before) holds.0, throughout_each P Q each before more holds.1)
