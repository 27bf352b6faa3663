-- What holds of a run's site, whatever its words ask for: it is enough that it does of a run that changes nothing, of the agent, and of a script.
use Rattle.std.proofs.Common.{◌≡◌, ℕ, [], Option, Some, None, refl, sym, subst, inl, inr, le_refl}
use Rattle.std.specs.Prelude.{IsTrue}
use Rattle.sr_site.specs.Causes.{DiskStays, Stays}
use Rattle.sr_site.specs.Images.{IsImage, IsSettled, RestsThroughout}
use Rattle.sr_site.specs.Seen.{Seen}
use Rattle.dbremote_command.proofs.Cases.{Holds, order_holds}
use Rattle.dbremote_command.specs.Complete.{AreDatabase}
use Rattle.dbremote_command.specs.Outside.{Outside}
use Rattle.dbremote_run.specs.Runs.{RanProgram, RanAsked}
use Rattle.dbremote_words.specs.declared.asked.Asked.{Asked}
use Rattle.dbremote_words.specs.declared.asked.Asked.TheVariants as asked

-- nothing happened
still_here : (seen : Seen) → RestsThroughout (IsImage seen) seen seen
still_here seen = record { more = []; is = refl; moments = λ image there. there }

quiet_here : (seen : Seen) → DiskStays seen seen
quiet_here seen = record { observable = refl; first = refl; grows = λ moment there. there; mail = refl; mail_faults = refl; later = le_refl seen.disk_faults }

module _ (old new : Outside) (told : IsTrue old.site.observable) (stays : Stays old.site new.site) (read : IsImage old.site old.site.files) (stood : IsSettled AreDatabase old.site) (P : Seen → Type 0) (holds : Holds old.site P) where
  at_once : new.site ≡ old.site → P new.site
  at_once same = subst P (sym same) (holds.still old.site (still_here old.site) (quiet_here old.site))

  asked_holds : (wanted : Asked) (status : ℕ) → RanAsked wanted old new status → P new.site
  asked_holds (asked.Order order) status ran = order_holds old new told stays read stood P holds order status ran
  asked_holds (asked.Demo seed statements) status ran = at_once ran.site

  pub run_holds : (wanted : Option Asked) (status : ℕ) → RanProgram wanted old new status → P new.site
  run_holds None status (inl refused) = at_once refused.site
  run_holds None status (inr want) = at_once want.site
  run_holds (Some wanted) status (inl ran) = asked_holds wanted status ran
  run_holds (Some wanted) status (inr want) = at_once want.site
