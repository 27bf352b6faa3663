-- What a run keeps of the partners of a database, of what it puts, of what is decided, of what its history says, and of the steps that it makes.
use Rattle.std.proofs.Common.{ℕ, List, Option}
use Rattle.std.specs.Prelude.{IsTrue}
use Rattle.sr_book.specs.Entries.{Name}
use Rattle.sr_database_history.specs.Fitting.{Stored}
use Rattle.sr_database_history.specs.Recorded.{Recorded}
use Rattle.sr_world_model.specs.Truth.{IsTrueOf}
use Rattle.sr_world_model.specs.Worlds.{World, history}
use Rattle.sr_msgform.specs.declared.message.Message.{Message}
use Rattle.sr_site.specs.Causes.{Stays}
use Rattle.sr_site.specs.Images.{IsImage, IsSettled, RestsThroughout}
use Rattle.sr_site.specs.Seen.{Seen}
use Rattle.sr_world.specs.Real.{layers}
use Rattle.sr_world_prefix.specs.Decided.{KeepsDecided, StandDecided}
use Rattle.sr_world_prefix.specs.Forging.{NoneForged}
use Rattle.sr_world_prefix.specs.Good.{KeepsGood, StandGood}
use Rattle.sr_world_prefix.specs.Keeping.{KeepsPartner}
use Rattle.sr_world_prefix.specs.Partners.{StandInStep}
use Rattle.sr_world_prefix.specs.Puts.{BacksPuts, PutsTrue}
use Rattle.sr_world_prefix.specs.Truths.{IsTrueInPart}
use Rattle.sr_world_runs.specs.Worlds.{AllKnown, IsFaithfulThroughout, MakesSteps}
use Rattle.sr_world_runs.proofs.AgentSteps.{agent_steps}
use Rattle.sr_world_prefix.proofs.Deciders.{agent_decided, script_decided, untouched_decided}
use Rattle.sr_world_prefix.proofs.Goodness.{agent_good, script_good, untouched_good}
use Rattle.sr_world_prefix.proofs.Opened.{agent_kept, script_run_kept, untouched_kept}
use Rattle.sr_world_prefix.proofs.Silent.{agent_true, script_true, untouched_true}
use Rattle.sr_world_runs.proofs.WorldSteps.{script_steps, untouched_steps}
use Rattle.dbremote_command.specs.Complete.{AreDatabase}
use Rattle.dbremote_command.specs.Outside.{Outside}
use Rattle.dbremote_command.proofs.Cases.{rested_database}
use Rattle.dbremote_run.specs.Runs.{RanProgram}
use Rattle.dbremote_run.proofs.Cases.{run_holds}
use Rattle.dbremote_words.specs.declared.asked.Asked.{Asked}

pub partners_kept : (wanted : Option Asked) (old new : Outside) (status : ℕ) → RanProgram wanted old new status → Stays old.site new.site → IsImage old.site old.site.files → (publisher user : Name) (us : List Recorded)
    → IsTrue old.site.observable → Stored user us → KeepsPartner publisher user us old.site new.site
partners_kept wanted old new status ran stays read publisher user us told stored settled =
    run_holds old new told stays read (λ image there. let stood = settled image there in record { publisher = publisher; es = stood.es; stand = stood.stands })
    (λ (s : Seen). NoneForged publisher user us old.site s → RestsThroughout (StandInStep publisher user us) old.site s)
    (record {
      still = λ now still quiet. untouched_kept publisher user us old.site now still settled;
      agent = λ owner es options view view' opened now written written' result on still quiet database did.
          agent_kept publisher user owner es us options view view' old.site opened now written written' result told on still database stored did settled;
      script = λ owner es view view' opened now written written' statements result on still quiet database did.
          script_run_kept publisher user owner es us view view' old.site opened now written written' statements result told on still database did settled;
    }) wanted status ran

puts_hold : (Holds : Name → List Recorded → Message → Type 0) (wanted : Option Asked) (old new : Outside) (status : ℕ) → RanProgram wanted old new status → Stays old.site new.site → IsImage old.site old.site.files → (publisher : Name)
    → IsTrue old.site.observable → IsSettled AreDatabase old.site → ((now : Seen) → PutsTrue publisher old.site now → BacksPuts Holds publisher old.site now) → BacksPuts Holds publisher old.site new.site
puts_hold Holds wanted old new status ran stays read publisher told stood kept =
    run_holds old new told stays read stood (λ (s : Seen). BacksPuts Holds publisher old.site s)
    (record {
      still = λ now still quiet. kept now (untouched_true publisher old.site now still quiet);
      agent = λ owner es options view view' opened now written written' result on still quiet database did.
          kept now (agent_true publisher owner es options view view' old.site opened now written written' result told on still quiet database did);
      script = λ owner es view view' opened now written written' statements result on still quiet database did.
          kept now (script_true publisher owner es view view' old.site opened now written written' statements result told on still quiet database did);
    }) wanted status ran

pub puts_true : (wanted : Option Asked) (old new : Outside) (status : ℕ) → RanProgram wanted old new status → Stays old.site new.site → IsImage old.site old.site.files → (publisher : Name) → IsTrue old.site.observable → PutsTrue publisher old.site new.site
puts_true wanted old new status ran stays read publisher told = record {
  whole = λ settled.
      puts_hold (IsTrueOf layers) wanted old new status ran stays read publisher told
      (λ image there. let stood = settled image there in record { publisher = publisher; es = stood.es; stand = record { base = stood.stands.base; stands = stood.stands.stands } })
      (λ now puts. puts.whole settled);
  in_part = λ settled.
      puts_hold IsTrueInPart wanted old new status ran stays read publisher told
      (λ image there. let stood = settled image there in record { publisher = publisher; es = stood.es; stand = record { base = stood.base; stands = stood.stands } })
      (λ now puts. puts.in_part settled);
}

pub decided_kept : (wanted : Option Asked) (old new : Outside) (status : ℕ) → RanProgram wanted old new status → Stays old.site new.site → IsImage old.site old.site.files → (publisher : Name) → IsTrue old.site.observable
    → KeepsDecided publisher old.site new.site
decided_kept wanted old new status ran stays read publisher told settled =
    run_holds old new told stays read (λ image there. let stood = settled image there in record { publisher = publisher; es = stood.es; stand = stood.stands }) (λ (s : Seen). RestsThroughout (StandDecided publisher) old.site s)
    (record {
      still = λ now still quiet. untouched_decided publisher old.site now still settled;
      agent = λ owner es options view view' opened now written written' result on still quiet database did.
          agent_decided publisher owner es options view view' old.site opened now written written' result told on still database did settled;
      script = λ owner es view view' opened now written written' statements result on still quiet database did.
          script_decided publisher owner es view view' old.site opened now written written' statements result told on still database did settled;
    }) wanted status ran

pub good_kept : (wanted : Option Asked) (old new : Outside) (status : ℕ) → RanProgram wanted old new status → Stays old.site new.site → IsImage old.site old.site.files → (publisher : Name) → IsTrue old.site.observable
    → KeepsGood publisher old.site new.site
good_kept wanted old new status ran stays read publisher told settled =
    run_holds old new told stays read
    (λ image there. let stood = settled image there in record { publisher = publisher; es = stood.es; stand = record { base = stood.stands.base; stands = stood.stands.stands } }) (λ (s : Seen). RestsThroughout (StandGood publisher) old.site s)
    (record {
      still = λ now still quiet. untouched_good publisher old.site now still settled;
      agent = λ owner es options view view' opened now written written' result on still quiet database did.
          agent_good publisher owner es options view view' old.site opened now written written' result told on still database did settled;
      script = λ owner es view view' opened now written written' statements result on still quiet database did.
          script_good publisher owner es view view' old.site opened now written written' statements result told on still database did settled;
    }) wanted status ran

pub steps_made : (wanted : Option Asked) (old new : Outside) (status : ℕ) → RanProgram wanted old new status → Stays old.site new.site → IsImage old.site old.site.files → (w : World Recorded) (publisher : Name) → IsTrue old.site.observable
    → MakesSteps w publisher old.site new.site
steps_made wanted old new status ran stays read w publisher told good named rested =
    run_holds old new told stays read (rested_database w.messages publisher (history w publisher) old.site rested)
    (λ (s : Seen). AllKnown w.messages publisher old.site s → IsFaithfulThroughout w publisher old.site s)
    (record {
      still = λ now still quiet. untouched_steps w publisher old.site now still quiet good named rested;
      agent = λ owner es options view view' opened now written written' result on still quiet database did.
          agent_steps w publisher owner es options view view' old.site opened now written written' result told on still quiet database did good named rested;
      script = λ owner es view view' opened now written written' statements result on still quiet database did.
          script_steps w publisher owner es view view' old.site opened now written written' statements result told on still quiet database did good named rested;
    }) wanted status ran
