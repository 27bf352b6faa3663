-- How a run of the agent ends, from how its steps do.
use Rattle.std.proofs.Common.{◌≡◌, Bool, true, false, List, ◌∷◌, ◌++◌, ℕ, Ok, Err, refl, ◌∙◌, inl, inr, arith}
use Rattle.std.specs.Prelude.{Result}
use Rattle.sr_agent.proofs.Restarted.{stop_attaches}
use Rattle.sr_agent.specs.Agents.{Did, DidWhere, RanAgent}
use Rattle.sr_agent.specs.Lines.{Line}
use Rattle.sr_agent.specs.Runs.{trace_of}
use Rattle.sr_agent.specs.declared.fault.AgentFault.{AgentFault}
use Rattle.sr_agent.specs.declared.options.Options.{Options}
use Rattle.sr_book.specs.Entries.{Name}
use Rattle.sr_database.specs.Views.{View}
use Rattle.sr_database_files.specs.declared.fault.DatabaseFault.{DatabaseFault}
use Rattle.sr_database_history.specs.Recorded.{Recorded}
use Rattle.sr_site.specs.Causes.{DiskStays, Stays}
use Rattle.sr_site.specs.Happenings.{attached}
use Rattle.sr_site.specs.Inner.Growing.{stays_on}
use Rattle.sr_site.specs.Seen.{Seen}
use Rattle.sr_site.specs.Streams.{Input, Output}
use Rattle.sr_database_meaning.specs.Events.{attaches_in}
use Rattle.sr_database_meaning.proofs.Going.{told_attaches}
use Rattle.dbremote_command.specs.Agents.{AgentStopped, unopened, stopped}
use Rattle.dbremote_command.specs.Faults.{fault_of_agent}
use Rattle.dbremote_command.specs.Outside.{outside, IsAttachTried, IsAttachTriedForHistory}
use Rattle.dbremote_command.specs.Running.{IsOpened, IsUntouched, OpenedCause}
use Rattle.dbremote_command.specs.declared.fault.Fault.{Fault}
use Rattle.dbremote_command.specs.declared.fault.Fault.TheVariants.{Database}
use Rattle.dbremote_command.proofs.Opened.{told_on}

-- ---- the site

-- what a call of the disk leaves is what every call does
pub of_disk : (before now : Seen) → DiskStays before now → Stays before now
of_disk before now stays = record { observable = stays.observable; first = stays.first; grows = stays.grows; disk = stays.later; mail = omega (arith, stays.mail_faults) }

-- the agent attaches nothing
did_attach : (base : ℕ) (new : View) (before now : Seen) (written written' : Output) (publisher : Name) (es : List Recorded) (options : Options) (lines : List Line) (result : Result ℕ AgentFault)
    → Did base new before now written written' publisher es options lines result → attaches_in now.happened ≡ attaches_in before.happened
did_attach base new before now written written' publisher es options lines (Ok count) did = told_attaches before now publisher es (trace_of publisher es did.run) did.came.went
did_attach base new before now written written' publisher es options lines (Err fault) did = told_attaches before now publisher es (trace_of publisher es did.run ++ did.events) did.went

-- nor does the restart of its log
all_attach : (b : Bool) (old new : View) (before now : Seen) (written written' : Output) (publisher : Name) (es : List Recorded) (options : Options) (lines : List Line) (result : Result ℕ AgentFault)
    → DidWhere b old new before now written written' publisher es options lines result → attaches_in now.happened ≡ attaches_in before.happened
all_attach false old new before now written written' publisher es options lines result did = did_attach old.log.base new before now written written' publisher es options lines result did
all_attach true old new before now written written' publisher es options lines (Ok count) did =
    did_attach did.between.log.base new did.middle now did.said written' publisher es options did.rest (Ok count) did.did ∙ did.restart.quiet.attached
all_attach true old new before now written written' publisher es options lines (Err fault) (inl did) =
    did_attach did.between.log.base new did.middle now did.said written' publisher es options did.rest (Err fault) did.did ∙ did.restart.quiet.attached
all_attach true old new before now written written' publisher es options lines (Err fault) (inr stop) = stop_attaches publisher es old new before now lines fault stop

-- ---- a run on a database that was opened

module _ (name mail : List ℕ) (options : Options) (before middle now : Seen) (output written : Output) (view view' : View) (opened : IsOpened name mail view before middle) where
  pub agent_tried : (result : Result ℕ AgentFault) → RanAgent view view' middle now output written options result → IsAttachTriedForHistory name mail before now
  agent_tried result ran = inl (λ told. record {
    first = ran.ended.site.grows (attached name mail true ∷ before.happened) (opened.attached told).first;
    once = λ publisher es stood.
        all_attach options.restart view view' middle now output written publisher es options ran.lines result
        (ran.did (told_on before middle opened.no_mail told) publisher es ((opened.history told).each publisher es stood)) ∙ (opened.attached told).once;
  })

  pub agent_stays : (result : Result ℕ AgentFault) → RanAgent view view' middle now output written options result → Stays before now
  agent_stays result ran = stays_on before middle now (of_disk before middle opened.no_mail) ran.ended.site

  pub agent_stopped : (input : Input) (why : AgentFault) (fault : Fault) → fault ≡ fault_of_agent why → RanAgent view view' middle now output written options (Err why)
      → AgentStopped name mail options (outside before input output) (outside now input written) fault
  agent_stopped input why fault is ran = stopped why is (record { opened = middle; view = view; view' = view'; is = opened; ran = ran })

-- ---- a database that was not opened

pub tried_for_history : (name mail : List ℕ) (before now : Seen) → IsAttachTried name mail before now → IsAttachTriedForHistory name mail before now
tried_for_history name mail before now (inl there) = inl (λ told. record { first = (there told).first; once = λ publisher es stood. (there told).once })
tried_for_history name mail before now (inr refused) = inr refused

pub agent_unopened : (name mail : List ℕ) (options : Options) (before now : Seen) (input : Input) (output : Output) (why : DatabaseFault) → IsUntouched before now → DiskStays before now → OpenedCause before now why
    → AgentStopped name mail options (outside before input output) (outside now input output) (Database why)
agent_unopened name mail options before now input output why untouched stays cause = unopened why refl (record { untouched = untouched; no_mail = stays; silent = refl; cause = cause })
