-- A run of the agent, from the moment at which nothing was opened yet, or on a database that stands open: it makes steps of a world alone.
use Rattle.std.proofs.Common.{◌≡◌, ◌⊎◌, ℕ, true, false, List, [], ◌∷◌, ◌++◌, Result, Ok, Err, inl, inr, refl, sym, subst, le_refl}
use Rattle.std.specs.Prelude.{Bool, IsTrue}
use Rattle.sr_book.specs.Entries.{Name}
use Rattle.sr_database.specs.Databases.{IsDatabase}
use Rattle.sr_database.specs.InForce.{HasLogInForce}
use Rattle.sr_database.specs.Views.{View}
use Rattle.sr_database_history.specs.Folds.{fresh, state_of}
use Rattle.sr_database_history.specs.Recorded.{Recorded}
use Rattle.sr_send_needs.specs.Needs.{least_need}
use Rattle.sr_world_model.specs.Worlds.{World, history}
use Rattle.sr_msgform.specs.declared.message.Message.{Message}
use Rattle.sr_site.specs.Causes.{DiskStays, Stays}
use Rattle.sr_site.specs.Files.{Files}
use Rattle.sr_site.specs.Images.{IsImage, IsSettled, RestsThroughout}
use Rattle.sr_site.specs.Seen.{Seen}
use Rattle.sr_site.specs.Streams.{Output}
use Rattle.sr_database_meaning.specs.Bases.{HasBase}
use Rattle.sr_database_meaning.specs.Events.{commits}
use Rattle.sr_agent.proofs.Based.{settled_base}
use Rattle.sr_agent.proofs.Restarted.{stop_rests, stop_stays, begins_where}
use Rattle.sr_agent.specs.Agents.{Did, DidAnew, DidWhere, RanAgent, RestartedAndDid}
use Rattle.sr_agent.specs.Ends.{HasTold}
use Rattle.sr_agent.specs.Lines.{Line}
use Rattle.sr_agent.specs.Runs.{taken_entries, trace_of}
use Rattle.sr_agent.specs.declared.fault.AgentFault.{AgentFault}
use Rattle.sr_agent.specs.declared.options.Options.{Options}
use Rattle.sr_world_prefix.specs.Good.{AreSaid}
use Rattle.sr_world_prefix.specs.Kept.{StandsKeeping}
use Rattle.sr_world_runs.specs.Worlds.{AllKnown, MakesSteps, Rests, on_one, on_two}
use Rattle.sr_world_prefix.proofs.Along.{steps_along, steps_first, steps_second}
use Rattle.sr_world_runs.proofs.DatabaseSteps.{CanStep}
use Rattle.sr_world_prefix.proofs.TruePuts.{IsFine}
use Rattle.sr_world_prefix.proofs.Goodness.{said_more, step_says_so}
use Rattle.sr_world_prefix.proofs.Kept.{IsKeeping, keeping_more, keeping_moved, keeping_sent}
use Rattle.sr_world_prefix.proofs.Mail.{goes_on}
use Rattle.sr_world_prefix.proofs.Opened.{own_publisher}
use Rattle.sr_world_prefix.proofs.Ran.{received_either, stop_received}
use Rattle.sr_world_runs.proofs.Receiving.{known_later, received_can, partner_pass_received, until_received}
use Rattle.sr_world_prefix.proofs.Steps.{IsRunStep}
use Rattle.sr_world_runs.proofs.BrokenOff.{DatabaseStepsOn, part_of_database_steps, whole_database_steps}
use Rattle.sr_world_runs.proofs.PutsLast.{did_last}
use Rattle.sr_world_runs.proofs.Ordered.{IsOrdered}
use Rattle.sr_world_runs.proofs.WorldSteps.{RestartOn, StopOn, TraceOn, restart_steps, trace_steps}

-- a run, to its end or to the fault that ended it, as steps that are allowed
did_database_steps : (messages : List Message) (publisher : Name) (es : List Recorded) (options : Options) (base : ℕ) (new : View) (before now : Seen) (written written' : Output) (lines : List Line)
    (result : Result ℕ AgentFault) → (state_of publisher es).catalog.publisher ≡ publisher → IsFine publisher base es → IsTrue before.observable → AllKnown messages publisher before now
    → Did base new before now written written' publisher es options lines result → DatabaseStepsOn messages publisher es before now
did_database_steps messages publisher es options base new before now written written' lines (Ok count) own old told known ran =
    whole_database_steps messages publisher es options base new before now lines old ran
    (received_can messages publisher es options own ran.run base new before now known ran.came (received_either options.receive publisher es ran.run ran.is.receives))
did_database_steps messages publisher es options base new before now written written' lines (Err fault) own old told known ran =
    let run = ran.run in
    let whole = HasTold lines written written' in
    let received = stop_received publisher es options run ran.db new ran.seen now ran.events ran.told fault whole ran.stops in
    let until = until_received messages publisher es options own run base ran.db new before ran.seen now ran.events ran.told fault whole known ran.came ran.stops in
    part_of_database_steps messages publisher es options base new before now written written' lines fault told old ran received
    (steps_second (IsRunStep publisher) (CanStep messages publisher) es (taken_entries publisher es run) until)
    (λ whose left upto stop.
    let on = partner_pass_received messages publisher es options own run base ran.db new before ran.seen now ran.events ran.told fault whole known ran.came whose left upto told stop ran.went in
    let there : List Recorded = es ++ commits (trace_of publisher es run) in
    record {
      entries = on.entries;
      went = on.went;
      can = steps_second (IsRunStep publisher) (CanStep messages publisher) there on.entries on.steps;
      steps = steps_first (IsRunStep publisher) (CanStep messages publisher) there on.entries on.steps;
      settles = on.settles;
    })

-- the trace of a run on a history, behind what was opened
did_on : (w : World Recorded) (owner : Name) (there : List Recorded) (options : Options) (base : ℕ) (old new : View) (before now : Seen) (written written' : Output) (lines : List Line) (result : Result ℕ AgentFault)
    → IsTrue before.observable → AllKnown w.messages owner before now → IsDatabase old owner there before → IsOrdered owner there → IsKeeping owner base there
    → Did base new before now written written' owner there options lines result → TraceOn w owner base there before now
did_on w owner there options base old new before now written written' lines result told known database ordered keeping did =
    let fine : IsFine owner base there = record { books = ordered.books; keeps = keeping_sent owner base there keeping } in
    let on = did_database_steps w.messages owner there options base new before now written written' lines result (own_publisher old owner there before database) fine told known did in
    record {
      trace = on.trace;
      went = on.went;
      has = on.has;
      said = λ said.
          steps_along (IsRunStep owner) (AreSaid (fresh owner)) (λ qs r said_before is. said_more (fresh owner) qs r said_before (step_says_so owner qs r is)) there (commits on.trace) said on.steps;
      kept = λ keeps. steps_along (IsRunStep owner) (IsKeeping owner base) (keeping_more owner base) there (commits on.trace) keeps on.steps;
      last = did_last owner there options base new before now told written written' lines result did;
      settles = on.settles;
    }

-- behind a log that was begun anew
anew_on : (w : World Recorded) (owner : Name) (there : List Recorded) (options : Options) (old new : View) (before now : Seen) (written written' : Output) (lines : List Line) (result : Result ℕ AgentFault)
    → IsTrue before.observable → AllKnown w.messages owner before now → IsDatabase old owner there before → IsOrdered owner there → IsKeeping owner old.log.base there
    → RestartedAndDid old new before now written written' owner there options lines result → RestartOn w owner old.log.base there before now
anew_on w owner there options old new before now written written' lines result told known database ordered keeping ran =
    let restart = ran.restart in
    let middle_told : IsTrue ran.middle.observable = subst (λ (b : Bool). IsTrue b) (sym restart.stays.observable) told in
    let later : AllKnown w.messages owner ran.middle now
    = known_later w.messages owner before ran.middle now known (goes_on before.happened ran.middle.happened restart.stays.grows) (goes_on ran.middle.happened now.happened ran.stays.grows) in
    let moved : IsKeeping owner (least_need owner there old.log.base) there = keeping_moved owner old.log.base there database.is.stored keeping in
    let at : IsKeeping owner ran.between.log.base there = subst (λ (n : ℕ). IsKeeping owner n there) (sym (begins_where restart.value)) moved in
    record {
      middle = ran.middle;
      rests = restart.moments;
      stays = restart.stays;
      based = subst (λ (n : ℕ). IsSettled (HasBase n) ran.middle) (begins_where restart.value) (settled_base ran.between owner there ran.middle restart.database);
      on = subst (λ (n : ℕ). TraceOn w owner n there ran.middle now) (begins_where restart.value)
          (did_on w owner there options ran.between.log.base ran.between new ran.middle now ran.said written' ran.rest result middle_told later restart.database ordered at ran.did);
    }

-- of a run with a restart
by_restart : (w : World Recorded) (owner : Name) (there : List Recorded) (options : Options) (old new : View) (before now : Seen) (written written' : Output) (lines : List Line) (result : Result ℕ AgentFault)
    → IsTrue before.observable → AllKnown w.messages owner before now → IsDatabase old owner there before → IsOrdered owner there → IsKeeping owner old.log.base there
    → DidAnew old new before now written written' owner there options lines result → RestartOn w owner old.log.base there before now ⊎ StopOn w owner old.log.base there before now
by_restart w owner there options old new before now written written' lines (Ok count) told known database ordered keeping ran =
    inl (anew_on w owner there options old new before now written written' lines (Ok count) told known database ordered keeping ran)
by_restart w owner there options old new before now written written' lines (Err fault) told known database ordered keeping (inl ran) =
    inl (anew_on w owner there options old new before now written written' lines (Err fault) told known database ordered keeping ran)
by_restart w owner there options old new before now written written' lines (Err fault) told known database ordered keeping (inr stop) =
    inr (record { rests = stop_rests owner there old new before now lines fault database stop; stays = stop_stays owner there old new before now lines fault stop })

agent_steps_by : (b : Bool) (w : World Recorded) (owner publisher : Name) (es : List Recorded) (options : Options) (view new : View) (before opened now : Seen) (written written' : Output)
    (result : Result ℕ AgentFault) → options.restart ≡ b → IsTrue before.observable → Stays before now → RestsThroughout (IsImage before) before opened → DiskStays before opened → IsDatabase view publisher es opened
    → RanAgent view new opened now written written' options result → MakesSteps w owner before now
agent_steps_by false w owner publisher es options view new before opened now written written' result off told stays still quiet database ran good named settled known =
    let still_told : IsTrue opened.observable = subst (λ (b : Bool). IsTrue b) (sym quiet.observable) told in
    let later : AllKnown w.messages owner opened now
    = known_later w.messages owner before opened now known (goes_on before.happened opened.happened quiet.grows) (goes_on opened.happened now.happened ran.ended.site.grows) in
    trace_steps w owner publisher es view before opened now quiet.first still quiet database good named settled
    (λ there database_there ordered keeping.
    did_on w owner there options view.log.base view new opened now written written' ran.lines result still_told later database_there ordered keeping
    (subst (λ (b : Bool). DidWhere b view new opened now written written' owner there options ran.lines result) off (ran.did still_told owner there database_there)))
agent_steps_by true w owner publisher es options view new before opened now written written' result on told stays still quiet database ran good named settled known =
    let still_told : IsTrue opened.observable = subst (λ (b : Bool). IsTrue b) (sym quiet.observable) told in
    let later : AllKnown w.messages owner opened now
    = known_later w.messages owner before opened now known (goes_on before.happened opened.happened quiet.grows) (goes_on opened.happened now.happened ran.ended.site.grows) in
    restart_steps w owner publisher es view before opened now quiet.first still quiet database good named settled
    (λ there database_there ordered keeping.
    by_restart w owner there options view new opened now written written' ran.lines result still_told later database_there ordered keeping
    (subst (λ (b : Bool). DidWhere b view new opened now written written' owner there options ran.lines result) on (ran.did still_told owner there database_there)))

pub agent_steps : (w : World Recorded) (owner publisher : Name) (es : List Recorded) (options : Options) (view new : View) (before opened now : Seen) (written written' : Output)
    (result : Result ℕ AgentFault) → IsTrue before.observable → Stays before now → RestsThroughout (IsImage before) before opened → DiskStays before opened → IsDatabase view publisher es opened
    → RanAgent view new opened now written written' options result → MakesSteps w owner before now
agent_steps w owner publisher es options view new before opened now written written' result = agent_steps_by options.restart w owner publisher es options view new before opened now written written' result refl

-- ---- on a database that stands open

still_here : (seen : Seen) → RestsThroughout (IsImage seen) seen seen
still_here seen = record { more = []; is = refl; moments = λ image there. there }

quiet_here : (seen : Seen) → DiskStays seen seen
quiet_here seen = record { observable = refl; first = refl; grows = λ moment there. there; mail = refl; mail_faults = refl; later = le_refl seen.disk_faults }

-- what a read gives stands for a history, where what a crash may leave rests on one, and its log keeps what partners need
record StoodThere (owner : Name) (files : Files) : Type 0 where
  es : List Recorded
  stood : StandsKeeping owner es files

stood_there : (messages : List Message) (owner : Name) (es : List Recorded) (seen : Seen) → IsImage seen seen.files → Rests messages owner es (IsImage seen) → StoodThere owner seen.files
stood_there messages owner es seen read (on_one all) = record { es = es; stood = all seen.files read }
stood_there messages owner es seen read (on_two r each) = elim (each seen.files read) [
  | inl short ↦ record { es = es; stood = short }
  | inr long ↦ record { es = es ++ r ∷ []; stood = long.stands }
]

pub steps_from_open : (w : World Recorded) (owner : Name) (options : Options) (view new : View) (before now : Seen) (written written' : Output) (result : Result ℕ AgentFault)
    → IsTrue before.observable → IsImage before before.files → HasLogInForce view before → RanAgent view new before now written written' options result → MakesSteps w owner before now
steps_from_open w owner options view new before now written written' result told read has ran good named rested known =
    let there = stood_there w.messages owner (history w owner) before read rested in
    agent_steps w owner owner there.es options view new before before now written written' result told ran.ended.site (still_here before) (quiet_here before)
    (has.each owner there.es there.stood.base there.stood.stands) ran good named rested known
