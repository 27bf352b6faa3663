-- What a run of the agent adds to the history, to its end or to the fault that ended it: each entry is a step.
use Rattle.std.proofs.Common.{ℕ, List, [], ◌∷◌, map, Option, Result, sym, subst, le_refl}
use Rattle.std.specs.Prelude.{⊤, IsTrue, false}
use Rattle.std.specs.List.{AllByRecursion}
use Rattle.sr_book.specs.Entries.{Name}
use Rattle.sr_database.specs.Views.{View}
use Rattle.sr_database_history.specs.Folds.{books_of, end_of, state_of}
use Rattle.sr_database_history.specs.Recorded.{Recorded}
use Rattle.sr_receive_gather.specs.Bags.{filed_of}
use Rattle.sr_receive_gather.specs.MessageFiles.{MessageFile, message_files_from}
use Rattle.sr_send.specs.PutFiles.{sent_note}
use Rattle.sr_send.specs.Passes.{sent_end}
use Rattle.sr_site.specs.Happenings.{Happening}
use Rattle.sr_site.specs.Seen.{Seen}
use Rattle.sr_site.specs.Streams.{Output}
use Rattle.sr_database_meaning.specs.Events.{commits}
use Rattle.sr_agent.specs.Agents.{Did}
use Rattle.sr_agent.specs.Deliveries.{Delivery, deliveries_events}
use Rattle.sr_agent.specs.Lines.{Line}
use Rattle.sr_agent.specs.Runs.{IsReceiving, Run, fetched_files_of, received_mail, taken_entries, trace_of}
use Rattle.sr_agent.specs.PartnerPasses.{Gathering}
use Rattle.sr_agent.specs.declared.fault.AgentFault.{AgentFault}
use Rattle.sr_agent.specs.declared.options.Options.{Options}
use Rattle.sr_world_prefix.proofs.Acting.{acts_on}
use Rattle.sr_world_prefix.proofs.Along.{Steps}
use Rattle.sr_world_prefix.proofs.Doing.{DidBy, deliveries_walked, did_walked, run_walked}
use Rattle.sr_world_prefix.proofs.Noting.{IsHere, first_steps, here_later, letters_here, raised_steps, sent_step}
use Rattle.sr_world_prefix.proofs.Ran.{HasReceived}
use Rattle.sr_world_prefix.proofs.RunMail.{did_goes}
use Rattle.sr_world_prefix.proofs.Steps.{IsRunStep}
use Rattle.sr_world_prefix.proofs.Walking.{Walk, received_walked}

-- whatever happened to the mail
abbrev Any : Happening → Type 0
Any step = ⊤

all_any : (steps : List Happening) → AllByRecursion Any steps
all_any [] = tt
all_any (step ∷ steps) = (tt, all_any steps)

module _ (publisher : Name) where
  abbrev AreSteps : List Recorded → List Recorded → Type 0
  AreSteps es rs = Steps (IsRunStep publisher) es rs

  -- message files confirm and ask for what lies within the history
  abbrev AreHere : List Recorded → Name → List MessageFile → Type 0
  AreHere es whose message_files = AllByRecursion (IsHere (end_of es)) (map filed_of message_files)

  abbrev run_walk : Walk publisher
  run_walk = record {
    Step = IsRunStep publisher;
    Holds = λ es. ⊤;
    Good = AreHere;
    Happened = Any;
    kept = λ es r holds step. tt;
    later = λ es more whose message_files here. here_later es more (map filed_of message_files) here;
    noted = λ es whose message_files holds here. first_steps publisher es whose (end_of es) (map filed_of message_files) (le_refl (end_of es)) here;
    acted = λ es whose message_files first acts holds stands idle are mail. (acts_on publisher es whose message_files first acts stands are).steps;
    raised = λ es whose message_files received holds here is. raised_steps publisher es whose received (map filed_of message_files);
  }

  came_here : (es : List Recorded) (run : Run) (users : List Name) → IsReceiving publisher es run users → (whose : Name) → AreHere es whose (message_files_from whose (fetched_files_of run.gathered))
  came_here es run users r whose =
      subst (λ (o : Option Gathering). AreHere es whose (message_files_from whose (fetched_files_of o))) (sym r.gathered_is)
      (letters_here (state_of publisher es).catalog (end_of es) whose r.gathering.fetched_files r.is.are)

  pub received_steps : (es : List Recorded) (run : Run) → HasReceived publisher es run → AreSteps es (taken_entries publisher es run)
  received_steps es run received = received_walked publisher run_walk es false run tt received (came_here es run) (all_any (received_mail publisher es false run []))

  sent : (base : ℕ) (es : List Recorded) (whose : Name) (count : ℕ) → ⊤ → IsRunStep publisher es (sent_note whose (books_of whose es) (sent_end base publisher es whose (books_of whose es)) count)
  sent base es whose count holds = sent_step publisher base es whose count

  pub deliveries_steps : (es : List Recorded) (deliveries : List Delivery) → AreSteps es (commits (deliveries_events publisher es deliveries))
  deliveries_steps es deliveries = deliveries_walked publisher run_walk sent es deliveries tt

  pub run_steps : (es : List Recorded) (run : Run) → HasReceived publisher es run → AreSteps es (commits (trace_of publisher es run))
  run_steps es run received = run_walked publisher run_walk sent es run tt (received_steps es run received)

  -- the site went through a trace, and each commit of it is a step
  abbrev pub DidSteps : Seen → Seen → List Recorded → Type 0
  DidSteps before now es = DidBy publisher (IsRunStep publisher) before now es

  pub did_steps : (es : List Recorded) (options : Options) (base : ℕ) (new : View) (before now : Seen) (written written' : Output) (lines : List Line) (result : Result ℕ AgentFault) → IsTrue before.observable
      → Did base new before now written written' publisher es options lines result → DidSteps before now es
  did_steps es options base new before now written written' lines result told ran =
      let goes = did_goes publisher es options base new before now written written' lines result ran in
      did_walked publisher run_walk sent es options tt (λ run users mail r. came_here es run users r) base new before now written written' lines result told
      (record { more = goes.more; is = goes.is; each = all_any goes.more }) ran
