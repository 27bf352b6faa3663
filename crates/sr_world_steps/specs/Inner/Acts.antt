-- Steps that are asked for, and those of the world that they are.
use Rattle.std.specs.Prelude.{◌≡◌, ⊤, ℕ, ◌<◌, List, Some, slice_get}
use Rattle.sr_book.specs.Entries.{Name, local, from_user}
use Rattle.sr_book.specs.Histories.{taken_end}
use Rattle.sr_book.specs.declared.note.Note.{Note as BookNote}
use Rattle.sr_book.specs.declared.note.Note.TheVariants.{Confirmed, Asked, Raised, Sent}
use Rattle.sr_database_history.specs.Recorded.{Recorded, note, entry_of}
use Rattle.sr_logform.specs.declared.op.Op.{Op}
use Rattle.sr_msgform.specs.declared.message.Message.{Message}
use Rattle.sr_msgform.specs.Messages.{IsMessage}
use Rattle.sr_world.specs.Inner.Real.{IsStep}
use Rattle.sr_world.specs.Real.{layers}
use Rattle.sr_world_model.specs.Steps.{DatabaseStep, append, put, crash}
use Rattle.sr_world_model.specs.Worlds.{World, WorldStep as Act, history, happens}
use Rattle.sr_world_steps.specs.declared.step.NotAStep.{NotAStep}
use Rattle.sr_world_steps.specs.declared.step.NotAStep.TheVariants.{Rule, Memory}
use Rattle.sr_world_steps.specs.declared.step.WorldStep.{WorldStep}
use Rattle.sr_world_steps.specs.declared.step.WorldStep.TheVariants.{Commit, Take, Note, SentNote, Put, Crash}
use Rattle.sr_world_steps.specs.Inner.Shown.{Shown, Shows}
use Rattle.sr_world_untouched.specs.Untouched.{KeysAgree}

-- a step of a database
abbrev pub by : Name → DatabaseStep Recorded → Act Recorded
by at database_step = record { owner = at; database_step = database_step }

-- a message says what is noted: its confirm, or its ask; an ask is raised by one that ends past what was taken
abbrev pub Says : ℕ → Message → BookNote → Type 0
Says taken m (Confirmed place) = m.confirm ≡ place
Says taken m (Asked count place) = (m.ask_count ≡ count) × (m.ask_offset ≡ place)
Says taken m Raised = taken < m.upto.0
Says taken m (Sent end messages confirm) = ⊥

-- the message at a place of all that were put is from a user to a database, and says what is noted
pub record IsSaid (w : World Recorded) (at user : Name) (what : BookNote) (place : ℕ) : Type 0 where
  pub message : Message
  pub there : slice_get w.messages place ≡ Some message
  pub sent_by : message.from ≡ user
  pub sent_to : message.to ≡ at
  pub says : Says (taken_end layers.sees user (history w at)) message what

-- a note of messages that were sent
abbrev pub IsSent : BookNote → Type 0
IsSent (Confirmed place) = ⊥
IsSent (Asked count place) = ⊥
IsSent Raised = ⊥
IsSent (Sent end messages confirm) = ⊤

-- a step of the world is the one that is asked for
abbrev pub IsAsked : World Recorded → WorldStep → Act Recorded → Type 0
IsAsked w (Commit at entry) act = (r : Recorded) × (act ≡ by at (append r)) × (entry_of r ≡ entry) × (layers.sees r ≡ local)
IsAsked w (Take at user) act = (r : Recorded) × (place : ℕ) × (ops : List Op) × (act ≡ by at (append r)) × (layers.sees r ≡ from_user user place ops)
IsAsked w (Note at user what place) act = (act ≡ by at (append (note user what))) × IsSaid w at user what place
IsAsked w (SentNote at user what) act = (act ≡ by at (append (note user what))) × IsSent what
IsAsked w (Put at m) act = (act ≡ by at (put m)) × IsMessage m
IsAsked w (Crash at) act = act ≡ by at crash

-- the world does not allow the step that is asked for
pub record IsNoStep (w : World Recorded) (step : WorldStep) : Type 0 where
  pub none : (act : Act Recorded) → IsAsked w step act → ¬ (IsStep w act)

-- the step that is asked for was made: the world allows it, the world behind it is shown, and is good, and untouched keys agree there
pub record HasStepped (w : World Recorded) (step : WorldStep) (now : Shown) : Type 0 where
  pub act : Act Recorded
  pub asked : IsAsked w step act
  pub allowed : IsStep w act
  pub shows : Shows (happens w act) now
  pub keys : KeysAgree (happens w act)

-- the place of a step's kind, from 1
abbrev pub rule_of : WorldStep → ℕ
rule_of (Commit at entry) = 1
rule_of (Take at user) = 2
rule_of (Note at user what place) = 3
rule_of (SentNote at user what) = 4
rule_of (Put at m) = 5
rule_of (Crash at) = 6

-- why a step was not made: the world does not allow it, or there was no memory
abbrev pub IsRefusal : Shown → WorldStep → NotAStep → Type 0
IsRefusal shown step (Rule rule) = (rule ≡ rule_of step) × ((w : World Recorded) → Shows w shown → IsNoStep w step)
IsRefusal shown step Memory = ⊤
