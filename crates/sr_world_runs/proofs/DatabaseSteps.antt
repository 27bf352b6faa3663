-- Traces as steps: each commit is an append that the history and the messages there allow, and each file that is put is a message that can be read again
-- and is true of the history there.
use Rattle.std.proofs.Common.{◌≡◌, ℕ, List, [], ◌∷◌, ◌++◌, map, refl, sym, ap, ap₂, subst, ◌∙◌, append_assoc, append-nil}
use Rattle.std.specs.Prelude.{⊤}
use Rattle.std.specs.List.{AllByRecursion}
use Rattle.sr_book.specs.Entries.{Name, local}
use Rattle.sr_database_history.specs.Folds.{sees}
use Rattle.sr_database_history.specs.Recorded.{Recorded}
use Rattle.sr_world_model.specs.Steps.{DatabaseStep, append, put, crash, CanAppend, history_after_all, messages_after_all}
use Rattle.sr_world_model.specs.Truth.{IsTrueOf}
use Rattle.sr_world_model.specs.Worlds.{AreAmong}
use Rattle.sr_world_model.proofs.Leave.{do_more}
use Rattle.sr_msgform.specs.Messages.{IsMessage, message_spelling}
use Rattle.sr_msgform.specs.declared.message.Message.{Message}
use Rattle.sr_database_meaning.specs.Events.{Event, commit, commits, puts}
use Rattle.sr_database_meaning.specs.Events as event
use Rattle.sr_world.specs.Real.{layers, HasSpelling, LawfulHistory, MayDo}
use Rattle.sr_world_runs.specs.Worlds.{AreFiles, put_in}
use Rattle.sr_world_prefix.proofs.Along.{Along, Steps}

-- an entry that a history and the messages allow
abbrev pub CanStep : List Message → Name → List Recorded → Recorded → Type 0
CanStep messages owner es r = CanAppend layers HasSpelling messages owner es (layers.sees r)

-- these steps make this trace, each allowed by the history and the messages that those before it leave
abbrev pub AreDatabaseSteps : List Message → Name → List Recorded → List Event → List (DatabaseStep Recorded) → Type 0
AreDatabaseSteps messages publisher es [] [] = ⊤
AreDatabaseSteps messages publisher es (commit r ∷ events) (append q ∷ database_steps) = (q ≡ r) × CanStep messages publisher es r × AreDatabaseSteps messages publisher (es ++ r ∷ []) events database_steps
AreDatabaseSteps messages publisher es (event.put address name bytes ∷ events) (put m ∷ database_steps) =
    ((bytes ≡ message_spelling m) × IsMessage m) × IsTrueOf layers publisher es m × AreDatabaseSteps (messages ++ m ∷ []) publisher es events database_steps
AreDatabaseSteps messages publisher es events database_steps = ⊥

-- an entry of the database's own is allowed
pub local_step : (messages : List Message) (publisher : Name) (es : List Recorded) (r : Recorded) → sees r ≡ local → CanStep messages publisher es r
local_step messages publisher es r is = rw is tt

-- what some messages allow more messages do
pub step_more : (fewer messages : List Message) (publisher : Name) (es : List Recorded) (r : Recorded) → AreAmong fewer messages → CanStep fewer publisher es r → CanStep messages publisher es r
step_more fewer messages publisher es r among can = (do_more fewer messages among layers HasSpelling (λ d rs. ⊤) publisher es (append r) (can, tt)).0

pub steps_among : (fewer messages : List Message) (publisher : Name) (es rs : List Recorded) → AreAmong fewer messages → Steps (CanStep fewer publisher) es rs → Steps (CanStep messages publisher) es rs
steps_among fewer messages publisher es [] among steps = tt
steps_among fewer messages publisher es (r ∷ rs) among steps =
    (step_more fewer messages publisher es r among steps.0, steps_among fewer messages publisher (es ++ r ∷ []) rs among steps.1)

-- entries alone
pub commits_database_steps : (messages : List Message) (publisher : Name) (es rs : List Recorded) → Steps (CanStep messages publisher) es rs → AreDatabaseSteps messages publisher es (map commit rs) (map append rs)
commits_database_steps messages publisher es [] steps = tt
commits_database_steps messages publisher es (r ∷ rs) steps = (refl, steps.0, commits_database_steps messages publisher (es ++ r ∷ []) rs steps.1)

-- one trace after another
pub database_steps_more : (messages : List Message) (publisher : Name) (es : List Recorded) (prefix back : List Event) (database_steps more : List (DatabaseStep Recorded)) → AreDatabaseSteps messages publisher es prefix database_steps
    → AreDatabaseSteps (messages ++ put_in database_steps) publisher (es ++ commits prefix) back more → AreDatabaseSteps messages publisher es (prefix ++ back) (database_steps ++ more)
database_steps_more messages publisher es [] back [] more one two =
    subst (λ (ms : List Message). AreDatabaseSteps ms publisher es back more) (append-nil messages)
    (subst (λ (rs : List Recorded). AreDatabaseSteps (messages ++ []) publisher rs back more) (append-nil es) two)
database_steps_more messages publisher es (commit r ∷ prefix) back (append q ∷ database_steps) more one two = (
  one.0,
  one.1,
  database_steps_more messages publisher (es ++ r ∷ []) prefix back database_steps more one.2
      (subst (λ (rs : List Recorded). AreDatabaseSteps (messages ++ put_in database_steps) publisher rs back more) (sym (append_assoc es (r ∷ []) (commits prefix))) two),
)
database_steps_more messages publisher es (event.put address name bytes ∷ prefix) back (put m ∷ database_steps) more one two = (
  one.0,
  one.1,
  database_steps_more (messages ++ m ∷ []) publisher es prefix back database_steps more one.2
      (subst (λ (ms : List Message). AreDatabaseSteps ms publisher (es ++ commits prefix) back more) (sym (append_assoc messages (m ∷ []) (put_in database_steps))) two),
)
database_steps_more messages publisher es prefix back database_steps more one two = absurd one

-- some steps make a trace
pub record HasDatabaseSteps (messages : List Message) (publisher : Name) (es : List Recorded) (prefix : List Event) : Type 0 where
  pub database_steps : List (DatabaseStep Recorded)
  pub are : AreDatabaseSteps messages publisher es prefix database_steps

pub database_steps_prefix : (messages : List Message) (publisher : Name) (es : List Recorded) (prefix back : List Event) (database_steps : List (DatabaseStep Recorded)) → AreDatabaseSteps messages publisher es (prefix ++ back) database_steps
    → HasDatabaseSteps messages publisher es prefix
database_steps_prefix messages publisher es [] back database_steps are = record { database_steps = []; are = tt }
database_steps_prefix messages publisher es (commit r ∷ prefix) back (append q ∷ database_steps) are =
    let rest = database_steps_prefix messages publisher (es ++ r ∷ []) prefix back database_steps are.2 in
    record { database_steps = append r ∷ rest.database_steps; are = (refl, are.1, rest.are) }
database_steps_prefix messages publisher es (event.put address name bytes ∷ prefix) back (put m ∷ database_steps) are =
    let rest = database_steps_prefix (messages ++ m ∷ []) publisher es prefix back database_steps are.2 in
    record { database_steps = put m ∷ rest.database_steps; are = (are.0, are.1, rest.are) }
database_steps_prefix messages publisher es prefix back database_steps are = absurd are

-- ---- what steps leave

-- the files have the bytes of the messages
pub database_steps_files : (messages : List Message) (publisher : Name) (es : List Recorded) (events : List Event) (database_steps : List (DatabaseStep Recorded)) → AreDatabaseSteps messages publisher es events database_steps
    → AreFiles (puts events) (put_in database_steps)
database_steps_files messages publisher es [] [] are = refl
database_steps_files messages publisher es (commit r ∷ events) (append q ∷ database_steps) are = database_steps_files messages publisher (es ++ r ∷ []) events database_steps are.2
database_steps_files messages publisher es (event.put address name bytes ∷ events) (put m ∷ database_steps) are =
    ap₂ (λ (b : List ℕ) (bs : List (List ℕ)). b ∷ bs) are.0.0 (database_steps_files (messages ++ m ∷ []) publisher es events database_steps are.2)
database_steps_files messages publisher es events database_steps are = absurd are

-- each of the messages can be read again
pub database_steps_spelled : (messages : List Message) (publisher : Name) (es : List Recorded) (events : List Event) (database_steps : List (DatabaseStep Recorded)) → AreDatabaseSteps messages publisher es events database_steps
    → AllByRecursion IsMessage (put_in database_steps)
database_steps_spelled messages publisher es [] [] are = tt
database_steps_spelled messages publisher es (commit r ∷ events) (append q ∷ database_steps) are = database_steps_spelled messages publisher (es ++ r ∷ []) events database_steps are.2
database_steps_spelled messages publisher es (event.put address name bytes ∷ events) (put m ∷ database_steps) are = (are.0.1, database_steps_spelled (messages ++ m ∷ []) publisher es events database_steps are.2)
database_steps_spelled messages publisher es events database_steps are = absurd are

-- the history goes on with the commits
pub database_steps_history : (messages : List Message) (publisher : Name) (es : List Recorded) (events : List Event) (database_steps : List (DatabaseStep Recorded)) → AreDatabaseSteps messages publisher es events database_steps
    → history_after_all es database_steps ≡ es ++ commits events
database_steps_history messages publisher es [] [] are = sym (append-nil es)
database_steps_history messages publisher es (commit r ∷ events) (append q ∷ database_steps) are =
    ap (λ (x : Recorded). history_after_all (es ++ x ∷ []) database_steps) are.0
    ∙ database_steps_history messages publisher (es ++ r ∷ []) events database_steps are.2 ∙ append_assoc es (r ∷ []) (commits events)
database_steps_history messages publisher es (event.put address name bytes ∷ events) (put m ∷ database_steps) are = database_steps_history (messages ++ m ∷ []) publisher es events database_steps are.2
database_steps_history messages publisher es events database_steps are = absurd are

-- and all messages that were ever put
pub database_steps_messages : (messages : List Message) (database_steps : List (DatabaseStep Recorded)) → messages_after_all messages database_steps ≡ messages ++ put_in database_steps
database_steps_messages messages [] = sym (append-nil messages)
database_steps_messages messages (append q ∷ database_steps) = database_steps_messages messages database_steps
database_steps_messages messages (put m ∷ database_steps) = database_steps_messages (messages ++ m ∷ []) database_steps ∙ append_assoc messages (m ∷ []) (put_in database_steps)
database_steps_messages messages (crash ∷ database_steps) = database_steps_messages messages database_steps

-- where each history on the way is lawful, the steps may be done
pub may_do : (messages : List Message) (publisher : Name) (es : List Recorded) (events : List Event) (database_steps : List (DatabaseStep Recorded)) → AreDatabaseSteps messages publisher es events database_steps
    → Along (LawfulHistory publisher) es (commits events) → MayDo messages publisher es database_steps
may_do messages publisher es [] [] are lawful = tt
may_do messages publisher es (commit r ∷ events) (append q ∷ database_steps) are lawful =
    subst (λ (x : Recorded). MayDo messages publisher es (append x ∷ database_steps)) (sym are.0)
    ((are.1, first (es ++ r ∷ []) (commits events) lawful.1), may_do messages publisher (es ++ r ∷ []) events database_steps are.2 lawful.1)
  where
    first : (qs rs : List Recorded) → Along (LawfulHistory publisher) qs rs → LawfulHistory publisher qs
    first qs [] l = l
    first qs (x ∷ rs) l = l.0
may_do messages publisher es (event.put address name bytes ∷ events) (put m ∷ database_steps) are lawful = (are.1, may_do (messages ++ m ∷ []) publisher es events database_steps are.2 lawful)
may_do messages publisher es events database_steps are lawful = absurd are
