-- What a run sends, as steps that are allowed: to its end, and to the fault that ended it.
use Rattle.std.proofs.Common.{◌≡◌, ℕ, ◌+◌, List, [], ◌∷◌, ◌++◌, map, refl, sym, ap, subst, ◌∙◌, inl, inr, arith, append-nil}
use Rattle.std.proofs.lemmas.List.Elements.{Contains-append_right}
use Rattle.std.specs.Prelude.{Bool, length}
use Rattle.std.specs.List.{AllByRecursion}
use Rattle.sr_book.specs.Entries.{Name}
use Rattle.sr_database_history.specs.Folds.{books_of}
use Rattle.sr_database_history.specs.Recorded.{Recorded}
use Rattle.sr_world_model.specs.Steps.{append, put}
use Rattle.sr_world_model.specs.Truth.{IsTrueOf}
use Rattle.sr_msgform.specs.Messages.{IsMessage}
use Rattle.sr_msgform.specs.declared.message.Message.{Message}
use Rattle.sr_send.specs.PutFiles.{put_files, noted_put_files, sent_note}
use Rattle.sr_send.specs.Passes.{AreAll, sent_end}
use Rattle.sr_database_meaning.specs.Events.{Event, commit, commits}
use Rattle.sr_agent.specs.Deliveries.{AreBased, AreDeliveries, Delivery, after_deliveries, deliveries_events, delivery_events, folder_of}
use Rattle.sr_agent.specs.Runs.{Run, after_receiving, sent_events, taken_entries, trace_of}
use Rattle.sr_agent.proofs.Joints.{commits_of}
use Rattle.sr_world.specs.Real.{layers}
use Rattle.sr_world_runs.specs.Worlds.{put_in}
use Rattle.sr_world_prefix.proofs.Along.{Steps}
use Rattle.sr_world_prefix.proofs.Backed.{HasSent}
use Rattle.sr_world_runs.proofs.DatabaseSteps.{AreDatabaseSteps, CanStep, HasDatabaseSteps, commits_database_steps, database_steps_more}
use Rattle.sr_world_prefix.proofs.Ran.{HasReceived, commits_letters}
use Rattle.sr_world_prefix.proofs.RunSteps.{deliveries_steps, received_steps}
use Rattle.sr_world_runs.proofs.Sending.{all_noted}
use Rattle.sr_world_prefix.proofs.TruePuts.{IsFine, all_said, fine_along, sent_within}

put_alone : (messages : List Message) → put_in (map put messages) ≡ messages
put_alone [] = refl
put_alone (m ∷ messages) = ap (λ (ms : List Message). m ∷ ms) (put_alone messages)

module _ (base : ℕ) (publisher : Name) where
  -- ---- what is sent to one partner

  pub letters_database_steps : (messages : List Message) (es : List Recorded) (address : Name) (count : ℕ) (pass : List Message) → AllByRecursion (IsTrueOf layers publisher es) pass
      → AllByRecursion IsMessage pass → AreDatabaseSteps messages publisher es (put_files address count pass) (map put pass)
  letters_database_steps messages es address count [] hold spelled = tt
  letters_database_steps messages es address count (m ∷ pass) hold spelled = ((refl, spelled.0), hold.0, letters_database_steps (messages ++ m ∷ []) es address (count + 1) pass hold.1 spelled.1)

  -- and an entry that may come after it
  pub with_entry : (messages : List Message) (es : List Recorded) (address : Name) (count : ℕ) (pass : List Message) (r : Recorded) → AllByRecursion (IsTrueOf layers publisher es) pass
      → AllByRecursion IsMessage pass → CanStep (messages ++ pass) publisher es r → HasDatabaseSteps messages publisher es (put_files address count pass ++ commit r ∷ [])
  with_entry messages es address count pass r hold spelled can =
      let files : List Event = put_files address count pass in
      let still : es ++ commits files ≡ es = ap (λ (l : List Recorded). es ++ l) (commits_letters address count pass) ∙ append-nil es in
      let last : AreDatabaseSteps (messages ++ put_in (map put pass)) publisher (es ++ commits files) (commit r ∷ []) (append r ∷ [])
      = subst (λ (rs : List Recorded). AreDatabaseSteps (messages ++ put_in (map put pass)) publisher rs (commit r ∷ []) (append r ∷ [])) (sym still)
      (subst (λ (ms : List Message). AreDatabaseSteps (messages ++ ms) publisher es (commit r ∷ []) (append r ∷ [])) (sym (put_alone pass)) (refl, can, tt)) in
      record {
        database_steps = map put pass ++ append r ∷ [];
        are = database_steps_more messages publisher es files (commit r ∷ []) (map put pass) (append r ∷ []) (letters_database_steps messages es address count pass hold spelled) last;
      }

  noted_database_steps : (messages : List Message) (es : List Recorded) (address whose : Name) (ask : Bool) (limit : ℕ) (pass : List Message) → IsFine publisher base es → AreAll base publisher es whose (books_of whose es) ask limit pass
      → AllByRecursion IsMessage pass → HasDatabaseSteps messages publisher es (noted_put_files address whose (books_of whose es) (sent_end base publisher es whose (books_of whose es)) pass)
  noted_database_steps messages es address whose ask limit [] old are spelled = record { database_steps = []; are = tt }
  noted_database_steps messages es address whose ask limit (m ∷ pass) old are spelled =
      with_entry messages es address (books_of whose es).send_count (m ∷ pass) (sent_note whose (books_of whose es) (sent_end base publisher es whose (books_of whose es)) (length (m ∷ pass)))
      (all_said base publisher es whose ask limit (m ∷ pass) old.keeps (sent_within es whose old.books) are)
      spelled
      (all_noted base (messages ++ m ∷ pass) publisher es whose ask limit (m ∷ pass) are (λ x has. Contains-append_right messages (m ∷ pass) x has) (omega arith))

  -- ---- what is sent to all

  pub deliveries_database_steps : (messages : List Message) (es : List Recorded) (limit : ℕ) (deliveries : List Delivery) → IsFine publisher base es → AreBased base deliveries → AreDeliveries publisher es limit deliveries
      → HasDatabaseSteps messages publisher es (deliveries_events publisher es deliveries)
  deliveries_database_steps messages es limit [] old based are = record { database_steps = []; are = tt }
  deliveries_database_steps messages es limit (d ∷ earlier) old based are =
      let added : List Event = deliveries_events publisher es earlier in
      let there : List Recorded = after_deliveries publisher es earlier in
      let whose : Name = d.partner.user in
      let first = deliveries_database_steps messages es limit earlier old based.0 are.0 in
      let old_there : IsFine publisher base there = fine_along publisher base es (commits added) old (deliveries_steps publisher es earlier) in
      let all : AreAll base publisher there whose (books_of whose there) d.partner.ask limit d.messages
      = subst (λ (n : ℕ). AreAll n publisher there whose (books_of whose there) d.partner.ask limit d.messages) based.1 are.1.are in
      let noted = noted_database_steps (messages ++ put_in first.database_steps) there (folder_of publisher there whose) whose d.partner.ask limit d.messages old_there all are.1.spelled in
      let last : HasDatabaseSteps (messages ++ put_in first.database_steps) publisher there (delivery_events publisher there d)
      = subst (λ (n : ℕ). HasDatabaseSteps (messages ++ put_in first.database_steps) publisher there
      (noted_put_files (folder_of publisher there whose) whose (books_of whose there) (sent_end n publisher there whose (books_of whose there)) d.messages)) (sym based.1) noted in
      record { database_steps = first.database_steps ++ last.database_steps; are = database_steps_more messages publisher es added (delivery_events publisher there d) first.database_steps last.database_steps first.are last.are }

  -- ---- what a run sends

  pub sent_database_steps : (messages : List Message) (es : List Recorded) (limit : ℕ) (run : Run) → IsFine publisher base (after_receiving publisher es run) → AreBased base run.deliveries → HasSent publisher es limit run
      → HasDatabaseSteps messages publisher (after_receiving publisher es run) (sent_events publisher es run)
  sent_database_steps messages es limit run old based (inl none) =
      subst (λ (ds : List Delivery). HasDatabaseSteps messages publisher (after_receiving publisher es run) (deliveries_events publisher (after_receiving publisher es run) ds)) (sym none) (record { database_steps = []; are = tt })
  sent_database_steps messages es limit run old based (inr are) = deliveries_database_steps messages (after_receiving publisher es run) limit run.deliveries old based are

  put_none : (rs : List Recorded) → put_in (map append rs) ≡ []
  put_none [] = refl
  put_none (r ∷ rs) = put_none rs

  -- after what it received
  pub run_database_steps : (messages : List Message) (es : List Recorded) (limit : ℕ) (run : Run) → IsFine publisher base es → AreBased base run.deliveries → HasReceived publisher es run → Steps (CanStep messages publisher) es (taken_entries publisher es run)
      → HasSent publisher es limit run → HasDatabaseSteps messages publisher es (trace_of publisher es run)
  run_database_steps messages es limit run old based received taken sent =
      let entries : List Recorded = taken_entries publisher es run in
      let events : List Event = sent_events publisher es run in
      let last = sent_database_steps messages es limit run (fine_along publisher base es entries old (received_steps publisher es run received)) based sent in
      let behind : AreDatabaseSteps (messages ++ put_in (map append entries)) publisher (es ++ commits (map commit entries)) events last.database_steps
      = subst (λ (rs : List Recorded). AreDatabaseSteps (messages ++ put_in (map append entries)) publisher (es ++ rs) events last.database_steps) (sym (commits_of entries))
      (subst (λ (ms : List Message). AreDatabaseSteps ms publisher (es ++ entries) events last.database_steps) (sym (ap (λ (ms : List Message). messages ++ ms) (put_none entries) ∙ append-nil messages)) last.are) in
      record {
        database_steps = map append entries ++ last.database_steps;
        are = database_steps_more messages publisher es (map commit entries) events (map append entries) last.database_steps (commits_database_steps messages publisher es entries taken) behind;
      }
