use Rattle.std.proofs.Common.{◌≡◌, ℕ, List, [], ◌∷◌, ◌++◌, refl, sym, ◌∙◌}
use Rattle.sr_book.specs.Entries.{Name}
use Rattle.sr_msgform.specs.declared.message.Message.{Message}
use Rattle.sr_world_model.specs.Layers.{Layers}
use Rattle.sr_world_model.specs.Inner.Layers.{Laws}
use Rattle.sr_world_model.specs.Steps.{DatabaseStep}
use Rattle.sr_world_model.specs.Worlds.{World, WorldStep, history, happens, after_all, acts_by, IsGood}
use Rattle.sr_world_model.specs.Inner.Worlds.{AreAllowed}
use Rattle.sr_world_model.specs.Runs.{WorldRun, after_world_run, after_world_runs, IsWorldRun, AreWorldRuns}
use Rattle.sr_world_model.specs.Inner.Runs.{acts_of_runs}
use Rattle.sr_world_model.proofs.Good.{stay}
use Rattle.sr_world_model.proofs.Leave.{in_world, database_steps_begin}

after_all-append : {Entry : Type 0} (w : World Entry) (acts more : List (WorldStep Entry)) → after_all w (acts ++ more) ≡ after_all (after_all w acts) more
after_all-append w [] more = refl
after_all-append w (act ∷ acts) more = after_all-append (happens w act) acts more

-- the world after some runs is that after their steps
pub after_acts : {Entry : Type 0} (w : World Entry) (runs : List (WorldRun Entry)) → after_world_runs w runs ≡ after_all w (acts_of_runs runs)
after_acts w [] = refl
after_acts w (r ∷ runs) = after_acts (after_world_run w r) runs ∙ sym (after_all-append w (acts_by r.owner r.database_steps) (acts_of_runs runs))

module _ {Entry Ops : Type 0} (p : Layers Entry Ops) (HasSpelling : (ℕ × Ops) → Type 0) (lawful : Name → List Entry → Type 0) where
  allowed-append : (w : World Entry) (acts more : List (WorldStep Entry)) → AreAllowed p HasSpelling lawful w acts →
      AreAllowed p HasSpelling lawful (after_all w acts) more → AreAllowed p HasSpelling lawful w (acts ++ more)
  allowed-append w [] more prefix back = back
  allowed-append w (act ∷ acts) more prefix back = (prefix.0, allowed-append (happens w act) acts more prefix.1 back)

  -- what a run did are allowed steps
  run_allowed : (w : World Entry) (r : WorldRun Entry) → IsWorldRun p HasSpelling lawful w r → AreAllowed p HasSpelling lawful w (acts_by r.owner r.database_steps)
  run_allowed w r is = in_world p HasSpelling lawful r.known r.owner (history w r.owner) r.database_steps w is.named refl is.had_been_put is.can

  pub runs_allowed : (w : World Entry) (runs : List (WorldRun Entry)) → AreWorldRuns p HasSpelling lawful w runs → AreAllowed p HasSpelling lawful w (acts_of_runs runs)
  runs_allowed w [] are = tt
  runs_allowed w (r ∷ runs) are =
      allowed-append w (acts_by r.owner r.database_steps) (acts_of_runs runs) (run_allowed w r are.0) (runs_allowed (after_world_run w r) runs are.1)

  -- a run that breaks off is a run
  runs_begin : (w : World Entry) (runs : List (WorldRun Entry)) (owner : Name) (known : List Message) (database_steps more : List (DatabaseStep Entry)) →
      AreWorldRuns p HasSpelling lawful w (runs ++ record { owner = owner; known = known; database_steps = database_steps ++ more } ∷ []) →
      AreWorldRuns p HasSpelling lawful w (runs ++ record { owner = owner; known = known; database_steps = database_steps } ∷ [])
  runs_begin w [] owner known database_steps more are = (
    record {
      named = are.0.named;
      had_been_put = are.0.had_been_put;
      can = database_steps_begin p HasSpelling lawful known owner (history w owner) database_steps more are.0.can;
    },
    tt,
  )
  runs_begin w (r ∷ runs) owner known database_steps more are = (are.0, runs_begin (after_world_run w r) runs owner known database_steps more are.1)

  module _ (laws : Laws p HasSpelling lawful) where
    pub runs_stay : (w : World Entry) (runs : List (WorldRun Entry)) → IsGood p lawful w → AreWorldRuns p HasSpelling lawful w runs →
        IsGood p lawful (after_world_runs w runs)
    runs_stay w [] good are = good
    runs_stay w (r ∷ runs) good are =
        runs_stay (after_world_run w r) runs (stay p HasSpelling lawful laws w (acts_by r.owner r.database_steps) good (run_allowed w r are.0)) are.1

    -- and so they do where the last one breaks off
    pub beginnings_stay : (w : World Entry) (runs : List (WorldRun Entry)) (owner : Name) (known : List Message) (database_steps more : List (DatabaseStep Entry)) →
        IsGood p lawful w → AreWorldRuns p HasSpelling lawful w (runs ++ record { owner = owner; known = known; database_steps = database_steps ++ more } ∷ []) →
        IsGood p lawful (after_world_runs w (runs ++ record { owner = owner; known = known; database_steps = database_steps } ∷ []))
    beginnings_stay w runs owner known database_steps more good are =
        runs_stay w (runs ++ record { owner = owner; known = known; database_steps = database_steps } ∷ []) good (runs_begin w runs owner known database_steps more are)
