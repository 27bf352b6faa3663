-- Runs of several databases, one after the other, as acts of a world.
use Rattle.std.specs.Prelude.{ℕ, List, [], ◌∷◌}
use Rattle.sr_book.specs.Entries.{Name}
use Rattle.sr_msgform.specs.declared.message.Message.{Message}
use Rattle.sr_world_model.specs.Layers.{Layers}
use Rattle.sr_world_model.specs.Steps.{DatabaseStep, CanDoAll}
use Rattle.sr_world_model.specs.Worlds.{World, history, after_all, acts_by, IsNamed, AreAmong}

-- a run: the database that it is of, the messages that were known to it at its last fetch, and what it did, in order
pub record WorldRun (Entry : Type 0) : Type 0 where
  pub owner : Name
  pub known : List Message
  pub database_steps : List (DatabaseStep Entry)

-- the world after a run, which stands where its last fetch was
abbrev pub after_world_run : {Entry : Type 0} → World Entry → WorldRun Entry → World Entry
after_world_run w r = after_all w (acts_by r.owner r.database_steps)

-- the world after some runs
abbrev pub after_world_runs : {Entry : Type 0} → World Entry → List (WorldRun Entry) → World Entry
after_world_runs w [] = w
after_world_runs w (r ∷ runs) = after_world_runs (after_world_run w r) runs

module _ {Entry Ops : Type 0} (p : Layers Entry Ops) (HasSpelling : (ℕ × Ops) → Type 0) (lawful : Name → List Entry → Type 0) where
  -- a run of a database of this world: the messages that it knew had been put, and all that it did is allowed by its history and these
  pub record IsWorldRun (w : World Entry) (r : WorldRun Entry) : Type 0 where
    pub named : IsNamed w r.owner
    pub had_been_put : AreAmong r.known w.messages
    pub can : CanDoAll p HasSpelling lawful r.known r.owner (history w r.owner) r.database_steps

  -- each is a run of the world that those before it leave
  abbrev pub AreWorldRuns : World Entry → List (WorldRun Entry) → Type 0
  AreWorldRuns w [] = Unit {0}
  AreWorldRuns w (r ∷ runs) = IsWorldRun w r × AreWorldRuns (after_world_run w r) runs
