-- Steps that a world allows.
-- Here is what no contract of the program says by itself.
use Rattle.std.specs.Prelude.{ℕ, List, [], ◌∷◌}
use Rattle.sr_book.specs.Entries.{Name}
use Rattle.sr_world_model.specs.Layers.{Layers}
use Rattle.sr_world_model.specs.Steps.{CanDo}
use Rattle.sr_world_model.specs.Worlds.{World, WorldStep, history, happens, IsNamed}

module _ {Entry Ops : Type 0} (p : Layers Entry Ops) (HasSpelling : (ℕ × Ops) → Type 0) (lawful : Name → List Entry → Type 0) where
  -- a step is allowed: its database is there, and may do this by its history and the messages
  abbrev pub IsAllowed : World Entry → WorldStep Entry → Type 0
  IsAllowed w act = IsNamed w act.owner × CanDo p HasSpelling lawful w.messages act.owner (history w act.owner) act.database_step

  -- each step is allowed at its moment
  abbrev pub AreAllowed : World Entry → List (WorldStep Entry) → Type 0
  AreAllowed w [] = Unit {0}
  AreAllowed w (act ∷ acts) = IsAllowed w act × AreAllowed (happens w act) acts
