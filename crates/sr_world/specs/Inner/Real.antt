-- The layers as they are: what the world is made of.
-- Here is what no contract of the program says by itself.
use Rattle.std.specs.Prelude.{List}
use Rattle.sr_database_history.specs.Recorded.{Recorded}
use Rattle.sr_world_model.specs.Worlds.{World, WorldStep}
use Rattle.sr_world_model.specs.Inner.Worlds.{IsAllowed, AreAllowed}
use Rattle.sr_world.specs.Real.{HasSpelling, layers, LawfulHistory}

-- a step that a database may make in a world
abbrev pub IsStep : World Recorded → WorldStep Recorded → Type 0
IsStep w act = IsAllowed layers HasSpelling LawfulHistory w act

-- steps, each in the world that those before it leave
abbrev pub AreSteps : World Recorded → List (WorldStep Recorded) → Type 0
AreSteps w acts = AreAllowed layers HasSpelling LawfulHistory w acts
