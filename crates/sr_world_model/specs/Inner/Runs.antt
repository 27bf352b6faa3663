-- Runs of several databases as the steps that they make.
-- Here is what no contract of the program says by itself.
use Rattle.std.specs.Prelude.{List, [], ◌∷◌, ◌++◌}
use Rattle.sr_world_model.specs.Runs.{WorldRun}
use Rattle.sr_world_model.specs.Worlds.{WorldStep, acts_by}

-- the steps of some runs, one run after the other
abbrev pub acts_of_runs : {Entry : Type 0} → List (WorldRun Entry) → List (WorldStep Entry)
acts_of_runs [] = []
acts_of_runs (r ∷ runs) = acts_by r.owner r.database_steps ++ acts_of_runs runs
