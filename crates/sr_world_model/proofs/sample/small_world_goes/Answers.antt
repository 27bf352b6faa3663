use Rattle.std.proofs.Common.{◌∷◌, []}
use Rattle.sr_world_model.specs.Machines.{layers_of}
use Rattle.sr_world_model.specs.Inner.Small.{small, small_world, small_runs, small_acts, cons, r1, r2}
use Rattle.sr_world_model.proofs.Reached.{small_laws, small_grants, small_are_runs}
use Rattle.sr_world_model.proofs.sample.small_world_goes.Goals as goal

pub returns-clause-laws : goal.returns-clause-laws
returns-clause-laws c = small_laws

pub returns-clause-grants : goal.returns-clause-grants
returns-clause-grants c = small_grants

pub returns-clause-runs : goal.returns-clause-runs
returns-clause-runs c = small_are_runs

pub returns-clause-allowed : goal.returns-clause-allowed
returns-clause-allowed c = c.runs_good.ensures.steps (layers_of small) small_world small_runs small_are_runs

pub returns-clause-good : goal.returns-clause-good
returns-clause-good c =
    let allowed = c.runs_good.ensures.steps (layers_of small) small_world small_runs small_are_runs in
    c.always_good.ensures.from_fresh (layers_of small) (c.has_laws.ensures small small_laws) (cons ∷ r1 ∷ r2 ∷ []) small_acts allowed
