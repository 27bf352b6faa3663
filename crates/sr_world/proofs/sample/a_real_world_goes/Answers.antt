use Rattle.std.proofs.Common.{◌∷◌, []}
use Rattle.sr_database_history.specs.Inner.Sample.{cons, r1}
use Rattle.sr_world.specs.Real.{layers}
use Rattle.sr_world.specs.Inner.Sample.{r2, real_world, real_runs, real_acts}
use Rattle.sr_world.proofs.Keeping.{real_laws}
use Rattle.sr_world.proofs.Above.{cons_ends, cons_gives_r1, cons_gives_r2, cons_row}
use Rattle.sr_world.proofs.Below.{r1_ends, r1_gives, r1_row, r2_ends, r2_tables}
use Rattle.sr_world.proofs.Walked.{are_runs, body_lengths}
use Rattle.sr_world.proofs.sample.a_real_world_goes.Goals as goal

pub returns-clause-runs : goal.returns-clause-runs
returns-clause-runs c = are_runs

pub returns-clause-allowed : goal.returns-clause-allowed
returns-clause-allowed c = c.runs_good.ensures.steps layers real_world real_runs are_runs

pub returns-clause-good : goal.returns-clause-good
returns-clause-good c =
    let allowed = c.runs_good.ensures.steps layers real_world real_runs are_runs in
    c.always_good.ensures.from_fresh layers real_laws (cons ∷ r1 ∷ r2 ∷ []) real_acts allowed

pub returns-clause-given : goal.returns-clause-given
returns-clause-given c = cons_gives_r1 21

pub returns-clause-given_to_r2 : goal.returns-clause-given_to_r2
returns-clause-given_to_r2 c = cons_gives_r2 21

pub returns-clause-given_by_r1 : goal.returns-clause-given_by_r1
returns-clause-given_by_r1 c = r1_gives 12

pub returns-clause-ends_of_cons : goal.returns-clause-ends_of_cons
returns-clause-ends_of_cons c = cons_ends 21

pub returns-clause-ends_of_r1 : goal.returns-clause-ends_of_r1
returns-clause-ends_of_r1 c = r1_ends 12

pub returns-clause-ends_of_r2 : goal.returns-clause-ends_of_r2
returns-clause-ends_of_r2 c = r2_ends 4

pub returns-clause-row_at_cons : goal.returns-clause-row_at_cons
returns-clause-row_at_cons c = cons_row

pub returns-clause-row_at_r1 : goal.returns-clause-row_at_r1
returns-clause-row_at_r1 c = r1_row

pub returns-clause-tables_of_r2 : goal.returns-clause-tables_of_r2
returns-clause-tables_of_r2 c = r2_tables

pub returns-clause-bodies : goal.returns-clause-bodies
returns-clause-bodies c = body_lengths
