use Rattle.std.proofs.Common.{take}
use Rattle.sr_world_partitions.proofs.Going.{are_runs}
use Rattle.sr_world_partitions.proofs.Keys.{comes_back, enters, leaves, leaves_again, moves_there}
use Rattle.sr_world_partitions.specs.Inner.Moves.{moving_names, moving_runs, moving_steps, moving_world, world_at}
use Rattle.sr_world_untouched.proofs.Sampled.{steps_prefix}
use Rattle.sr_world_partitions.proofs.moves.a_row_moves_and_comes_back.Goals as goal

pub returns-clause-runs : goal.returns-clause-runs
returns-clause-runs c = are_runs

pub returns-clause-good : goal.returns-clause-good
returns-clause-good c =
    λ n. c.every_step_keeps_a_world_good.ensures.always moving_names (take n moving_steps)
    (steps_prefix n moving_world moving_steps (c.runs_keep_a_world_good.ensures.steps moving_world moving_runs are_runs))

pub returns-clause-agree : goal.returns-clause-agree
returns-clause-agree c =
    λ n. c.untouched_keys_agree.ensures.agree (world_at n)
    (c.every_step_keeps_a_world_good.ensures.always moving_names (take n moving_steps)
    (steps_prefix n moving_world moving_steps (c.runs_keep_a_world_good.ensures.steps moving_world moving_runs are_runs)))

pub returns-clause-enters : goal.returns-clause-enters
returns-clause-enters c = enters

pub returns-clause-leaves : goal.returns-clause-leaves
returns-clause-leaves c = leaves

pub returns-clause-comes_back : goal.returns-clause-comes_back
returns-clause-comes_back c = comes_back

pub returns-clause-moves_there : goal.returns-clause-moves_there
returns-clause-moves_there c = moves_there

pub returns-clause-leaves_again : goal.returns-clause-leaves_again
returns-clause-leaves_again c = leaves_again
