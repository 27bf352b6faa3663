use Rattle.std.proofs.Common.{◌∷◌, [], take}
use Rattle.sr_database_history.specs.Inner.Sample.{cons, r1}
use Rattle.sr_world_untouched.proofs.Sampled.{steps_prefix, since_sync, since_start, synced_row, inserted_row}
use Rattle.sr_world.specs.Inner.Sample.{r2, real_world, real_acts}
use Rattle.sr_world_untouched.proofs.sample.keys_are_untouched.Goals as goal

pub returns-clause-synced : goal.returns-clause-synced
returns-clause-synced c = since_sync

pub returns-clause-started : goal.returns-clause-started
returns-clause-started c = since_start

pub returns-clause-good_when_synced : goal.returns-clause-good_when_synced
returns-clause-good_when_synced c =
    c.every_step_keeps_a_world_good.ensures.always (cons ∷ r1 ∷ r2 ∷ []) (take 19 real_acts) (steps_prefix 19 real_world real_acts c.a_real_world_goes.ensures.allowed)

pub returns-clause-good_when_inserted : goal.returns-clause-good_when_inserted
returns-clause-good_when_inserted c =
    c.every_step_keeps_a_world_good.ensures.always (cons ∷ r1 ∷ r2 ∷ []) (take 35 real_acts) (steps_prefix 35 real_world real_acts c.a_real_world_goes.ensures.allowed)

pub returns-clause-row_of_r2 : goal.returns-clause-row_of_r2
returns-clause-row_of_r2 c = synced_row

pub returns-clause-row_of_r1 : goal.returns-clause-row_of_r1
returns-clause-row_of_r1 c = inserted_row
