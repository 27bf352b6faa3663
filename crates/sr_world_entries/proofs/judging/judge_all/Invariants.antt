use Rattle.std.proofs.Common.{◌≡◌, length}
use Rattle.sr_database_fold.specs.Inner.Readings.{state_in}
use Rattle.sr_rows.specs.Inner.Steps.{at_mark}
use Rattle.sr_world_entries.proofs.Judgements.{JudgedSoFar}
use Rattle.sr_world_entries.proofs.judging.judge_all.Given as goal

abbrev pub invariant-ops : goal.invariant-ops
invariant-ops l = record {
  so_far : JudgedSoFar (state_in l.fn.catalog l.fn.rows) (state_in l.catalog l.rows) l.user l.above l.ops l.left l.judged.items;
  fresh : l.rows ≡ at_mark l.rows.rows;
}

abbrev pub decreases-ops : goal.decreases-ops
decreases-ops l = length l.left
