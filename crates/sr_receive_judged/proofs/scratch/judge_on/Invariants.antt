use Rattle.std.proofs.Common.{◌≡◌, length}
use Rattle.sr_rows.specs.Inner.Steps.{at_mark}
use Rattle.sr_receive_judged.specs.Inner.Judged.{state_in}
use Rattle.sr_receive_judged.proofs.Scratches.{ScratchSoFar}
use Rattle.sr_receive_judged.proofs.scratch.judge_on.Given as goal

abbrev pub invariant-ops : goal.invariant-ops
invariant-ops l = record {
  so_far : ScratchSoFar (state_in l.fn.scratch.catalog l.fn.scratch.rows.rows) (state_in l.scratch.catalog l.scratch.rows.rows) l.user l.above l.ops l.left l.judged.items;
  fresh : l.scratch.rows ≡ at_mark l.scratch.rows.rows;
}

abbrev pub decreases-ops : goal.decreases-ops
decreases-ops l = length l.left
