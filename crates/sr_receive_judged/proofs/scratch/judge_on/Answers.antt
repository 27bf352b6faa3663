use Rattle.sr_receive_judged.specs.Inner.Judged.{state_in}
use Rattle.sr_receive_judged.proofs.Scratches.{scratch_on, scratch_start}
use Rattle.sr_receive_judged.proofs.scratch.judge_on.Goals as goal

pub ops-init : goal.ops-init
ops-init c = record {
  so_far = scratch_start (state_in c.args.scratch.now.catalog c.args.scratch.now.rows.rows) c.args.user.now c.args.above c.args.ops.now c.new-judged.result.items c.requires.rows c.requires.known
      c.new-judged.ensures.items;
  fresh = c.requires.fresh;
}

pub ops-preserved : goal.ops-preserved
ops-preserved c =
    let start = state_in c.args.scratch.now.catalog c.args.scratch.now.rows.rows in
    let now = state_in c.ops.scratch.catalog c.ops.scratch.rows.rows in
    let new = state_in c.judge_next.new.scratch.catalog c.judge_next.new.scratch.rows.rows in
    record {
      so_far = scratch_on start now new c.args.user.now c.args.above c.args.ops.now c.ops.left.now c.in-Some.rest.now c.in-Some.op.now c.ops.judged.items c.judge_next.new.judged.items
          c.ops.invariant.so_far c.in-Some.ensures.cases.0 c.requires.short c.in_ok-judge_next.ensures.more;
      fresh = c.in_ok-judge_next.ensures.fresh;
    }
