use Rattle.std.proofs.lemmas.List.{nil_from_length}
use Rattle.sr_database_fold.specs.Inner.Readings.{state_in}
use Rattle.sr_world_entries.proofs.Judgements.{judged_all, judged_none, judged_on}
use Rattle.sr_world_entries.proofs.judging.judge_all.Goals as goal

pub ops-init : goal.ops-init
ops-init c = record {
  so_far = judged_none (state_in c.args.catalog.now c.args.rows.now) c.args.user.now c.args.above c.args.ops.now c.new-judged.result.items c.requires.rows c.requires.known
      c.new-judged.ensures.items;
  fresh = c.requires.fresh;
}

pub ops-preserved : goal.ops-preserved
ops-preserved c =
    let start = state_in c.args.catalog.now c.args.rows.now in
    let now = state_in c.ops.catalog c.ops.rows in
    let new = state_in c.judge_next.new.catalog c.judge_next.new.rows in
    record {
      so_far = judged_on start now new c.args.user.now c.args.above c.args.ops.now c.ops.left.now c.in-Some.rest.now c.in-Some.op.now c.ops.judged.items c.judge_next.new.judged.items
          c.ops.invariant.so_far c.in-Some.ensures.cases.0 c.in_ok-judge_next.ensures.more;
      fresh = c.in_ok-judge_next.ensures.fresh;
    }

pub returns : goal.returns
returns c = record {
  judged = judged_all (state_in c.args.catalog.now c.args.rows.now) (state_in c.ops.catalog c.ops.rows) c.args.user.now c.args.above c.args.ops.now c.ops.left.now
      c.ops.judged.items c.ops.invariant.so_far (nil_from_length c.ops.left.now c.in_default.ensures.cases);
}
