use Rattle.std.proofs.Common.{[]}
use Rattle.sr_database.proofs.Advancing.{advanced_then}
use Rattle.sr_receive_judged.proofs.Pendings.{judged_from, pending_end, pending_on, pending_start}
use Rattle.sr_receive_judged.proofs.judging.judge_pending.Goals as goal

pub ops-init : goal.ops-init
ops-init c = pending_start c.args.db.now c.args.above c.args.ops.now c.new-judged.result.items c.new-judged.ensures.items

pub ops-preserved : goal.ops-preserved
ops-preserved c =
    pending_on c.args.db.now c.ops.db c.judge_next.new.db c.args.above c.args.ops.now c.ops.left.now c.in-Some.rest.now c.in-Some.op.now c.ops.judged.items c.judge_next.new.judged.items
    c.ops.invariant c.in-Some.ensures.cases.0 c.requires.short c.requires.plain c.in_ok-judge_next.ensures.more c.in_ok-judge_next.ensures.catalog c.in_ok-judge_next.ensures.log
    c.in_ok-judge_next.ensures.value

pub returns-clause-judged : goal.returns-clause-judged
returns-clause-judged c =
    let found = pending_end c.args.db.now c.ops.db c.args.above c.args.ops.now c.ops.left.now c.ops.judged.items c.ops.invariant c.in_default.ensures.cases in
    (found.0, judged_from c.args.db.now found.0 c.args.above c.args.ops.now c.ops.judged.items c.requires.sound c.requires.pending found.1)

pub returns-in_err-judge_next-clause-value : goal.returns-in_err-judge_next-clause-value
returns-in_err-judge_next-clause-value c =
    let so = c.ops.invariant in
    advanced_then c.args.db.now c.ops.db c.judge_next.new.db [] [] so.value c.judge_next.ensures.value
