use Rattle.std.proofs.Common.{Bool, IfOk, subst}
use Rattle.sr_database_fold.specs.Inner.Readings.{state_in}
use Rattle.sr_world_entries.specs.Inner.Judging.{AreJudgedAs}
use Rattle.sr_world_entries.proofs.judging.judge_ops.Goals as goal

pub returns : goal.returns
returns c =
    let s = state_in c.args.catalog.now c.args.rows.now in
    let after = state_in c.judge_all.new.catalog c.judge_all.new.rows in
    record {
      judged = subst (λ (b : Bool). IfOk c.judge_all.result (λ judged. AreJudgedAs s after b c.args.ops.now judged.items)) c.is_above-above.ensures.above c.judge_all.ensures.judged;
    }
