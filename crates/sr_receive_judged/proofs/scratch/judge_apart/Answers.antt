use Rattle.std.proofs.Common.{subst}
use Rattle.sr_database_fold.proofs.Changing.{ok_as}
use Rattle.sr_database_history.specs.Folds.{State}
use Rattle.sr_receive_judged.specs.Judged.{AreJudgedAs}
use Rattle.sr_receive_judged.specs.Inner.Judged.{state_in}
use Rattle.sr_receive_judged.proofs.Scratches.{same_scratch}
use Rattle.sr_receive_judged.proofs.scratch.judge_apart.Goals as goal

pub returns : goal.returns
returns c =
    let after = state_in c.judge_on-judged.new.scratch.catalog c.judge_on-judged.new.scratch.rows.rows in
    let same = same_scratch c.args.catalog.now c.in_ok-scratch.scratch.catalog c.args.rows.now.rows c.in_ok-scratch.scratch.rows c.in_ok-scratch.ensures.catalog c.in_ok-scratch.ensures.rows in
    record {
      judged = ok_as c.judge_on-judged.result (λ judged are. (after, subst (λ (s : State). AreJudgedAs s after c.args.above c.args.ops.now judged.items) same are))
          c.judge_on-judged.ensures.judged;
    }
