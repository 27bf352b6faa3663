use Rattle.std.proofs.Common.{◌≡◌, ◌∙◌, subst}
use Rattle.sr_database.specs.Views.{committed}
use Rattle.sr_database_fold.proofs.Changing.{ok_as}
use Rattle.sr_database_history.specs.Folds.{State}
use Rattle.sr_receive_judged.specs.Judged.{AreJudgedAs}
use Rattle.sr_receive_judged.specs.Inner.Judged.{state_in}
use Rattle.sr_receive_judged.proofs.Pendings.{nothing_pending}
use Rattle.sr_receive_judged.proofs.judging.judge_beside.Goals as goal

pub returns : goal.returns
returns c =
    let db = c.args.db.now in
    let here : state_in c.catalog.result.now c.rows.result.now.rows ≡ committed db =
    (λ i. state_in (c.catalog.ensures.catalog i) (c.rows.ensures.rows i).rows) ∙ nothing_pending db c.requires.sound c.requires.pending in
    record {
      judged = ok_as c.judge_apart.result (λ judged found. (found.0, subst (λ (s : State). AreJudgedAs s found.0 c.args.above c.args.ops.now judged.items) here found.1))
          c.judge_apart.ensures.judged;
    }
