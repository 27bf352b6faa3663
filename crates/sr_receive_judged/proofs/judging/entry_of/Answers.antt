use Rattle.std.proofs.Common.{List, subst}
use Rattle.sr_database.specs.Views.{committed}
use Rattle.sr_database_fold.proofs.Changing.{ok_as}
use Rattle.sr_logform.specs.declared.op.Op.{Op}
use Rattle.sr_resolve.specs.Taking.{is_above}
use Rattle.sr_receive_judged.specs.Judged.{AreJudgedAs}
use Rattle.sr_receive_judged.proofs.Judgements.{entry_judged}
use Rattle.sr_receive_judged.proofs.judging.entry_of.Goals as goal

pub returns-clause-entry : goal.returns-clause-entry
returns-clause-entry c =
    let s = committed c.args.db.now in
    let user = c.args.user.now in
    let t = c.args.transaction.now in
    let ops = c.in_ok-ops.ops.items in
    let found = c.in_ok-ops.ensures.judged in
    let are : AreJudgedAs s found.0 (is_above s user) t.ops ops = subst (λ (l : List Op). AreJudgedAs s found.0 (is_above s user) l ops) c.as_slice.ensures.items found.1 in
    ok_as c.entry_with.result (λ entry is. entry_judged s found.0 user t ops entry c.requires.short are is) c.entry_with.ensures.entry
