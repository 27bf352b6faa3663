use Rattle.std.proofs.Common.{◌≡◌, ◌∙◌, Bool, IfOk, ap, subst}
use Rattle.sr_database.specs.Views.{committed}
use Rattle.sr_database_history.specs.Folds.{State}
use Rattle.sr_catalog_ddl.specs.Users.{stands_above}
use Rattle.sr_resolve.specs.Taking.{is_above}
use Rattle.sr_catalog_schema.specs.Catalogs.{Lists}
use Rattle.sr_catalog_schema.specs.Members.{user_name}
use Rattle.sr_catalog_schema.specs.Names.{named}
use Rattle.sr_receive_judged.specs.Judged.{AreJudgedAs}
use Rattle.sr_receive_judged.proofs.judging.judge_all.Goals as goal

pub returns-then-is_mixed-clause-judged : goal.returns-then-is_mixed-clause-judged
returns-then-is_mixed-clause-judged c =
    let db = c.args.db.now in
    let same : c.is_above-above.result ≡ is_above (committed db) c.args.user.now =
    c.is_above-above.ensures.above ∙ ap (λ (l : Lists). stands_above (named user_name c.args.user.now l.users)) c.catalog.ensures.catalog in
    subst (λ (b : Bool). IfOk c.judge_beside.result (λ judged. (x : State) × AreJudgedAs (committed db) x b c.args.ops.now judged.items)) same c.judge_beside.ensures.judged

pub returns-clause-judged : goal.returns-clause-judged
returns-clause-judged c =
    let db = c.args.db.now in
    let same : c.is_above-above.result ≡ is_above (committed db) c.args.user.now =
    c.is_above-above.ensures.above ∙ ap (λ (l : Lists). stands_above (named user_name c.args.user.now l.users)) c.catalog.ensures.catalog in
    subst (λ (b : Bool). IfOk c.judge_here.result (λ judged. (x : State) × AreJudgedAs (committed db) x b c.args.ops.now judged.items)) same c.judge_here.ensures.judged
