use Rattle.std.proofs.Common.{sym, subst}
use Rattle.sr_ast.specs.declared.stmt.Stmt.{Stmt}
use Rattle.sr_session_script.specs.Meaning.{done_by, committed, rolled}
use Rattle.sr_session.specs.Inner.Ready.{work_of}
use Rattle.sr_session.specs.Inner.Steps.{Took}
use Rattle.sr_session.proofs.Dispatch.{users_behind}
use Rattle.sr_session.proofs.step.step.Goals as goal

pub returns-in-Commit-clause-took : goal.returns-in-Commit-clause-took
unfolding done_by
returns-in-Commit-clause-took g c =
    let region = c.args.session.now.region in
    subst (λ (s : Stmt). Took (done_by (work_of c.args.db.now region) s) c.args.db.now c.commit.new.db (g.S.Held.seen c.args.site.now) (g.S.Held.seen c.commit.new.site) c.args.session.now.lines.items c.commit.new.lines.items
    region c.commit.result)
    (sym c.in-Commit.is) (c.commit.ensures.took region)

pub returns-in-Commit-clause-users : goal.returns-in-Commit-clause-users
returns-in-Commit-clause-users g c =
    let region = c.args.session.now.region in
    users_behind (committed (work_of c.args.db.now region)) c.args.db.now c.commit.new.db (g.S.Held.seen c.args.site.now) (g.S.Held.seen c.commit.new.site) c.args.session.now.lines.items c.commit.new.lines.items region
    c.commit.result (c.commit.ensures.took region) c.requires.ready.sound c.requires.users

pub returns-in-Rollback-clause-took : goal.returns-in-Rollback-clause-took
unfolding done_by
returns-in-Rollback-clause-took g c =
    let region = c.args.session.now.region in
    let seen = g.S.Held.seen c.args.site.now in
    subst (λ (s : Stmt). Took (done_by (work_of c.args.db.now region) s) c.args.db.now c.roll_back.new.db seen seen c.args.session.now.lines.items c.roll_back.new.lines.items region c.roll_back.result) (sym c.in-Rollback.is)
    (c.roll_back.ensures.took seen region)

pub returns-in-Rollback-clause-users : goal.returns-in-Rollback-clause-users
returns-in-Rollback-clause-users g c =
    let region = c.args.session.now.region in
    let seen = g.S.Held.seen c.args.site.now in
    users_behind (rolled (work_of c.args.db.now region)) c.args.db.now c.roll_back.new.db seen seen c.args.session.now.lines.items c.roll_back.new.lines.items region c.roll_back.result
    (c.roll_back.ensures.took seen region) c.requires.ready.sound c.requires.users

pub returns-in-Select-clause-took : goal.returns-in-Select-clause-took
unfolding done_by
returns-in-Select-clause-took g c =
    let region = c.args.session.now.region in
    let seen = g.S.Held.seen c.args.site.now in
    subst (λ (s : Stmt). Took (done_by (work_of c.args.db.now region) s) c.args.db.now c.args.db.now seen seen c.args.session.now.lines.items c.select.new.lines.items region c.select.result) (sym c.in-Select.is)
    (c.select.ensures.took seen region)
