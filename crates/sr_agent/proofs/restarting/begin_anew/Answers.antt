use Rattle.sr_agent.proofs.BegunAt.{begins_there, broken_after, can_there, need_broken_in, need_passed_in, restarts_after}
use Rattle.sr_agent.proofs.restarting.begin_anew.Goals as goal

pub begin_at-requires-clause-can : goal.begin_at-requires-clause-can
begin_at-requires-clause-can g c = can_there c.args.db.now (g.S.Held.seen c.args.site.now) (g.S.Held.seen c.least_need.new.site) c.requires.can c.least_need.ensures.in_force c.least_need.ensures.read

pub begin_at-requires-clause-begins : goal.begin_at-requires-clause-begins
begin_at-requires-clause-begins g c = begins_there c.args.db.now (g.S.Held.seen c.args.site.now) (g.S.Held.seen c.least_need.new.site) c.least_need.ensures.read c.requires.begins

pub returns-in-Ok-clause-restarts : goal.returns-in-Ok-clause-restarts
returns-in-Ok-clause-restarts g c =
    restarts_after c.args.db.now (g.S.Held.seen c.args.site.now) (g.S.Held.seen c.least_need.new.site) c.in-Ok.keep c.least_need.ensures.read c.in-Ok.ensures.steady c.in-Ok.ensures.least c.begin_at.new.db
    (g.S.Held.seen c.begin_at.new.site) c.begin_at.result c.begin_at.ensures.begins

pub returns-in-Ok-clause-broken : goal.returns-in-Ok-clause-broken
returns-in-Ok-clause-broken g c =
    broken_after c.args.db.now (g.S.Held.seen c.args.site.now) (g.S.Held.seen c.least_need.new.site) c.in-Ok.keep c.least_need.ensures.read c.in-Ok.ensures.steady c.in-Ok.ensures.least c.begin_at.new.db
    (g.S.Held.seen c.begin_at.new.site) c.begin_at.result c.begin_at.ensures.breaks

pub returns-in-Err-clause-restarts : goal.returns-in-Err-clause-restarts
returns-in-Err-clause-restarts g c =
    need_passed_in c.args.db.now (g.S.Held.seen c.args.site.now) (g.S.Held.seen c.least_need.new.site) c.in-Err.fault c.ended_by_need.result c.requires.can c.least_need.ensures.in_force c.least_need.ensures.read
    c.ended_by_need.ensures.passed c.in-Err.ensures.cause

pub returns-in-Err-clause-broken : goal.returns-in-Err-clause-broken
returns-in-Err-clause-broken g c =
    need_broken_in c.args.db.now (g.S.Held.seen c.args.site.now) (g.S.Held.seen c.least_need.new.site) c.in-Err.fault c.ended_by_need.result c.requires.can c.least_need.ensures.read c.ended_by_need.ensures.ended
    c.in-Err.ensures.cause
