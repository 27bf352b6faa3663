use Rattle.std.proofs.lemmas.Result.{err_from_is_err_and}
use Rattle.sr_agent.proofs.BegunAt.{restart_told, unbegun_broken, unbegun_untold}
use Rattle.sr_agent.proofs.restarting.restart.Goals as goal

pub returns-in_err-begin_anew-clause-unbegun : goal.returns-in_err-begin_anew-clause-unbegun
returns-in_err-begin_anew-clause-unbegun g c =
    let p = err_from_is_err_and c.from_residual.result c.from_residual.ensures.1 in
    rw (p.1, p.2) (unbegun_broken c.args.db.now c.begin_anew.new.db (g.S.Held.seen c.args.site.now) (g.S.Held.seen c.begin_anew.new.site) (g.O.Sink.seen c.args.sink.now) c.in_err-begin_anew.field-0.0
    c.in_err-begin_anew.ensures.broken)

pub returns-in_err-tell_restart-clause-unbegun : goal.returns-in_err-tell_restart-clause-unbegun
returns-in_err-tell_restart-clause-unbegun g c =
    let p = err_from_is_err_and c.from_residual-in_err-tell_restart.result c.from_residual-in_err-tell_restart.ensures.1 in
    rw (p.1) (unbegun_untold c.args.db.now c.begin_anew.new.db (g.S.Held.seen c.args.site.now) (g.S.Held.seen c.begin_anew.new.site) (g.O.Sink.seen c.args.sink.now) (g.O.Sink.seen c.tell_restart.new.sink) p.0
    c.base.result.0 c.in_ok-begin_anew.ensures.restarts c.base.ensures.base c.in_err-tell_restart.ensures.failed p.2)

pub returns-clause-told : goal.returns-clause-told
returns-clause-told g c =
    restart_told c.args.db.now c.begin_anew.new.db (g.S.Held.seen c.args.site.now) (g.S.Held.seen c.begin_anew.new.site) (g.O.Sink.seen c.args.sink.now) (g.O.Sink.seen c.tell_restart.new.sink) c.base.result.0
    c.in_ok-begin_anew.ensures.restarts c.base.ensures.base c.in_ok-tell_restart.ensures.told
