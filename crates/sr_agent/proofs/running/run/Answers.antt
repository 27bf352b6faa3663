use Rattle.std.proofs.lemmas.Result.{err_from_is_err_and}
use Rattle.sr_agent.proofs.Ran.{ran_none}
use Rattle.sr_agent.proofs.running.run.Goals as goal

pub returns-in_err-names : goal.returns-in_err-names
returns-in_err-names g c =
    let p = err_from_is_err_and c.from_residual.result c.from_residual.ensures.1 in
    rw (p.1, p.2) (record { ran = ran_none c.args.db.now (g.S.Held.seen c.args.site.now) (g.O.Sink.seen c.args.sink.now) c.args.options.now c.requires.can.usable c.requires.can.idle })
