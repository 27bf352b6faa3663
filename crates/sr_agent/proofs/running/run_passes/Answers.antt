use Rattle.std.proofs.Common.{List, refl, sym, subst}
use Rattle.std.specs.List.{AllByRecursion}
use Rattle.std.proofs.lemmas.Result.{err_from_is_err_and}
use Rattle.sr_agent.specs.Inner.Steps.{MaySendTo, SendingDone, SendingBroken}
use Rattle.sr_agent.specs.declared.partner.Partner.{Partner}
use Rattle.sr_agent.proofs.Made.{are_users, made_where}
use Rattle.sr_agent.proofs.Ran.{ran_broken, ran_stopped, ran_whole}
use Rattle.sr_agent.proofs.running.run_passes.Goals as goal

pub receive_pass-requires-clause-users : goal.receive_pass-requires-clause-users
receive_pass-requires-clause-users g c = are_users c.args.db.now c.args.names.now c.requires.names

pub returns-in_err-progress : goal.returns-in_err-progress
returns-in_err-progress g c =
    let p = err_from_is_err_and c.from_residual.result c.from_residual.ensures.1 in
    rw (p.1, p.2) (record { ran = ran_broken c.args.db.now c.receive_pass.new.db _ _ c.args.options.now c.args.names.now _ _ c.in_err-progress.field-0.0 c.requires.ready c.requires.names c.in_err-progress.ensures.broken })

pub send_pass-outcome-requires-clause-may : goal.send_pass-outcome-requires-clause-may
send_pass-outcome-requires-clause-may g c =
    let made = made_where c.args.options.now.receive c.args.db.now c.receive_pass.new.db _ _ c.args.options.now c.args.names.now _ _ c.in_ok-progress.progress
    (are_users c.args.db.now c.args.names.now c.requires.names) refl c.in_ok-progress.ensures.made in
    subst (λ (ps : List Partner). AllByRecursion (MaySendTo c.receive_pass.new.db) ps) (sym c.as_slice.ensures.value) made.may

pub returns-in-Ok : goal.returns-in-Ok
returns-in-Ok g c =
    let done = subst (λ (ps : List Partner). SendingDone c.args.options.now c.receive_pass.new.db c.send_pass-outcome.new.db (g.S.Held.seen c.receive_pass.new.site) (g.S.Held.seen c.send_pass-outcome.new.site) ps
    (g.O.Sink.seen c.receive_pass.new.sink) (g.O.Sink.seen c.send_pass-outcome.new.sink)) c.as_slice.ensures.value c.in-Ok.ensures.done in
    record {
      ran = ran_whole c.args.db.now c.receive_pass.new.db c.send_pass-outcome.new.db _ _ _ c.args.options.now c.args.names.now c.in_ok-progress.progress _ _ _ c.in_ok-progress.progress.alarms
          c.requires.names c.in-Ok.ensures.ready c.in_ok-progress.ensures.made done refl;
    }

pub returns-in-Err : goal.returns-in-Err
returns-in-Err g c =
    let broken = subst (λ (ps : List Partner). SendingBroken c.args.options.now c.receive_pass.new.db c.send_pass-outcome.new.db (g.S.Held.seen c.receive_pass.new.site) (g.S.Held.seen c.send_pass-outcome.new.site) ps
    (g.O.Sink.seen c.receive_pass.new.sink) (g.O.Sink.seen c.send_pass-outcome.new.sink) c.in-Err.fault) c.as_slice.ensures.value c.in-Err.ensures.broken in
    record {
      ran = ran_stopped c.args.db.now c.receive_pass.new.db c.send_pass-outcome.new.db _ _ _ c.args.options.now c.args.names.now c.in_ok-progress.progress _ _ _ c.in-Err.fault
          c.requires.names c.in_ok-progress.ensures.made broken;
    }
