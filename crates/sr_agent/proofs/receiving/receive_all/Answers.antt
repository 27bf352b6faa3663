use Rattle.std.proofs.Common.{refl}
use Rattle.std.proofs.lemmas.Result.{err_from_is_err_and}
use Rattle.sr_agent.proofs.All.{all_broken, all_done, all_stopped, ready_then}
use Rattle.sr_agent.proofs.receiving.receive_all.Goals as goal

pub returns-in_err-bag-clause-broken : goal.returns-in_err-bag-clause-broken
returns-in_err-bag-clause-broken g c =
    let p = err_from_is_err_and c.from_residual.result c.from_residual.ensures.1 in
    rw (p.1, p.2) (all_broken c.args.db.now _ _ c.args.names.now c.args.purges _ _ c.in_err-bag.field-0.0 c.in_err-bag.ensures.broken)

pub receive_in_order-outcome-requires-clause-ready : goal.receive_in_order-outcome-requires-clause-ready
receive_in_order-outcome-requires-clause-ready g c = ready_then c.args.db.now (g.S.Held.seen c.args.site.now) (g.S.Held.seen c.gather_all.new.site) _ _ _ _ c.requires.ready c.in_ok-bag.ensures.done

pub receive_in_order-outcome-requires-clause-holds :
    goal.receive_in_order-outcome-requires-clause-holds
receive_in_order-outcome-requires-clause-holds g c = c.in_ok-bag.ensures.holds

pub returns-in-Ok-clause-done : goal.returns-in-Ok-clause-done
returns-in-Ok-clause-done g c =
    all_done c.args.db.now c.receive_in_order-outcome.new.db _ (g.S.Held.seen c.gather_all.new.site) _ c.args.names.now c.args.purges _ _
    (record { partners = c.new.result; alarms = c.in_ok-bag.alarms }) c.receive_in_order-outcome.new.progress _ _ _ c.in_ok-bag.ensures.done refl c.new.ensures.items c.in-Ok.ensures.done

pub returns-in-Err-clause-broken : goal.returns-in-Err-clause-broken
returns-in-Err-clause-broken g c =
    all_stopped c.args.db.now c.receive_in_order-outcome.new.db _ (g.S.Held.seen c.gather_all.new.site) _ c.args.names.now c.args.purges _ _ _ _ _ c.in-Err.fault c.in_ok-bag.ensures.done c.in-Err.ensures.broken
