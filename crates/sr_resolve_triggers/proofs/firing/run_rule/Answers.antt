use Rattle.sr_resolve_triggers.proofs.Sources.{begun_fits}
use Rattle.sr_resolve_triggers.proofs.firing.run_rule.Goals as goal

pub act_all-requires-clause-bindings : goal.act_all-requires-clause-bindings
act_all-requires-clause-bindings c =
    begun_fits c.args.conflict.now c.in_ok-running.running.conflict c.args.rule.now c.in_ok-running.running.trigger.now c.args.bindings.now c.enter.new.self
    c.in_ok-running.ensures.conflict c.in_ok-running.ensures.trigger c.in_ok-enter.ensures.entered c.requires.row
