use Rattle.std.proofs.Common.{◌≡◌, ◌+◌, ◌*◌, [], ◌∷◌, drop}
use Rattle.sr_ast.specs.Inner.Chains.{chain_size}
use Rattle.sr_ast.specs.Actions.{chain_of}
use Rattle.sr_resolve_triggers.specs.Actions.{acted}
use Rattle.sr_resolve_triggers.specs.Inner.Running.{update_conflict_of}
use Rattle.sr_resolve_triggers.specs.Bindings.{BindingsFits}
use Rattle.sr_resolve_triggers.proofs.acting.+acting.Given as goal

abbrev pub decreases-act : goal.decreases-act
decreases-act l = 2 * chain_size (chain_of (l.action.now ∷ []))

abbrev pub decreases-act_all : goal.decreases-act_all
decreases-act_all l = 2 * chain_size l.actions.now + 1

abbrev pub invariant-act_all-actions : goal.invariant-act_all-actions
invariant-act_all-actions l = record {
  acted : acted (update_conflict_of l.running.conflict) l.running.trigger.now (chain_of (drop l.action-index l.action-items)) l.bindings
      ≡ acted (update_conflict_of l.running.conflict) l.running.trigger.now l.actions l.fn.bindings;
  fits : BindingsFits (update_conflict_of l.running.conflict) l.running.trigger.now.variables l.bindings;
}
