use Rattle.std.proofs.Common.{subst, sym, ◌∙◌}
use Rattle.sr_resolve_triggers.specs.Inner.Running.{update_conflict_of, AliasesFit}
use Rattle.sr_resolve_triggers.proofs.Sources.{aliases_fit, scope_all, values_all}
use Rattle.sr_resolve_triggers.proofs.running.sources.Goals as goal

pub add_rows-requires-clause-fit : goal.add_rows-requires-clause-fit
add_rows-requires-clause-fit c =
    let base = update_conflict_of c.args.running.now.conflict in
    let trigger = c.args.running.now.trigger.now in
    let fit = aliases_fit base c.args.bindings.now trigger.variables trigger.aliases c.requires.base c.requires.bindings in
    subst (AliasesFit base c.args.bindings.now) (sym (c.as_slice.ensures.value ∙ c.requires.ready.aliases)) fit

pub returns-clause-columns : goal.returns-clause-columns
returns-clause-columns c =
    scope_all c.args.running.now.conflict.table.now c.args.running.now.trigger.now _ _ _ _ _ c.new-sources.ensures.items c.in_ok-push.ensures.items
    c.requires.ready.variables (c.as_slice.ensures.value ∙ c.requires.ready.aliases) c.in_ok-add_rows.ensures.columns

pub returns-clause-values : goal.returns-clause-values
returns-clause-values c =
    values_all (update_conflict_of c.args.running.now.conflict) c.args.running.now.trigger.now c.args.bindings.now c.args.running.now.conflict.table.now _ _ _ _ _
    c.new-sources.ensures.items c.in_ok-push.ensures.items c.variables.ensures.variables (c.as_slice.ensures.value ∙ c.requires.ready.aliases)
    c.in_ok-add_rows.ensures.values
