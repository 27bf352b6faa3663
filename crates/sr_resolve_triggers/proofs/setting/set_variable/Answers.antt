use Rattle.std.proofs.Common.{◌≡◌, Some, None, rules, subst, sym, ◌∙◌}
use Rattle.std.specs.Prelude.{slice_get}
use Rattle.sr_catalog_schema.specs.Names.{place_of}
use Rattle.sr_catalog_triggers.specs.Triggers.{variable_name}
use Rattle.sr_resolve_triggers.specs.Holding.{held_in}
use Rattle.sr_resolve_triggers.specs.Inner.Running.{update_conflict_of}
use Rattle.sr_resolve_triggers.specs.Bindings.{BindingsFits}
use Rattle.sr_resolve_triggers.proofs.Sets.{item_is, no_variable, variable_set, variable_fails, variable_goes}
use Rattle.sr_resolve_triggers.proofs.setting.set_variable.Goals as goal

pub returns-in_default-clause-set : goal.returns-in_default-clause-set
returns-in_default-clause-set c =
    let base = update_conflict_of c.args.running.now.conflict in
    let trigger = c.args.running.now.trigger.now in
    let at : place_of variable_name c.args.name.now trigger.variables ≡ None = search rules in
    no_variable base trigger c.args.name.now c.args.value c.args.bindings.now at

pub returns-in_default-held_in-clause-set : goal.returns-in_default-held_in-clause-set
returns-in_default-held_in-clause-set c =
    let base = update_conflict_of c.args.running.now.conflict in
    let trigger = c.args.running.now.trigger.now in
    let at : place_of variable_name c.args.name.now trigger.variables ≡ Some c.in-Some.place = search rules in
    let is : slice_get trigger.variables c.in-Some.place ≡ Some c.in-Some-item_at.variable.now =
    item_is _ _ _ _ _ c.as_slice-variables.ensures.items c.item_at.ensures c.in-Some-item_at.is in
    let held : held_in c.in-Some-item_at.variable.now c.args.value ≡ None = search rules in
    variable_fails base trigger c.args.name.now c.args.value c.args.bindings.now c.in-Some.place c.in-Some-item_at.variable.now at is held

pub returns-clause-set : goal.returns-clause-set
returns-clause-set c =
    let base = update_conflict_of c.args.running.now.conflict in
    let trigger = c.args.running.now.trigger.now in
    let at : place_of variable_name c.args.name.now trigger.variables ≡ Some c.in-Some.place = search rules in
    let is : slice_get trigger.variables c.in-Some.place ≡ Some c.in-Some-item_at.variable.now =
    item_is _ _ _ _ _ c.as_slice-variables.ensures.items c.item_at.ensures c.in-Some-item_at.is in
    let held : held_in c.in-Some-item_at.variable.now c.args.value ≡ Some c.in-Some-held_in.held = search rules in
    variable_goes base trigger c.args.name.now c.args.value c.args.bindings.now c.in-Some.place c.in-Some-item_at.variable.now at is c.in-Some-held_in.held held
    ∙ sym (λ i. Some (c.set_variable.ensures.set i))

pub returns-clause-bindings : goal.returns-clause-bindings
returns-clause-bindings c =
    let base = update_conflict_of c.args.running.now.conflict in
    let trigger = c.args.running.now.trigger.now in
    let is : slice_get trigger.variables c.in-Some.place ≡ Some c.in-Some-item_at.variable.now =
    item_is _ _ _ _ _ c.as_slice-variables.ensures.items c.item_at.ensures c.in-Some-item_at.is in
    let held : held_in c.in-Some-item_at.variable.now c.args.value ≡ Some c.in-Some-held_in.held = search rules in
    subst (BindingsFits base trigger.variables) (sym c.set_variable.ensures.set)
    (variable_set base trigger.variables c.args.bindings.now c.in-Some.place c.in-Some-item_at.variable.now c.args.value c.in-Some-held_in.held c.requires.bindings is held)
