use Rattle.std.proofs.Common.{◌≡◌, Some, rules, subst, sym}
use Rattle.std.specs.Prelude.{slice_get}
use Rattle.sr_resolve_triggers.specs.Holding.{held_by}
use Rattle.sr_resolve_triggers.specs.Inner.Running.{update_conflict_of}
use Rattle.sr_resolve_triggers.specs.Bindings.{BindingsFits}
use Rattle.sr_resolve_triggers.proofs.Sets.{item_is, column_set}
use Rattle.sr_resolve_triggers.proofs.setting.set_new.Goals as goal

pub returns-clause-bindings : goal.returns-clause-bindings
returns-clause-bindings c =
    let base = update_conflict_of c.args.running.now.conflict in
    let variables = c.args.running.now.trigger.now.variables in
    let is : slice_get base.table.columns c.in-Some.place ≡ Some c.in-Some-item_at.column.now =
    item_is _ _ _ _ _ c.as_slice-columns.ensures.items c.item_at.ensures c.in-Some-item_at.is in
    let held : held_by c.in-Some-item_at.column.now c.args.value ≡ Some c.in-Some-held_by.held = search rules in
    subst (BindingsFits base variables) (sym c.set_row.ensures.set)
    (column_set base variables c.args.bindings.now c.in-Some.place c.in-Some-item_at.column.now c.args.value c.in-Some-held_by.held c.requires.bindings is held)
