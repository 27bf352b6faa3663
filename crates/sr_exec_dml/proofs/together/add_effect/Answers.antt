use Rattle.std.proofs.Common.{rules, ◌≡◌, Ok, true, map, sym, ap, ◌∙◌}
use Rattle.sr_exec_dml.specs.Inner.Edits.{prefixed}
use Rattle.sr_exec_dml.specs.Inner.Making.{new_row, selected_at}
use Rattle.sr_exec_where.specs.Inner.Preparing.{resolution_in}
use Rattle.sr_exec_dml.proofs.Pended.{added, effect_updated}
use Rattle.sr_exec_dml.proofs.together.add_effect.Goals as goal

pub returns : goal.returns
returns c =
    let table = c.args.table.now in
    let p = c.args.prepared.now in
    let row = c.args.row.now in
    let made = new_row row table.columns row (map resolution_in p.resolved_sets) in
    let whole : prefixed c.args.values.now.items made ≡ Ok c.add_updated.new.values.items =
    (λ i. prefixed c.args.values.now.items (new_row row (sym c.as_slice-2.ensures.items i) row (map resolution_in (sym c.as_slice.ensures.items i)))) ∙ c.in_ok-add_updated.ensures.answer in
    let chosen : c.in_ok-selected.field-0 ≡ true = search rules in
    let is : selected_at row (resolution_in p.resolved_condition) ≡ Ok true = c.in_ok-selected.ensures.answer ∙ ap (λ b. Ok b) chosen in
    let a = added c.args.values.now.items c.add_updated.new.values.items made whole in
    record { answer = (a.0, effect_updated table p row a.0 c.requires.prepared c.requires.sets is a.1, a.2) }
