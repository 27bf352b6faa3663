use Rattle.std.proofs.Common.{rules, ◌≡◌, Ok, true, map, IsSome, sym, ap, ◌∙◌}
use Rattle.std.proofs.lemmas.Result.{err_from_is_err_and}
use Rattle.std.specs.Option.{option_copied}
use Rattle.sr_exec_dml.specs.Inner.Making.{new_row, selected_at}
use Rattle.sr_exec_where.specs.Inner.Preparing.{resolution_in}
use Rattle.sr_exec_dml.proofs.Readied.{effect_unselected, effect_unmade}
use Rattle.sr_exec_dml.proofs.moving.effect_of.Goals as goal

pub returns-in_err-selected : goal.returns-in_err-selected
returns-in_err-selected c =
    let p = err_from_is_err_and c.from_residual.result c.from_residual.ensures.1 in
    rw (p.1, p.2) (record {
      answer = λ ne. effect_unselected c.args.table.now c.args.prepared.now c.args.row.now _ c.requires.prepared (c.in_err-selected.ensures.answer ne);
    })

pub returns-in_err-new : goal.returns-in_err-new
returns-in_err-new c =
    let row = c.args.row.now in
    let prepared = c.args.prepared.now in
    let p = err_from_is_err_and c.from_residual-in_err-new.result c.from_residual-in_err-new.ensures.1 in
    let chosen : c.in_ok-selected.field-0 ≡ true = search rules in
    let is : selected_at row (resolution_in prepared.resolved_condition) ≡ Ok true = c.in_ok-selected.ensures.answer ∙ ap (λ b. Ok b) chosen in
    let there : IsSome (option_copied prepared.sets) = search rules in
    rw (p.1, p.2) (record {
      answer = λ ne. effect_unmade c.args.table.now prepared row _ c.requires.prepared there is
          ((λ i. new_row row (sym c.as_slice-2.ensures.items i) row (map resolution_in (sym c.as_slice.ensures.items i))) ∙ c.in_err-new.ensures.answer ne);
    })
