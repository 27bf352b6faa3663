use Rattle.std.proofs.Common.{sym, ◌∙◌}
use Rattle.std.proofs.lemmas.Result.{err_from_is_err_and}
use Rattle.std.specs.Option.{option_copied}
use Rattle.sr_rows.specs.Walks.{table_rows}
use Rattle.sr_exec_dml.specs.Sequences.{followed}
use Rattle.sr_exec_dml.specs.Statements.{effects_of, moved}
use Rattle.sr_exec_dml.proofs.Effects.{moved_fault}
use Rattle.sr_exec_dml.proofs.moving.moved.Goals as goal

pub returns-in_err-picks : goal.returns-in_err-picks
returns-in_err-picks c =
    let table = c.args.table.now in
    let rows = c.args.rows.now.rows in
    let es = table_rows rows table.name in
    let prepared = c.in_ok-prepared.prepared in
    let p = err_from_is_err_and c.from_residual-in_err-picks.result c.from_residual-in_err-picks.ensures.1 in
    rw (p.1, p.2) (record {
      answer = λ ne. (λ i. followed (effects_of table (sym c.in_ok-prepared.ensures.sets i) (sym c.in_ok-prepared.ensures.condition i) es) (moved table es))
          ∙ moved_fault table rows (option_copied prepared.sets) prepared.condition.now _ (c.in_err-picks.ensures.answer ne);
    })
