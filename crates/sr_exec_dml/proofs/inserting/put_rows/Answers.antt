use Rattle.std.proofs.Common.{◌++◌, map, sym, subst, ◌∙◌}
use Rattle.sr_rows.specs.Walks.{table_rows}
use Rattle.sr_exec_dml.specs.Inner.Conditions.{Answers}
use Rattle.sr_exec_dml.specs.Holding.{held}
use Rattle.sr_exec_where.specs.Keys.{key_of}
use Rattle.sr_exec_dml.specs.Statements.{entry_of}
use Rattle.sr_exec_dml.proofs.Outcomes.{settled-one, settled-put}
use Rattle.sr_exec_dml.proofs.inserting.put_rows.Goals as goal

pub returns-in-Ok : goal.returns-in-Ok
returns-in-Ok c =
    let table = c.args.table.now in
    let rows = c.args.rows.now.rows in
    let before = table_rows rows table.name in
    let row = c.in-Ok.row in
    let one = settled-one rows table.name (key_of table.key row) row in
    record { answer = subst (λ m. Answers c.put_row.result m) (one ∙ (λ i. held table.name before (before ++ map (entry_of table) (sym c.in-Ok.ensures.rows i)))) c.put_row.ensures.answer }

pub returns-in_ok-edits-in-Err : goal.returns-in_ok-edits-in-Err
returns-in_ok-edits-in-Err c =
    let table = c.args.table.now in
    let rows = c.args.rows.now.rows in
    let before = table_rows rows table.name in
    let out = settled-put rows table.name (map (entry_of table) c.in-Err.added.items) c.in_ok-edits-in-Err.edits.entries c.in_ok-edits-in-Err.ensures.ordered c.in_ok-edits-in-Err.ensures.edits in
    record { answer = subst (λ m. Answers c.settle.result m) (out ∙ (λ i. held table.name before (before ++ map (entry_of table) (c.in-Err.ensures.rows i)))) c.settle.ensures.answer }
