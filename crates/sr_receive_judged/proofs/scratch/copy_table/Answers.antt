use Rattle.sr_receive_judged.proofs.Copying.{rows_end, rows_on}
use Rattle.sr_receive_judged.proofs.scratch.copy_table.Goals as goal

pub rows-preserved : goal.rows-preserved
rows-preserved c =
    rows_on c.args.rows.now.rows c.args.table.now c.args.copy.now c.rows.copy c.copy_row.new.copy c.rows.walk c.next.new.self c.in-Some.key.now c.in-Some.row.now c.rows.invariant
    c.in-Some.ensures.next c.in_ok-copy_row.ensures.row

pub returns-clause-copied : goal.returns-clause-copied
returns-clause-copied c = rows_end c.args.rows.now.rows c.args.table.now c.args.copy.now c.rows.copy c.rows.walk c.rows.invariant c.in_default.ensures.next.0
