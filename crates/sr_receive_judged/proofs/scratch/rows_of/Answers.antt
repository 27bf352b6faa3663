use Rattle.sr_receive_judged.proofs.Copying.{tables_on, tables_start}
use Rattle.sr_receive_judged.proofs.scratch.rows_of.Goals as goal

pub tables-init : goal.tables-init
tables-init c = tables_start c.args.rows.now.rows c.args.tables.now c.new-copy.result c.new-copy.ensures.rows c.new-copy.ensures.marked c.new-copy.ensures.trail

pub tables-preserved : goal.tables-preserved
tables-preserved c =
    tables_on c.args.rows.now.rows c.args.tables.now c.tables.left.now c.in-Some.rest.now c.in-Some.table.now c.tables.copy c.copy_table.new.copy c.tables.invariant
    c.in-Some.ensures.cases.0 c.in_ok-copy_table.ensures.fresh c.in_ok-copy_table.ensures.copied
