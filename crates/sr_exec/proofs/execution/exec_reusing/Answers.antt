use Rattle.std.proofs.Common.{sym}
use Rattle.sr_exec.proofs.execution.exec_reusing.Goals as goal

pub update-requires : goal.update-requires
update-requires c = record { rows = c.requires.rows.each _ c.in-Some-table.table.now (sym c.in-Some-table.ensures.table) }

pub delete-requires : goal.delete-requires
delete-requires c = record { rows = c.requires.rows.each _ c.in-Some-table-2.table.now (sym c.in-Some-table-2.ensures.table) }
