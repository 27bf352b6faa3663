use Rattle.std.proofs.Common.{◌≡◌, length}
use Rattle.std.specs.Option.{option_copied}
use Rattle.sr_rows.specs.Walks.{table_rows}
use Rattle.sr_rows.proofs.Cursors.{AreHeld}
use Rattle.sr_exec_dml.specs.Inner.Unmoving.{unmoved, behind, KeepKeys}
use Rattle.sr_exec_dml.proofs.placing.unmoved_alone.Given as goal

-- what becomes of the rows that are left stands behind what is found, and if they keep their keys all do; these rows are held
abbrev pub invariant-rows : goal.invariant-rows
invariant-rows l = record {
  found : behind l.found.list.items l.found.count (unmoved l.table (option_copied l.prepared.sets) l.prepared.condition.now l.walk) ≡ unmoved l.table (option_copied l.prepared.sets) l.prepared.condition.now (table_rows l.rows.rows l.table.name);
  keep : KeepKeys l.table (option_copied l.prepared.sets) l.prepared.condition.now l.walk → KeepKeys l.table (option_copied l.prepared.sets) l.prepared.condition.now (table_rows l.rows.rows l.table.name);
  held : AreHeld l.rows.rows l.table.name l.walk;
}

abbrev pub decreases-rows : goal.decreases-rows
decreases-rows l = length l.walk
