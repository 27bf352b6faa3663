use Rattle.std.proofs.Common.{length}
use Rattle.sr_catalog_ddl.proofs.Shared.{StartedLeft}
use Rattle.sr_catalog_ddl.proofs.elsewhere.tables_elsewhere.Given as goal

abbrev pub invariant-publications : goal.invariant-publications
invariant-publications l = StartedLeft l.schema l.rule l.own l.left l.found

abbrev pub decreases-publications : goal.decreases-publications
decreases-publications l = length l.left
