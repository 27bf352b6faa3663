use Rattle.std.proofs.Common.{◌≡◌, ◌++◌, map, length}
use Rattle.sr_catalog_schema.specs.Members.{scope_of}
use Rattle.sr_exec_where.specs.Inner.Preparing.{resolution_in, sets_in}
use Rattle.sr_exec_where.proofs.prepared.sets_in.Given as goal

abbrev pub invariant-columns : goal.invariant-columns
invariant-columns l = map resolution_in l.made.items ++ sets_in (scope_of l.table) l.sets l.left ≡ sets_in (scope_of l.table) l.sets l.table.columns

abbrev pub decreases-columns : goal.decreases-columns
decreases-columns l = length l.left
