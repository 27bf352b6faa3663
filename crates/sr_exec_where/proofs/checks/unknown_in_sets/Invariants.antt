use Rattle.std.proofs.Common.{◌≡◌, length}
use Rattle.sr_exec_where.specs.Checks.{unknown_set}
use Rattle.sr_catalog_schema.specs.Firsts.{first_among}
use Rattle.sr_exec_where.proofs.checks.unknown_in_sets.Given as goal

abbrev pub invariant-sets : goal.invariant-sets
invariant-sets l = first_among (unknown_set l.table) l.left ≡ first_among (unknown_set l.table) l.sets

abbrev pub decreases-sets : goal.decreases-sets
decreases-sets l = length l.left
