use Rattle.std.proofs.Common.{◌≡◌, length}
use Rattle.sr_exec_where.specs.Checks.{no_column}
use Rattle.sr_catalog_schema.specs.Firsts.{first_among}
use Rattle.sr_exec_where.proofs.names.unknown_name.Given as goal

abbrev pub invariant-names : goal.invariant-names
invariant-names l = first_among (no_column l.columns) l.left ≡ first_among (no_column l.columns) l.names

abbrev pub decreases-names : goal.decreases-names
decreases-names l = length l.left
