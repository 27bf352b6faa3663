use Rattle.std.proofs.Common.{◌≡◌, length}
use Rattle.sr_exec_where.specs.Checks.{is_among}
use Rattle.sr_exec_where.proofs.names.is_among.Given as goal

abbrev pub invariant-names : goal.invariant-names
invariant-names l = is_among l.name l.left ≡ is_among l.name l.names

abbrev pub decreases-names : goal.decreases-names
decreases-names l = length l.left
