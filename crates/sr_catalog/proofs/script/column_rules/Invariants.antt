use Rattle.std.proofs.Common.{◌≡◌, ◌++◌, length, map}
use Rattle.sr_catalog_script_laws.specs.Scripts.{column_rule}
use Rattle.sr_catalog.proofs.script.column_rules.Given as goal

abbrev pub invariant-columns : goal.invariant-columns
invariant-columns l = l.rules.items ++ map column_rule l.rest ≡ map column_rule l.columns

abbrev pub decreases-columns : goal.decreases-columns
decreases-columns l = length l.rest
