use Rattle.std.proofs.Common.{◌≡◌, length, map}
use Rattle.sr_ast.specs.Exprs.{term_of}
use Rattle.sr_catalog_schema.specs.Firsts.{first_among}
use Rattle.sr_catalog_triggers.specs.Triggers.{absent_of, trigger_scope}
use Rattle.sr_catalog_triggers.proofs.absent.first_absent_of.Given as goal

abbrev pub invariant-values : goal.invariant-values
invariant-values l = first_among (absent_of (trigger_scope l.scope.0 l.scope.1)) (map term_of l.rest) ≡ first_among (absent_of (trigger_scope l.scope.0 l.scope.1)) (map term_of l.values)

abbrev pub decreases-values : goal.decreases-values
decreases-values l = length l.rest
