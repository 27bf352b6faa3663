use Rattle.std.proofs.Common.{◌≡◌, length}
use Rattle.sr_ast.specs.Exprs.{term_of}
use Rattle.sr_catalog_schema.specs.Firsts.{first_among}
use Rattle.sr_catalog_triggers.specs.Triggers.{absent_ref, absent_of, trigger_scope}
use Rattle.sr_catalog_triggers.proofs.absent.absent_of.Given as goal

abbrev pub invariant-refs : goal.invariant-refs
invariant-refs l = first_among (λ r. absent_ref (trigger_scope l.scope.0 l.scope.1) r.0 r.1) l.rest ≡ absent_of (trigger_scope l.scope.0 l.scope.1) (term_of l.expr)

abbrev pub decreases-refs : goal.decreases-refs
decreases-refs l = length l.rest
