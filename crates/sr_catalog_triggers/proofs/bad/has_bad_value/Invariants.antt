use Rattle.std.proofs.Common.{◌≡◌, length, map}
use Rattle.std.specs.List.{list_any}
use Rattle.sr_ast.specs.Exprs.{term_of}
use Rattle.sr_catalog_triggers.specs.Triggers.{is_bad_expr, trigger_scope}
use Rattle.sr_ast.specs.Uses.{gives_value}
use Rattle.sr_catalog_triggers.proofs.bad.has_bad_value.Given as goal

abbrev pub invariant-values : goal.invariant-values
invariant-values l =
    list_any (is_bad_expr gives_value l.scope.0.variables (trigger_scope l.scope.0 l.scope.1)) (map term_of l.rest) ≡ list_any (is_bad_expr gives_value l.scope.0.variables (trigger_scope l.scope.0 l.scope.1)) (map term_of l.values)

abbrev pub decreases-values : goal.decreases-values
decreases-values l = length l.rest
