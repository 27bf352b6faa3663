use Rattle.std.proofs.Common.{◌≡◌, ◌++◌, length, map}
use Rattle.sr_base.specs.declared.value.Value.TheVariants.{Null}
use Rattle.sr_resolve_triggers.proofs.bindings.nulls.Given as goal

abbrev pub invariant-variables : goal.invariant-variables
invariant-variables l = l.values.items ++ map (λ _. Null) l.rest ≡ map (λ _. Null) l.variables

abbrev pub decreases-variables : goal.decreases-variables
decreases-variables l = length l.rest
