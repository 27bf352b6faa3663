use Rattle.std.proofs.Common.{◌≡◌, length}
use Rattle.sr_resolve_triggers.specs.Inner.Actions.{after_items}
use Rattle.sr_resolve.specs.Named.{fitted_at, fitted_key}
use Rattle.sr_resolve.proofs.named.fitted_key.Given as goal

abbrev pub invariant-places : goal.invariant-places
invariant-places l = after_items l.key.items (fitted_at l.table l.values l.left) ≡ fitted_key l.table l.values

abbrev pub decreases-places : goal.decreases-places
decreases-places l = length l.left
