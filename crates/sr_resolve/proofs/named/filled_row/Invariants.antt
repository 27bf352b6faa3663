use Rattle.std.proofs.Common.{◌≡◌, length}
use Rattle.sr_resolve_triggers.specs.Inner.Actions.{after_items}
use Rattle.sr_resolve.specs.Named.{filled_row}
use Rattle.sr_resolve.proofs.named.filled_row.Given as goal

abbrev pub invariant-columns : goal.invariant-columns
invariant-columns l = after_items l.row.items (filled_row l.values l.left) ≡ filled_row l.values l.columns

abbrev pub decreases-columns : goal.decreases-columns
decreases-columns l = length l.left
