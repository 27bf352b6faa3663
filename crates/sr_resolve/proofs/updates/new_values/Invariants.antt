use Rattle.std.proofs.Common.{◌≡◌, length}
use Rattle.sr_resolve_triggers.specs.Inner.Actions.{after_items}
use Rattle.sr_resolve.specs.Named.{new_values}
use Rattle.sr_resolve.proofs.updates.new_values.Given as goal

abbrev pub invariant-columns : goal.invariant-columns
invariant-columns l = after_items l.news.items (new_values l.above l.updates l.left) ≡ new_values l.above l.updates l.columns

abbrev pub decreases-columns : goal.decreases-columns
decreases-columns l = length l.left
