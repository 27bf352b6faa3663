use Rattle.std.proofs.Common.{map, length, slice_get}
use Rattle.std.specs.BTreeMap as tree
use Rattle.sr_base.specs.Order.{name_cmp}
use Rattle.sr_database_fold.specs.Inner.Parts.{fitted_by}
use Rattle.sr_database_fold.proofs.Named.{Collected}
use Rattle.sr_database_fold.proofs.naming.named_values.Given as goal

abbrev pub invariant-places : goal.invariant-places
invariant-places l = Collected (map (λ place. fitted_by (tree.get name_cmp l.named) (slice_get l.columns place)) l.places)
    (map (λ place. fitted_by (tree.get name_cmp l.named) (slice_get l.columns place)) l.left) l.values.items

abbrev pub decreases-places : goal.decreases-places
decreases-places l = length l.left
