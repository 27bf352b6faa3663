use Rattle.std.proofs.Common.{◌≡◌, ◌++◌, length}
use Rattle.std.specs.BTreeMap as tree
use Rattle.sr_base.specs.Order.{name_cmp}
use Rattle.sr_scan.specs.Inner.Images.{changes_told}
use Rattle.sr_scan.proofs.changes.tell_changes.Given as goal

abbrev pub invariant-changes : goal.invariant-changes
invariant-changes l = l.ops.items ++ changes_told (tree.get name_cmp l.views) l.left ≡ l.fn.ops.items ++ changes_told (tree.get name_cmp l.views) l.changes

abbrev pub decreases-changes : goal.decreases-changes
decreases-changes l = length l.left
