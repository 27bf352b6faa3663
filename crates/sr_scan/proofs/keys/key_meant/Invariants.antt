use Rattle.std.proofs.Common.{◌≡◌, map, slice_get, length}
use Rattle.sr_database_history.specs.Fitting.{fitted_in}
use Rattle.sr_scan.specs.Inner.Images.{all_of}
use Rattle.sr_scan.proofs.Prefixes.{behind}
use Rattle.sr_scan.proofs.keys.key_meant.Given as goal

abbrev pub invariant-places : goal.invariant-places
invariant-places l = behind l.values.items (all_of (map (λ place. fitted_in l.columns (slice_get l.table.columns place)) l.left))
    ≡ all_of (map (λ place. fitted_in l.columns (slice_get l.table.columns place)) l.table.key)

abbrev pub decreases-places : goal.decreases-places
decreases-places l = length l.left
