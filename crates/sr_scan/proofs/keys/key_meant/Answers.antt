use Rattle.std.proofs.Common.{rules, ◌≡◌, ◌∷◌, Some, slice_get}
use Rattle.sr_database_history.specs.Fitting.{fitted_in}
use Rattle.sr_scan.proofs.Prefixes.{one_more}
use Rattle.sr_scan.proofs.keys.key_meant.Goals as goal

pub places-preserved : goal.places-preserved
places-preserved c =
    let e : c.places.left.now ≡ c.in-Some.place.now ∷ c.in-Some.rest.now = search rules in
    let v : fitted_in c.args.columns.now (slice_get c.args.table.now.columns c.in-Some.place.now) ≡ Some c.in-Some-2.value = search rules in
    one_more (λ place. fitted_in c.args.columns.now (slice_get c.args.table.now.columns place)) _ _ _ _ _ _ _ c.places.invariant e v c.in_ok-push.ensures.items
