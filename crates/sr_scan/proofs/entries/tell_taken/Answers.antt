use Rattle.std.proofs.Common.{rules, ◌≡◌, ◌∷◌}
use Rattle.std.proofs.lemmas.List.{nil_from_length}
use Rattle.sr_scan.proofs.Taking.{GoesOn-start, GoesOn-more, GoesOn-end}
use Rattle.sr_scan.proofs.entries.tell_taken.Goals as goal

pub taken-init : goal.taken-init
taken-init c = GoesOn-start _ _ _ _ _ _ _ (search rules) (search rules) (search rules)

pub taken-preserved : goal.taken-preserved
taken-preserved c =
    let e : c.taken.left.now ≡ c.in-Some.done.now ∷ c.in-Some.rest.now = search rules in
    GoesOn-more _ _ _ _ _ _ _ _ _ _ _ _ c.taken.invariant e c.in-Ok.ensures.told c.in-Ok.ensures.behind c.in-Ok.ensures.sight c.latest-sight.ensures

pub returns : goal.returns
returns c = record { told = GoesOn-end _ _ _ _ _ _ _ _ c.taken.invariant (nil_from_length _ c.in_default.ensures.cases) c.catalog_in-behind.ensures }
