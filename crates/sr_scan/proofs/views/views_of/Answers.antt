use Rattle.std.proofs.Common.{rules, ◌≡◌, ◌∷◌}
use Rattle.std.proofs.lemmas.List.{nil_from_length}
use Rattle.sr_scan.proofs.Covering.{Covers-start, Covers-step, Covers-end}
use Rattle.sr_scan.proofs.views.views_of.Goals as goal

pub tables-init : goal.tables-init
tables-init c = Covers-start _ _ _ _ (search rules) (search rules)

pub tables-preserved : goal.tables-preserved
tables-preserved c =
    let e : c.tables.left.now ≡ c.in-Some.table.now ∷ c.in-Some.rest.now = search rules in
    Covers-step _ _ _ _ _ _ _ c.tables.invariant e c.in_ok-add_view.ensures.added

pub returns : goal.returns
returns c = record { views = Covers-end _ _ _ _ c.tables.invariant (nil_from_length _ c.in_default.ensures.cases) }
