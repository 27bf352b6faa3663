use Rattle.std.proofs.Common.{◌≡◌, not, Some, position, sym, subst, ◌∙◌}
use Rattle.std.specs.Prelude.{filter}
use Rattle.sr_catalog_schema.specs.Rules.{is_of}
use Rattle.sr_catalog_schema.specs.Inner.Singles.{IsSingle}
use Rattle.sr_catalog_schema.proofs.Single.{none_goes, no_place, gone_at}
use Rattle.sr_catalog_schema.proofs.subscriptions.Subscriptions.remove.Goals as goal

pub returns-in-None-clause-ok : goal.returns-in-None-clause-ok
returns-in-None-clause-ok c =
    let p = is_of c.args.rule.now in
    let items = c.self.inside.listed in
    subst (λ l. l ≡ filter (λ s. not (p s)) l) c.self.view_is (sym (none_goes p items (no_place p items (sym c.in_ok-place.ensures.place ∙ c.in-None.is))))

pub returns-in_ok-remove_at-in-Some-clause-ok : goal.returns-in_ok-remove_at-in-Some-clause-ok
returns-in_ok-remove_at-in-Some-clause-ok c =
    let p = is_of c.args.rule.now in
    let place : position p c.args.self.now ≡ Some c.in-Some.place = subst (λ l. position p l ≡ Some c.in-Some.place) c.self.view_is (sym c.in_ok-place.ensures.place ∙ c.in-Some.is) in
    c.in_ok-remove_at-in-Some.ensures.ok ∙ sym (gone_at p c.args.self.now c.in-Some.place (subst (IsSingle p) c.self.view_is c.in_ok-place.ensures.single) place)
