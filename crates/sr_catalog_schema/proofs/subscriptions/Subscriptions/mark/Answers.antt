use Rattle.std.proofs.Common.{◌≡◌, Some, None, [], false, map, position, sym, subst, ◌∙◌}
use Rattle.sr_catalog_schema.specs.Rules.{is_of, marked}
use Rattle.sr_catalog_schema.specs.Inner.Singles.{IsSingle}
use Rattle.sr_catalog_schema.specs.declared.subscription.Subscription.{Subscription as Held}
use Rattle.sr_catalog_schema.proofs.Single.{none_changes, no_place, changed_at}
use Rattle.sr_catalog_schema.proofs.subscriptions.Subscriptions.mark.Goals as goal

pub returns-in-None-clause-ok : goal.returns-in-None-clause-ok
returns-in-None-clause-ok c =
    let p = is_of c.args.rule.now in
    let items = c.self.inside.listed in
    subst (λ l. l ≡ map (marked c.args.started c.args.rule.now) l) c.self.view_is
    (sym (none_changes p (λ s. record s { started = c.args.started }) items (no_place p items (sym c.in_ok-place.ensures.place ∙ c.in-None.is))))

pub returns-in_ok-mark_at-in-Some-clause-ok : goal.returns-in_ok-mark_at-in-Some-clause-ok
returns-in_ok-mark_at-in-Some-clause-ok c =
    let p = is_of c.args.rule.now in
    let d : Held = record { publication = []; value = None; user = []; started = false } in
    let place : position p c.args.self.now ≡ Some c.in-Some.place = subst (λ l. position p l ≡ Some c.in-Some.place) c.self.view_is (sym c.in_ok-place.ensures.place ∙ c.in-Some.is) in
    c.in_ok-mark_at-in-Some.ensures.ok d
    ∙ sym (changed_at p (λ s. record s { started = c.args.started }) c.args.self.now c.in-Some.place d (subst (IsSingle p) c.self.view_is c.in_ok-place.ensures.single) place)
