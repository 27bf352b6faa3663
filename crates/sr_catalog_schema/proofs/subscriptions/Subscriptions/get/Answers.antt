use Rattle.std.proofs.Common.{sym, ap, ◌∙◌, find, slice_get}
use Rattle.sr_catalog_schema.specs.Rules.{is_of}
use Rattle.sr_catalog_schema.proofs.Places.{find-no_place, find-place}
use Rattle.sr_catalog_schema.proofs.subscriptions.Subscriptions.get.Goals as goal

pub returns-in-None-clause-found : goal.returns-in-None-clause-found
returns-in-None-clause-found c =
    let p = is_of c.args.rule.now in
    sym (find-no_place p c.self.inside.listed (sym c.in_ok-place.ensures.place ∙ c.in-None.is)) ∙ ap (find p) c.self.view_is

pub returns-in-Some-clause-found : goal.returns-in-Some-clause-found
returns-in-Some-clause-found c =
    let p = is_of c.args.rule.now in
    c.item_at.ensures
    ∙ (ap (λ l. slice_get l c.in-Some.place) c.as_slice.ensures
    ∙ (sym (find-place p c.self.inside.listed c.in-Some.place (sym c.in_ok-place.ensures.place ∙ c.in-Some.is)) ∙ ap (find p) c.self.view_is))
