use Rattle.std.proofs.Common.{rules, ◌≡◌, ◌∷◌, ◌∙◌, ap, sym}
use Rattle.std.proofs.lemmas.List.{nil_from_length}
use Rattle.sr_parse.proofs.Normals.{Gathers-start, Gathers-more, Gathers-end}
use Rattle.sr_parse.proofs.normal.set_of.Goals as goal

pub names-init : goal.names-init
names-init c = Gathers-start _ _ _ (search rules) (search rules)

pub names-preserved : goal.names-preserved
names-preserved c =
    let e : c.names.rest.now ≡ c.in-Some.name.now ∷ c.in-Some.after.now = search rules in
    Gathers-more _ _ _ _ _ c.in_ok-copy.copy c.names.invariant (e ∙ ap (λ x. x ∷ c.in-Some.after.now) (sym c.in_ok-copy.ensures.equal)) c.in_ok-insert.ensures.updates

pub returns : goal.returns
returns c = record { set = Gathers-end _ _ _ c.names.invariant (nil_from_length _ c.in_default.ensures.cases) }
