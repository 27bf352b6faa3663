use Rattle.std.proofs.Common.{◌≡◌, ◌∷◌, ◌++◌, ap, sym, ◌∙◌}
use Rattle.sr_catalog_schema.specs.Names.{named}
use Rattle.sr_catalog_schema.proofs.Indexed.{added}
use Rattle.sr_catalog_schema.proofs.named.Named.firsts_of.Goals as goal

pub items-preserved : goal.items-preserved
items-preserved g c =
    let item = c.in-Some.item.now in
    let after = c.in-Some.after.now in
    let rest : c.items.rest.now ≡ item ∷ after = c.in-Some.ensures.cases.0 in
    λ name.
    ap (λ l. named g.T.HasName.name_of name (l ++ after)) c.in_ok-push_first.ensures.ok
    ∙ (added g.T.HasName.name_of c.items.found item after name
    ∙ (sym (ap (λ r. named g.T.HasName.name_of name (c.items.found ++ r)) rest) ∙ c.items.invariant name))
