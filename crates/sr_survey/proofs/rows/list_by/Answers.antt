use Rattle.std.proofs.Common.{◌≡◌, [], ◌∷◌, filter_map, rules, sym, subst}
use Rattle.std.proofs.lemmas.List.{nil_from_length}
use Rattle.std.proofs.lemmas.List.Elements.{filter_map-append}
use Rattle.sr_survey.specs.Inner.Keyed.{article_key}
use Rattle.sr_survey_places.proofs.Joined.{listed_none, listed_both}
use Rattle.sr_survey_places.specs.Inner.Listed.{IsListedUnder}
use Rattle.sr_survey.proofs.rows.list_by.Goals as goal

pub articles-init : goal.articles-init
articles-init c = λ m h. subst (λ xs. IsListedUnder c.args.lists.now.lists (filter_map (article_key c.args.routes.now.table c.args.row.now) xs) c.args.place m) c.as_slice-left.ensures.items h

pub articles-preserved : goal.articles-preserved
articles-preserved c = λ m h.
    let key = article_key c.args.routes.now.table c.args.row.now in
    let e : c.articles.left.now ≡ c.in-Some.route.now ∷ c.in-Some.rest.now = search rules in
    c.articles.invariant m (subst (λ xs. IsListedUnder c.articles.lists.lists (filter_map key xs) c.args.place m) (sym e)
    (subst (λ ks. IsListedUnder c.articles.lists.lists ks c.args.place m) (sym (filter_map-append key (c.in-Some.route.now ∷ []) c.in-Some.rest.now))
    (listed_both c.articles.lists.lists c.list_route.new.lists.lists m (filter_map key (c.in-Some.route.now ∷ [])) (filter_map key c.in-Some.rest.now) c.args.place c.in_ok-list_route.ensures.listed h)))

pub returns : goal.returns
returns c =
    let none : c.articles.left.now ≡ [] = nil_from_length _ c.in_default.ensures.cases in
    let key = article_key c.args.routes.now.table c.args.row.now in
    record { listed = c.articles.invariant c.articles.lists.lists (subst (λ xs. IsListedUnder c.articles.lists.lists (filter_map key xs) c.args.place c.articles.lists.lists) (sym none) (listed_none c.articles.lists.lists c.args.place)) }
