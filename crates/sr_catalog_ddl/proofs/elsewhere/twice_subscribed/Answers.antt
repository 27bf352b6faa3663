use Rattle.std.proofs.Common.{◌≡◌, ap, ◌∙◌}
use Rattle.std.specs.List.{list_any}
use Rattle.sr_catalog_schema.specs.Firsts.{first_among, where_true}
use Rattle.sr_catalog_schema.specs.declared.publication.Article.{Article}
use Rattle.sr_catalog_ddl.specs.Inner.Elsewhere.{tables_elsewhere}
use Rattle.sr_catalog_ddl.specs.Subscriptions.{articles_in, articles_of, is_elsewhere, twice_subscribed}
use Rattle.sr_catalog_ddl.proofs.Shared.{first_elsewhere}
use Rattle.sr_catalog_ddl.proofs.elsewhere.twice_subscribed.Goals as goal

pub returns : goal.returns
unfolding twice_subscribed
returns c =
    let schema = c.args.schema.now in
    let rule = c.args.rule.now in
    let all : c.articles_of-articles.result.now ≡ articles_in schema rule = c.articles_of-articles.ensures ∙ ap articles_of c.publication.ensures.publication in
    c.first_in.ensures
    ∙ (first_elsewhere schema rule c.articles_of-articles.result.now c.in_ok-found.found
    (λ t. c.in_ok-found.ensures.elsewhere t ∙ ap (λ own. tables_elsewhere schema rule own t) c.in_ok-own.ensures.tables)
    ∙ ap (first_among (λ (a : Article). where_true (list_any (is_elsewhere schema rule a.table) schema.subscriptions) a.table)) all)
