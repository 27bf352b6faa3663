use Rattle.sr_catalog_ddl.proofs.Shared.{started_none}
use Rattle.sr_catalog_ddl.proofs.elsewhere.tables_elsewhere.Goals as goal

pub publications-init : goal.publications-init
publications-init c =
    started_none c.args.schema.now c.args.rule.now c.args.own.now _ c.new-found.result c.new-found.ensures c.distinct_publications-left.ensures.publications
    c.distinct_publications-left.ensures.single
