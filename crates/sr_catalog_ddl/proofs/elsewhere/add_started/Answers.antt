use Rattle.std.proofs.Common.{ap, sym, ◌∙◌}
use Rattle.std.specs.List.{list_any}
use Rattle.sr_catalog_ddl.specs.Inner.Elsewhere.{has_table}
use Rattle.sr_catalog_ddl.proofs.Shared.{none_shared}
use Rattle.sr_catalog_ddl.proofs.elsewhere.add_started.Goals as goal

pub returns-then-not-is_shared : goal.returns-then-not-is_shared
returns-then-not-is_shared c =
    let own = c.args.own.now in
    record {
      started = none_shared c.args.schema.now.subscriptions c.args.rule.now own c.args.publication.now c.args.found.now
          (ap (list_any (λ a. has_table own a.table)) (sym c.as_slice-articles.ensures.items) ∙ (sym c.is_shared.ensures ∙ c.if-not-is_shared.true));
    }
