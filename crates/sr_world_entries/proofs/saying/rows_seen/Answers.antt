use Rattle.std.proofs.Common.{sym, ◌∙◌}
use Rattle.sr_publish.specs.SubscribedTables.{subscribed_table_of}
use Rattle.sr_rows.specs.Walks.{table_rows}
use Rattle.sr_world_entries.proofs.Sayings.{nothing_seen}
use Rattle.sr_world_entries.proofs.saying.rows_seen.Goals as goal

pub returns-in-None : goal.returns-in-None
returns-in-None c = record {
  seen =
      nothing_seen (subscribed_table_of c.args.catalog.now c.args.user.now c.args.table.now) c.empty.result (table_rows c.args.rows.now.rows c.args.table.now) (sym c.in_ok-of.ensures.subscribed_table ∙ c.in-None.is)
      c.empty.ensures.empty;
}
