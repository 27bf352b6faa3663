use Rattle.std.proofs.Common.{ap, ◌∙◌}
use Rattle.std.specs.FinMap as map
use Rattle.std.proofs.lemmas.Map.Lookups.{exact_bytes}
use Rattle.sr_base.specs.Inner.Order.{name_cmp_total}
use Rattle.sr_rows.proofs.Entries.{from_entries-removed}
use Rattle.sr_database_replay.proofs.bookkeeping.Books.remove.Goals as goal

pub returns : goal.returns
returns c = record {
  removed = from_entries-removed name_cmp_total exact_bytes c.self.inside.books.entries c.remove.new.self.entries c.args.user.now c.remove.ensures.updates.0 ∙ ap (λ m. map.remove m c.args.user.now) c.self.view_is;
}
