use Rattle.std.proofs.Common.{sym, ap, ◌∙◌}
use Rattle.std.specs.FinMap as map
use Rattle.sr_base.specs.Inner.Order.{name_cmp_total}
use Rattle.sr_rows.proofs.Entries.{get-lookup}
use Rattle.sr_database_replay.proofs.bookkeeping.Books.entry.Goals as goal

pub returns : goal.returns
returns c = record {
  entry = c.get.ensures.value ∙ sym (get-lookup name_cmp_total c.self.inside.books.entries c.args.user.now) ∙ ap (λ m. map.get m c.args.user.now) c.self.view_is;
}
