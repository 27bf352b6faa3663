use Rattle.std.proofs.Common.{ap, ◌∙◌}
use Rattle.std.specs.FinMap as map
use Rattle.std.proofs.lemmas.Map.Lookups.{exact_bytes}
use Rattle.sr_base.specs.Inner.Order.{name_cmp_total}
use Rattle.sr_rows.proofs.Entries.{from_entries-given}
use Rattle.sr_database_replay.proofs.bookkeeping.Books.put.Goals as goal

pub returns-clause-ok : goal.returns-clause-ok
returns-clause-ok c =
    from_entries-given name_cmp_total exact_bytes c.self.inside.books.entries c.insert.new.self.entries c.in_ok-copy.field-0 c.args.book c.in_ok-insert.ensures.updates.0
    ∙ ap (λ m. map.insert m c.in_ok-copy.field-0 c.args.book) c.self.view_is
    ∙ ap (λ n. map.insert c.args.self.now n c.args.book) c.in_ok-copy.ensures.equal
