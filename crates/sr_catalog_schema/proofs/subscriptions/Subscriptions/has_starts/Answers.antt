use Rattle.std.proofs.Common.{◌&&◌, ap, ◌∙◌, nat_lt}
use Rattle.std.specs.Prelude.{vec_items, bytes_eq}
use Rattle.std.specs.List.{list_any}
use Rattle.sr_catalog_schema.specs.Inner.Keys.{count_under}
use Rattle.sr_catalog_schema.proofs.Counted.{counted_any}
use Rattle.sr_catalog_schema.proofs.subscriptions.Subscriptions.has_starts.Goals as goal

pub returns : goal.returns
returns c =
    let entries = c.self.inside.starts.counts.entries in
    ap (λ n. nat_lt 0 n) (c.count.ensures ∙ ap (count_under vec_items entries) (c.as_slice.ensures.value ∙ c.in_ok-key.ensures))
    ∙ (counted_any vec_items entries c.self.inside.listed c.args.user.now c.args.publication.now c.self.invariant
    ∙ ap (list_any (λ s. s.started && (bytes_eq c.args.user.now s.user && bytes_eq c.args.publication.now s.publication))) c.self.view_is)
