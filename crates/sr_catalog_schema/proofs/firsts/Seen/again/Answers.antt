use Rattle.std.proofs.Common.{map, not, ap, sym, ◌∙◌}
use Rattle.std.specs.Prelude.{bytes_eq, vec_items}
use Rattle.sr_catalog_schema.specs.Firsts.{has}
use Rattle.sr_catalog_schema.proofs.Places.{list_any-map, double_not}
use Rattle.sr_catalog_schema.proofs.firsts.Seen.again.Goals as goal

pub returns-clause-again : goal.returns-clause-again
returns-clause-again c =
    let keys = c.self.inside.names.keys in
    let bytes = c.in_ok-bytes.bytes.items in
    ap not c.in_ok-added.ensures.added
    ∙ (double_not _
    ∙ (sym (list_any-map (bytes_eq bytes) vec_items keys)
    ∙ (ap (has (map vec_items keys)) (c.in_ok-bytes.ensures.items ∙ c.bytes.ensures.bytes)
    ∙ ap (λ s. has s c.args.name.now) c.self.view_is)))
