use Rattle.std.proofs.Common.{map, ap, sym, ◌∙◌}
use Rattle.std.specs.Prelude.{bytes_eq, vec_items}
use Rattle.sr_catalog_schema.specs.Firsts.{has}
use Rattle.sr_catalog_schema.proofs.Places.{list_any-map}
use Rattle.sr_catalog_schema.proofs.firsts.Seen.holds.Goals as goal

pub returns : goal.returns
returns c =
    let keys = c.self.inside.names.keys in
    record {
      has = c.contains.ensures
          ∙ (sym (list_any-map (bytes_eq c.bytes.result.now) vec_items keys)
          ∙ (ap (has (map vec_items keys)) c.bytes.ensures.bytes
          ∙ ap (λ s. has s c.args.name.now) c.self.view_is));
    }
