use Rattle.std.proofs.Common.{refl, ap, ◌∙◌}
use Rattle.std.specs.Prelude.{vec_items}
use Rattle.sr_catalog_schema.specs.Inner.Keys.{count_under}
use Rattle.sr_catalog_schema.proofs.Counted.{changed_by}
use Rattle.sr_catalog_schema.proofs.starts.Starts.change.Goals as goal

pub returns-clause-ok : goal.returns-clause-ok
returns-clause-ok c =
    let old = c.args.self.now.counts.entries in
    changed_by vec_items _ (λ x y. refl) old c.insert.new.self.entries c.args.key c.args.was c.args.now c.count-before.result c.in_ok-after.after
    (c.count-before.ensures ∙ ap (count_under vec_items old) c.as_slice.ensures.value) c.in_ok-after.ensures c.in_ok-insert.ensures.entries
