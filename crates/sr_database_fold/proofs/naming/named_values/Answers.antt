use Rattle.std.proofs.Common.{sym, ◌∙◌, slice_get}
use Rattle.std.specs.BTreeMap as tree
use Rattle.sr_base.specs.Order.{name_cmp}
use Rattle.sr_database_fold.specs.Inner.Parts.{fitted_by}
use Rattle.sr_database_fold.proofs.Named.{collected_on, collected_all}
use Rattle.sr_database_fold.proofs.naming.named_values.Goals as goal

pub places-preserved : goal.places-preserved
places-preserved c =
    collected_on (λ place. fitted_by (tree.get name_cmp c.args.named.now) (slice_get c.args.columns.now place)) c.args.places.now c.places.left.now
    c.in-Some.rest.now c.in-Some.place.now c.in-Some-2.value c.places.values.items _ c.places.invariant c.in-Some.ensures.cases.0
    (sym c.in_ok-value.ensures.value ∙ c.in-Some-2.is)
    c.in_ok-push.ensures.items

pub returns : goal.returns
returns c = record {
  key = collected_all (λ place. fitted_by (tree.get name_cmp c.args.named.now) (slice_get c.args.columns.now place)) c.args.places.now c.places.left.now
      c.places.values.items _ c.places.invariant c.in_default.ensures.cases (c.in_ok-new.ensures.values ∙ c.from_vec.ensures.items);
}
