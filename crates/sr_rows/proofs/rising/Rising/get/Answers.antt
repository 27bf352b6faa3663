use Rattle.std.proofs.Common.{sym, ap, subst, ◌∙◌}
use Rattle.std.specs.FinMap as map
use Rattle.sr_base.specs.Order.{key_cmp}
use Rattle.sr_base.specs.Inner.Order.{key_cmp_total}
use Rattle.sr_rows.specs.Inner.Searches.{InOrder}
use Rattle.sr_rows.proofs.Entries.{get-lookup}
use Rattle.sr_rows.proofs.Searching.{at_place, at_gap}
use Rattle.sr_rows.proofs.rising.Rising.get.Goals as goal

pub returns-in-Ok : goal.returns-in-Ok
returns-in-Ok c =
    let es = c.as_slice-places.result.now in
    let k = c.args.key.now in
    let view = ap (λ xs. map.from_entries {R = key_cmp} xs) c.as_slice-places.ensures.value ∙ c.self.view_is in
    record {
      place = sym (at_place es c.in-Ok.at k (subst InOrder (sym c.as_slice-places.ensures.value) c.self.invariant) c.in-Ok.ensures.ends.0 c.in-Ok.ensures.ends.1 c.index-places-at.result)
          ∙ sym (get-lookup key_cmp_total es k) ∙ ap (λ m. map.get m k) view;
    }

pub returns-in-Err : goal.returns-in-Err
returns-in-Err c =
    let es = c.as_slice-places.result.now in
    let k = c.args.key.now in
    let view = ap (λ xs. map.from_entries {R = key_cmp} xs) c.as_slice-places.ensures.value ∙ c.self.view_is in
    record {
      place = sym (at_gap es c.in-Err.field-0 k (subst InOrder (sym c.as_slice-places.ensures.value) c.self.invariant) c.in-Err.ensures.ends)
          ∙ sym (get-lookup key_cmp_total es k) ∙ ap (λ m. map.get m k) view;
    }
