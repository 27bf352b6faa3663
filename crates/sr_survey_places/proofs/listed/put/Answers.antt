use Rattle.std.proofs.Common.{◌≡◌, ◌<◌, ◌≤◌, ◌+◌, ◌-◌, ◌^◌, List, length, arith, sym, ap, subst, inl, ◌∙◌}
use Rattle.std.proofs.lemmas.List.Edits.{length-insert}
use Rattle.std.specs.List.{AllWithin, Contains}
use Rattle.sr_survey_places.specs.Inner.Search.{InOrder}
use Rattle.sr_survey_places.specs.declared.place.Place.{Place}
use Rattle.sr_survey_places.proofs.Listing.{there_put, stays_put, only_put, order_put, one_counted, none_counted}
use Rattle.sr_survey_places.proofs.listed.put.Goals as goal

pub returns-in-Ok : goal.returns-in-Ok
returns-in-Ok c =
    let places = c.args.places.now in
    let at = c.count_passed-at.result in
    let place = c.args.place in
    let is = c.in-Ok.ensures.put in
    let slice = c.as_slice-2.ensures.items in
    let bound : at ≤ length places = subst (λ xs. at ≤ length xs) slice c.count_passed-at.ensures.bound in
    let passed : AllWithin (λ p. p.end ≤ place.end) places 0 at = subst (λ xs. AllWithin (λ p. p.end ≤ place.end) xs 0 at) slice c.count_passed-at.ensures.passed in
    let left : AllWithin (λ p. place.end < p.end) places at (length places) = subst (λ xs. AllWithin (λ p. place.end < p.end) xs at (length xs)) slice c.count_passed-at.ensures.left in
    let long : length c.put_at.new.places ≡ length places + 1 = ap (λ (xs : List Place). length xs) is ∙ length-insert places at place bound in
    record {
      order = subst InOrder (sym is) (order_put places at place c.requires.order bound passed left);
      there = subst (λ xs. Contains xs place) (sym is) (there_put places at place);
      stays = λ x h. subst (λ xs. Contains xs x) (sym is) (stays_put places at place x h);
      only = λ x h. only_put places at place x (subst (λ xs. Contains xs x) is h);
      more = omega arith;
      one = omega arith;
      counted = one_counted c.args.count.now _ (length places) (length c.put_at.new.places) (2 ^ 64 - 1) long c.saturating_add.ensures;
      left = tt;
    }

pub returns-in-Err : goal.returns-in-Err
returns-in-Err c =
    let places = c.args.places.now in
    let is = c.in-Err.ensures.left in
    let long : length c.put_at.new.places ≡ length places = ap (λ (xs : List Place). length xs) is in
    record {
      order = subst InOrder (sym is) c.requires.order;
      there = tt;
      stays = λ x h. subst (λ xs. Contains xs x) (sym is) h;
      only = λ x h. inl (subst (λ xs. Contains xs x) is h);
      more = omega arith;
      one = omega arith;
      counted = none_counted c.args.count.now (length places) (length c.put_at.new.places) (2 ^ 64 - 1) long (omega arith);
      left = is;
    }
