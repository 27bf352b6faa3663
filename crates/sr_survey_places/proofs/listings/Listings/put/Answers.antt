use Rattle.std.proofs.Common.{◌≡◌, ◌-◌, ◌^◌, min, length, rules, sym, ap, subst, is_some}
use Rattle.std.specs.HashMap as table
use Rattle.sr_survey_places.specs.Inner.Search.{InOrder, places_in}
use Rattle.sr_survey_places.specs.Inner.Keys.{key_eq}
use Rattle.sr_survey_places.specs.Inner.Listed.{count_of}
use Rattle.sr_survey_places.proofs.Listing.{stays_in_order, count_put, counted_more, counted_bound, listed_more, put_back, err_too}
use Rattle.sr_survey_places.proofs.listings.Listings.put.Goals as goal

pub put-requires : goal.put-requires
put-requires c = record { order = subst (λ o. InOrder (places_in o)) (sym c.in-Some.ensures.value) (c.args.self.now.in_order c.args.key.now) }

pub invariant_of-self : goal.invariant_of-self
invariant_of-self c =
    let lists = c.args.self.now.lists in
    let new = c.get_mut.follows.lender c.put.new.places in
    let holds = c.get_mut.follows.holds c.put.new.places in
    let counts = count_put lists new c.args.key.now c.in-Some.places.now c.put.new.places (sym c.in-Some.ensures.value) holds.0 in
    record {
      in_order = stays_in_order lists new c.args.key.now c.put.new.places (holds.3 (search rules)).0 c.put.ensures.order c.args.self.now.in_order;
      counted = counted_more (count_of lists) (count_of new) (length c.in-Some.places.now) (length c.put.new.places) c.args.self.now.count c.put.new.count (2 ^ 64 - 1) counts c.put.ensures.more
          c.args.self.now.counted c.put.ensures.counted;
    }

pub invariant_of-self-in-None : goal.invariant_of-self-in-None
invariant_of-self-in-None c = record {
  in_order = λ q. subst (λ m. InOrder (places_in (table.get key_eq m q))) (sym c.get_mut.follows.holds-at-none) (c.args.self.now.in_order q);
  counted = subst (λ m. c.args.self.now.count ≡ min (count_of m) (2 ^ 64 - 1)) (sym c.get_mut.follows.holds-at-none) c.args.self.now.counted;
}

pub returns-in_ok-put-in-Some-clause-listed : goal.returns-in_ok-put-in-Some-clause-listed
returns-in_ok-put-in-Some-clause-listed c = λ _.
    let lists = c.args.self.now.lists in
    let new = c.get_mut.follows.lender c.put.new.places in
    let holds = c.get_mut.follows.holds c.put.new.places in
    let was = sym c.in-Some.ensures.value in
    let counts = count_put lists new c.args.key.now c.in-Some.places.now c.put.new.places was holds.0 in
    listed_more lists new c.args.key.now c.args.place c.in-Some.places.now c.put.new.places was (holds.3 (search rules)).0
    (counted_bound (count_of lists) (count_of new) (length c.in-Some.places.now) (length c.put.new.places) counts c.put.ensures.one) c.in_ok-put-in-Some.ensures.there c.put.ensures.stays c.put.ensures.only

pub returns-in_err-put-in-Some-clause-left : goal.returns-in_err-put-in-Some-clause-left
returns-in_err-put-in-Some-clause-left c =
    let new = c.get_mut.follows.lender c.put.new.places in
    let holds = c.get_mut.follows.holds c.put.new.places in
    let back = put_back c.args.self.now.lists new c.args.key.now c.in-Some.places.now c.put.new.places (sym c.in-Some.ensures.value) (holds.3 (search rules)).0 c.in_err-put-in-Some.ensures.left holds.0 in
    err_too c.from_residual.result back

pub returns-in-None : goal.returns-in-None
returns-in-None c = record {
  there = ap is_some c.in-None.ensures.value;
  listed = λ e. cc;
  none = λ _. c.get_mut.follows.holds-at-none;
  left = tt;
}
