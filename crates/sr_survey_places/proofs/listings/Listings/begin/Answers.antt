use Rattle.std.proofs.Common.{◌≡◌, ◌-◌, ◌^◌, min, [], false, is_some, sym, ap, subst, ◌∙◌}
use Rattle.std.specs.HashMap as table
use Rattle.sr_survey_places.specs.Inner.Search.{InOrder}
use Rattle.sr_survey_places.specs.Inner.Keys.{key_eq}
use Rattle.sr_survey_places.specs.Inner.Listed.{IsBegun}
use Rattle.sr_survey_places.proofs.Listing.{IsPut, begun_more, inserted_count, inserted_in_order, nothing_in_order, on_ok}
use Rattle.sr_survey_places.proofs.listings.Listings.begin.Goals as goal

pub invariant_of-self : goal.invariant_of-self
invariant_of-self c =
    let lists = c.args.self.now.lists in
    let key = c.in_ok-key.key in
    let none : is_some (table.get key_eq lists key) ≡ false = subst (λ x. is_some (table.get key_eq lists x) ≡ false) (sym c.in_ok-key.ensures.equal) (sym c.contains_key.ensures ∙ c.if-contains_key.false) in
    record {
      in_order = inserted_in_order c.insert.result lists c.insert.new.self key c.empty.result (on_ok c.insert.result c.insert.ensures.updates (λ u. u.0)) c.insert.ensures.err
          (subst InOrder (sym c.empty.ensures.empty) nothing_in_order) c.args.self.now.in_order;
      counted = c.args.self.now.counted ∙ ap (λ n. min n (2 ^ 64 - 1)) (sym (inserted_count c.insert.result lists c.insert.new.self key c.empty.result none c.empty.ensures.empty c.insert.ensures.old c.insert.ensures.entries c.insert.ensures.err));
    }

pub returns-in-Ok : goal.returns-in-Ok
returns-in-Ok c =
    let lists = c.args.self.now.lists in
    let key = c.in_ok-key.key in
    let none : is_some (table.get key_eq lists key) ≡ false = subst (λ x. is_some (table.get key_eq lists x) ≡ false) (sym c.in_ok-key.ensures.equal) (sym c.contains_key.ensures ∙ c.if-contains_key.false) in
    let put : IsPut lists c.insert.new.self key [] = subst (λ v. IsPut lists c.insert.new.self key v) c.empty.ensures.empty c.in-Ok.ensures.updates.0 in
    record {
      begun = subst (λ k. IsBegun lists k c.insert.new.self) c.in_ok-key.ensures.equal (begun_more lists c.insert.new.self key none put (inserted_count c.insert.result lists c.insert.new.self key c.empty.result none c.empty.ensures.empty c.insert.ensures.old c.insert.ensures.entries c.insert.ensures.err));
      left = tt;
    }
