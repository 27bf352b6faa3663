use Rattle.std.proofs.Common.{rules, sym, ap, ◌∙◌}
use Rattle.std.proofs.lemmas.Fn.{always_returns_same}
use Rattle.std.specs.Cmp.{Equal-is}
use Rattle.sr_base.specs.Order.{key_cmp}
use Rattle.sr_base.proofs.Exact.{exact_keys}
use Rattle.sr_rows.proofs.Searching.{search_ends}
use Rattle.sr_rows.proofs.rising.search_near.Goals as goal

pub returns-in-Some : goal.returns-in-Some
returns-in-Some c =
    let found = c.in-Some.ensures.lookup.3 in
    let same = exact_keys c.in-Some.field-0.now.0 c.args.key.now (sym c.cmp.ensures ∙ (Equal-is c.cmp.result).0 (sym c.is_eq.ensures ∙ c.if-is_eq.true)) in
    record { ends = (found.0, λ d. ap (λ e. e.0) (sym (found.1 d)) ∙ same) }

pub returns-in_default : goal.returns-in_default
returns-in_default c = record {
  ends = search_ends c.args.places.now c.args.key.now c.binary_search_by.result c.requires.order c.binary_search_by.ensures.bound
      (c.binary_search_by.ensures.position (λ e. key_cmp e.0 c.args.key.now) (always_returns_same _ _ _ (λ a r f' called. search rules)));
}
