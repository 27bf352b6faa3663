use Rattle.std.proofs.Common.{rules, refl, sym, ap, subst, ◌&&◌, true, Some, None, MatchOption, List, Option, ◌∙◌}
use Rattle.std.specs.Option.{option_copied}
use Rattle.std.specs.Ordering.{is_lt}
use Rattle.std.specs.FinMap as map
use Rattle.sr_base.specs.declared.value.Value.{Value}
use Rattle.sr_base.specs.Order.{key_cmp}
use Rattle.sr_rows.specs.Inner.Gathered.{row_of, first_filled}
use Rattle.sr_rows.specs.Inner.Marks.{IsNext, IsLast}
use Rattle.sr_rows.proofs.Walking.{next_is, less_tells}
use Rattle.sr_rows.proofs.tree.Tree.next.Goals as goal

pub returns-in-Some : goal.returns-in-Some
returns-in-Some c =
    let key = c.in-Some.key.now in
    let row_at : List Value → Option (List Value) = λ k. row_of (map.get c.args.self.now k) in
    let next = next_is c.self.inside.places.entries c.range.ensures.ordered c.args.self.now c.self.view_is (Some key)
    (λ q. is_lt (key_cmp key q) && true) (λ q. less_tells (key_cmp key q)) (λ q e. ap (λ o. is_lt o && true) e)
    c.first_filled.result (c.first_filled.ensures.first ∙ ap first_filled (c.range.ensures.between (search rules))) in
    record { next = subst (λ a. MatchOption c.first_filled.result (IsLast row_at a) (λ x. IsNext row_at a x.0.now x.1.now)) (sym (ap option_copied c.in-Some.is)) next }

pub returns-in-None : goal.returns-in-None
returns-in-None c =
    let row_at : List Value → Option (List Value) = λ k. row_of (map.get c.args.self.now k) in
    let next = next_is c.self.inside.places.entries c.range-in-None.ensures.ordered c.args.self.now c.self.view_is None
    (λ q. true) (λ q _. tt) (λ q _. refl)
    c.first_filled-in-None.result (c.first_filled-in-None.ensures.first ∙ ap first_filled (c.range-in-None.ensures.between (search rules))) in
    record { next = subst (λ a. MatchOption c.first_filled-in-None.result (IsLast row_at a) (λ x. IsNext row_at a x.0.now x.1.now)) (sym (ap option_copied c.in-None.is)) next }
