use Rattle.std.proofs.Common.{sym, ap, subst, true, refl, List, Option, Some, None, MatchOption, filter, ◌∙◌}
use Rattle.std.specs.FinMap as map
use Rattle.std.specs.Option.{option_copied}
use Rattle.std.specs.Ordering.{is_lt}
use Rattle.sr_base.specs.declared.value.Value.{Value}
use Rattle.sr_base.specs.Order.{key_cmp}
use Rattle.sr_rows.specs.Inner.Gathered.{row_of, first_filled, filled_rows}
use Rattle.sr_rows.specs.Inner.Marks.{IsNext, IsLast}
use Rattle.sr_rows.proofs.Searching.{taken_first, all_kept, less}
use Rattle.sr_rows.proofs.Walking.{next_is}
use Rattle.sr_rows.proofs.rising.Rising.next.Goals as goal

pub returns-in-Some : goal.returns-in-Some
returns-in-Some c =
    let key = c.in-Some.key.now in
    let row_at : List Value → Option (List Value) = λ k. row_of (map.get c.args.self.now k) in
    let places = c.behind.ensures.behind ∙ ap (λ xs. filter (λ e. is_lt (key_cmp key e.0)) xs) c.as_slice-places.ensures.value in
    let next = next_is c.self.inside.places.items c.self.invariant c.args.self.now c.self.view_is (Some key)
    (λ q. is_lt (key_cmp key q)) (λ q. less (key_cmp key q)) (λ q e. ap is_lt e)
    c.next_filled.result.0 (taken_first c.behind.result.now c.next_filled.result.0 (filled_rows c.next_filled.result.1.now) c.next_filled.ensures.next ∙ ap first_filled places) in
    record { next = subst (λ a. MatchOption c.next_filled.result.0 (IsLast row_at a) (λ x. IsNext row_at a x.0.now x.1.now)) (sym (ap option_copied c.in-Some.is)) next }

pub returns-in-None : goal.returns-in-None
returns-in-None c =
    let row_at : List Value → Option (List Value) = λ k. row_of (map.get c.args.self.now k) in
    let places = c.as_slice-places.ensures.value ∙ all_kept c.self.inside.places.items in
    let next = next_is c.self.inside.places.items c.self.invariant c.args.self.now c.self.view_is None
    (λ q. true) (λ q _. tt) (λ q _. refl)
    c.next_filled-in-None.result.0 (taken_first c.as_slice-places.result.now c.next_filled-in-None.result.0 (filled_rows c.next_filled-in-None.result.1.now) c.next_filled-in-None.ensures.next ∙ ap first_filled places) in
    record { next = subst (λ a. MatchOption c.next_filled-in-None.result.0 (IsLast row_at a) (λ x. IsNext row_at a x.0.now x.1.now)) (sym (ap option_copied c.in-None.is)) next }
