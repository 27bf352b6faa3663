use Rattle.std.proofs.Common.{◌≡◌, ◌≢◌, ◌-◌, ℕ, List, [], length, Some, None, ap, sym, ◌∙◌, subst, arith}
use Rattle.sr_lex.specs.Inner.Prefixes.{IsPrefix, IsRefused}
use Rattle.sr_lex.specs.Inner.Reading.{token_at, after_gap}
use Rattle.sr_lex.proofs.Gaps.{after_gap-le}
use Rattle.sr_lex.proofs.Walk.{goes_on, token_fits, prefix_all, prefix_refused, after_gap-again, nothing_left, something_left}
use Rattle.sr_lex.proofs.lexer.Lexer.next.Goals as goal

pub returns-then-is_empty-clause-goes : goal.returns-then-is_empty-clause-goes
returns-then-is_empty-clause-goes c = λ done f.
    let none : c.self.inside.rest.now ≡ [] = nothing_left c.is_empty.result c.self.inside.rest.now c.is_empty.ensures c.if-is_empty.true in
    let left : c.args.self.now.1 ≡ [] = ap (λ (v : List ℕ × List ℕ). v.1) (sym c.self.view_is) ∙ none in
    prefix_all c.args.self.now.0 _ done c.args.self.now.1 f left

pub returns-in_default-clause-goes : goal.returns-in_default-clause-goes
returns-in_default-clause-goes c = λ done f.
    let lacks : token_at c.self.inside.rest.now ≡ None = sym c.in_ok-kind.ensures ∙ c.in_default.is in
    let some : c.self.inside.rest.now ≢ [] = something_left c.is_empty.result c.self.inside.rest.now c.is_empty.ensures c.if-is_empty.false in
    let view : c.args.self.now ≡ (c.self.inside.text.now, c.self.inside.rest.now) = sym c.self.view_is in
    let here : IsPrefix (c.self.inside.text.now, c.self.inside.rest.now) done = subst (λ (v : List ℕ × List ℕ). IsPrefix v done) view f in
    subst (λ (v : List ℕ × List ℕ). IsRefused v.0 (length c.self.inside.text.now - length c.self.inside.rest.now)) (sym view)
    (prefix_refused c.self.inside.text.now _ done c.self.inside.rest.now here some lacks)

pub overflow_add-end : goal.overflow_add-end
overflow_add-end c =
    let found : token_at c.self.inside.rest.now ≡ Some (c.in-Some.kind, c.in-Some.length) = sym c.in_ok-kind.ensures ∙ c.in-Some.is in
    let fits = token_fits c.self.inside.rest.now c.in-Some.length c.in-Some.kind c.self.invariant.1 found in
    let p = c.self.invariant.0 in
    omega arith

pub split_at-requires : goal.split_at-requires
split_at-requires c =
    let found : token_at c.self.inside.rest.now ≡ Some (c.in-Some.kind, c.in-Some.length) = sym c.in_ok-kind.ensures ∙ c.in-Some.is in
    (token_fits c.self.inside.rest.now c.in-Some.length c.in-Some.kind c.self.invariant.1 found).1

pub invariant_of-self : goal.invariant_of-self
invariant_of-self c =
    let l = c.split_at.ensures.back_len in
    let p = c.self.invariant.0 in
    let g : length c.after_gap-self-inside.result.now ≡ length (after_gap c.split_at.result.1.now) = ap length c.after_gap-self-inside.ensures in
    (omega (arith, after_gap-le c.split_at.result.1.now), after_gap-again c.after_gap-self-inside.result.now c.split_at.result.1.now c.after_gap-self-inside.ensures)

pub returns-clause-goes : goal.returns-clause-goes
returns-clause-goes c = λ done f.
    let found : token_at c.self.inside.rest.now ≡ Some (c.in-Some.kind, c.in-Some.length) = sym c.in_ok-kind.ensures ∙ c.in-Some.is in
    let view : c.args.self.now ≡ (c.self.inside.text.now, c.self.inside.rest.now) = sym c.self.view_is in
    let here : IsPrefix (c.self.inside.text.now, c.self.inside.rest.now) done = subst (λ (v : List ℕ × List ℕ). IsPrefix v done) view f in
    goes_on c.self.inside.text.now c.self.inside.rest.now c.split_at.result.1.now c.after_gap-self-inside.result.now _ c.in-Some.length done c.in-Some.kind here found c.split_at.ensures.back c.after_gap-self-inside.ensures

pub returns-clause-shorter : goal.returns-clause-shorter
returns-clause-shorter c =
    let found : token_at c.self.inside.rest.now ≡ Some (c.in-Some.kind, c.in-Some.length) = sym c.in_ok-kind.ensures ∙ c.in-Some.is in
    let fits = token_fits c.self.inside.rest.now c.in-Some.length c.in-Some.kind c.self.invariant.1 found in
    let l = c.split_at.ensures.back_len in
    let g : length c.after_gap-self-inside.result.now ≡ length (after_gap c.split_at.result.1.now) = ap length c.after_gap-self-inside.ensures in
    let v : length c.args.self.now.1 ≡ length c.self.inside.rest.now = ap (λ (v : List ℕ × List ℕ). length v.1) (sym c.self.view_is) in
    omega (arith, after_gap-le c.split_at.result.1.now)
