use Rattle.std.proofs.Common.{◌≡◌, [], ◌∷◌, rules, sym, subst}
use Rattle.std.proofs.lemmas.List.{nil_from_length}
use Rattle.sr_survey.proofs.Taken.{serves_none, serves_more}
use Rattle.sr_survey.specs.Inner.Taking.{ServesAll}
use Rattle.sr_survey.proofs.survey.Survey.serve_all.Goals as goal

pub subscriptions-init : goal.subscriptions-init
subscriptions-init c = λ s h. h

pub subscriptions-preserved : goal.subscriptions-preserved
subscriptions-preserved c = λ s h.
    let e : c.subscriptions.left.now ≡ c.in-Some.subscription.now ∷ c.in-Some.rest.now = search rules in
    c.subscriptions.invariant s (subst (λ xs. ServesAll c.subscriptions.self xs s) (sym e)
    (serves_more c.subscriptions.self c.serve_if_started.new.self s (c.in-Some.subscription.now ∷ []) c.in-Some.rest.now c.in_ok-serve_if_started.ensures.served h))

pub returns : goal.returns
returns c =
    let none : c.subscriptions.left.now ≡ [] = nil_from_length _ c.in_default.ensures.cases in
    record { served = c.subscriptions.invariant c.subscriptions.self (subst (λ xs. ServesAll c.subscriptions.self xs c.subscriptions.self) (sym none) (serves_none c.subscriptions.self)) }
