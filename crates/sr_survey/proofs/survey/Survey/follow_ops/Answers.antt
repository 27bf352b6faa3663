use Rattle.std.proofs.Common.{◌≡◌, [], ◌∷◌, map, rules, sym, subst}
use Rattle.std.proofs.lemmas.List.{nil_from_length}
use Rattle.sr_scan.specs.Inner.Meanings.{text_done}
use Rattle.sr_survey.proofs.Followed.{follows_nothing, follows_both}
use Rattle.sr_survey.specs.Inner.Texts.{FollowsTexts}
use Rattle.sr_survey.proofs.survey.Survey.follow_ops.Goals as goal

pub ops-init : goal.ops-init
ops-init c = λ s h. h

pub ops-preserved : goal.ops-preserved
ops-preserved c = λ s h.
    let e : c.ops.left.now ≡ c.in-Some.op.now ∷ c.in-Some.rest.now = search rules in
    c.ops.invariant s (subst (λ xs. FollowsTexts c.ops.self (map (λ p. text_done p.0 p.1) xs) c.args.at s) (sym e)
    (follows_both c.ops.self c.follow_op.new.self s (text_done c.in-Some.op.now.0 c.in-Some.op.now.1 ∷ []) (map (λ p. text_done p.0 p.1) c.in-Some.rest.now) c.args.at c.in_ok-follow_op.ensures.followed h))

pub returns : goal.returns
returns c =
    let none : c.ops.left.now ≡ [] = nil_from_length _ c.in_default.ensures.cases in
    record { followed = c.ops.invariant c.ops.self (subst (λ xs. FollowsTexts c.ops.self (map (λ p. text_done p.0 p.1) xs) c.args.at c.ops.self) (sym none) (follows_nothing c.ops.self c.args.at)) }
