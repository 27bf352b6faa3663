use Rattle.std.proofs.Common.{◌≡◌, IfSome, sym, subst, ◌∙◌}
use Rattle.sr_survey.proofs.Taken.{begins_so}
use Rattle.sr_survey.specs.Inner.Taking.{ServesAll}
use Rattle.sr_survey.specs.declared.given_up.GivenUp.TheVariants.{Memory}
use Rattle.sr_survey.proofs.survey.Survey.new.Goals as goal

pub returns-in-Ok : goal.returns-in-Ok
returns-in-Ok c =
    let fresh = c.fresh-survey.ensures.fresh in
    let served = subst (λ ss. ServesAll c.fresh-survey.result ss c.serve_copies.new.self) c.subscriptions.ensures.subscriptions (c.in-Ok.ensures.served c.subscriptions.result.now c.copies-subscriptions.ensures.copies) in
    record {
      begins = λ g. (begins_so c.args.base c.args.begin.0 c.args.most c.fresh-survey.result c.serve_copies.new.self fresh served, served.knows.most ∙ fresh.most);
      given_up = subst (λ o. IfSome o (λ why. why ≡ Memory)) (sym (served.knows.given_up ∙ fresh.given_up)) tt;
    }
