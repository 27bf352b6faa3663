use Rattle.std.proofs.Common.{[], ◌∷◌, sym, subst}
use Rattle.sr_publish.specs.Inner.Numbers.{widened}
use Rattle.sr_survey.proofs.Noting.{serves_both}
use Rattle.sr_survey.specs.Inner.Effects.{Serves}
use Rattle.sr_survey.specs.Inner.Keyed.{keys_of}
use Rattle.sr_survey_places.specs.declared.key.Key.TheVariants.{Whole, Part}
use Rattle.sr_survey.proofs.survey.Survey.serve.Goals as goal

pub returns-in_ok-serve_value-in-Some : goal.returns-in_ok-serve_value-in-Some
returns-in_ok-serve_value-in-Some c =
    let p = c.args.publication.now in
    record {
      served = subst (λ v. Serves c.args.self.now c.args.user.now (keys_of p v) c.serve_value.new.self) (sym c.in-Some.is)
          (serves_both c.args.self.now c.serve_whole.new.self c.serve_value.new.self c.args.user.now (Whole p ∷ []) (Part p (widened c.in-Some.value) ∷ []) c.in_ok-serve_whole.ensures.served c.in_ok-serve_value-in-Some.ensures.served);
    }
