use Rattle.std.proofs.Common.{[], ◌∷◌, subst}
use Rattle.sr_survey.specs.Inner.Effects.{Serves}
use Rattle.sr_survey_places.proofs.Listing.{on_ok}
use Rattle.sr_survey.proofs.survey.Survey.serve_one.Goals as goal

pub returns : goal.returns
returns c = record {
  served = on_ok c.serve_key-served.result c.serve_key-served.ensures.served (λ h. λ k e. subst (λ x. Serves c.args.self.now c.args.user.now (x ∷ []) c.serve_key-served.new.self) e h);
}
