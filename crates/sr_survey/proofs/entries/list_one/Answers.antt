use Rattle.std.proofs.Common.{[], ◌∷◌, subst}
use Rattle.sr_survey_places.proofs.Listing.{on_ok}
use Rattle.sr_survey_places.specs.Inner.Listed.{IsListedUnder}
use Rattle.sr_survey.proofs.entries.list_one.Goals as goal

pub returns : goal.returns
returns c = record {
  listed = on_ok c.add-listed.result c.add-listed.ensures.listed (λ h. λ k e. subst (λ x. IsListedUnder c.args.lists.now.lists (x ∷ []) c.args.place c.add-listed.new.self.lists) e h);
}
