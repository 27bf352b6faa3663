use Rattle.std.proofs.Common.{[], ◌∷◌, OnOk, OnErr, rules, subst}
use Rattle.sr_survey_places.specs.Inner.Listed.{IsLeft, IsListedUnder}
use Rattle.sr_survey_places.proofs.listings.Listings.add.Goals as goal

pub returns-clause-listed : goal.returns-clause-listed
returns-clause-listed c = subst (λ m. OnOk c.add_anew.result (IsListedUnder m (c.args.key.now ∷ []) c.args.place c.add_anew.new.self.lists)) (c.in_ok-put.ensures.none (search rules)) c.add_anew.ensures.listed

pub returns-clause-left : goal.returns-clause-left
returns-clause-left c = subst (λ m. OnErr c.add_anew.result (IsLeft m c.add_anew.new.self.lists)) (c.in_ok-put.ensures.none (search rules)) c.add_anew.ensures.left
