use Rattle.std.proofs.Common.{[], ◌∷◌, rules, ◌∙◌}
use Rattle.sr_survey_places.proofs.Listing.{ready_begun, ready_listed}
use Rattle.sr_survey_places.proofs.listings.Listings.add_anew.Goals as goal

pub returns-clause-listed : goal.returns-clause-listed
returns-clause-listed c =
    ready_listed c.args.self.now.lists c.begin.new.self.lists c.put.new.self.lists c.args.key.now (c.args.key.now ∷ []) c.args.place
    (ready_begun c.args.self.now.lists c.begin.new.self.lists c.args.key.now (search rules) c.in_ok-begin.ensures.begun) (c.in_ok-put.ensures.listed (c.in_ok-put.ensures.there ∙ c.in_ok-begin.ensures.begun.there))
