use Rattle.std.proofs.Common.{sym, ◌∙◌}
use Rattle.sr_survey.proofs.Listing.{route_none, route_some}
use Rattle.sr_survey_places.proofs.Listing.{on_ok}
use Rattle.sr_survey.proofs.rows.list_route.Goals as goal

pub returns-in-None : goal.returns-in-None
returns-in-None c = record { listed = route_none c.args.lists.now.lists c.args.place c.args.routes.now.table c.args.row.now c.args.route.now (sym c.in_ok-found.ensures.key ∙ c.in-None.is) }

pub returns-in-Some : goal.returns-in-Some
returns-in-Some c = record {
  listed = on_ok c.add-listed.result c.add-listed.ensures.listed
      (λ h. route_some c.args.lists.now.lists c.add-listed.new.self.lists c.args.place c.args.routes.now.table c.args.row.now c.args.route.now c.in-Some.key (sym c.in_ok-found.ensures.key ∙ c.in-Some.is) h);
}
