use Rattle.std.proofs.Common.{sym}
use Rattle.sr_survey.proofs.Listing.{change_some}
use Rattle.sr_survey_places.proofs.Listing.{on_ok}
use Rattle.sr_survey.proofs.rows.list_change_anew.Goals as goal

pub returns : goal.returns
returns c = record {
  listed = on_ok c.list_both-listed.result c.list_both-listed.ensures.listed
      (λ h. change_some c.args.lists.now.lists c.list_both-listed.new.lists.lists c.args.place c.args.catalog.now c.args.change.now c.in-Some.table.now c.in_ok-routes.routes.table c.in_ok-routes.routes.articles
      (sym c.in-Some.ensures.table) c.in_ok-routes.ensures.table c.in_ok-routes.ensures.articles h);
}
