use Rattle.std.proofs.Common.{sym}
use Rattle.sr_scan.specs.Inner.Images.{row_changed}
use Rattle.sr_survey.proofs.Listing.{change_some}
use Rattle.sr_survey_places.proofs.Listing.{on_ok}
use Rattle.sr_survey.proofs.rows.list_rows_anew.Goals as goal

pub returns : goal.returns
returns c = record {
  listed = on_ok c.list_two-listed.result c.list_two-listed.ensures.listed
      (λ h. change_some c.args.lists.now.lists c.list_two-listed.new.lists.lists c.args.place c.args.catalog.now (row_changed c.args.table.now c.args.before.now c.args.after.now) c.in-Some.there.now c.in_ok-routes.routes.table c.in_ok-routes.routes.articles
      (sym c.in-Some.ensures.table) c.in_ok-routes.ensures.table c.in_ok-routes.ensures.articles h);
}
