use Rattle.std.proofs.Common.{OnOk, refl, subst}
use Rattle.sr_scan.specs.Inner.Images.{row_changed}
use Rattle.sr_survey.specs.Inner.Keyed.{change_keys}
use Rattle.sr_survey.proofs.Listing.{change_some}
use Rattle.sr_survey_places.proofs.Listing.{on_ok}
use Rattle.sr_survey_places.specs.Inner.Listed.{IsListedUnder}
use Rattle.sr_survey.proofs.rows.list_rows.Goals as goal

pub returns-in-Some : goal.returns-in-Some
returns-in-Some c =
    let routes = c.in-Some.routes.now in
    let is = c.in-Some.ensures.route in
    let changed = row_changed c.args.table.now c.args.before.now c.args.after.now in
    record {
      listed = on_ok c.list_two.result c.list_two.ensures.listed
          (λ h. change_some c.args.lists.now.lists c.list_two.new.lists.lists c.args.place c.args.catalog.now changed routes.table routes.table routes.articles is.table refl is.articles h);
    }

pub returns-in-None : goal.returns-in-None
returns-in-None c =
    let changed = row_changed c.args.table.now c.args.before.now c.args.after.now in
    record {
      listed = subst (λ l. OnOk c.list_rows_anew.result (IsListedUnder c.args.lists.now.lists (change_keys l changed) c.args.place c.list_rows_anew.new.lists.lists)) c.catalog.ensures.catalog
          c.list_rows_anew.ensures.listed;
    }
