use Rattle.std.proofs.Common.{◌≡◌, true, false, filter_map, ap}
use Rattle.sr_exec_fits.specs.Rows.{is_row}
use Rattle.sr_survey.specs.Inner.Keyed.{article_key}
use Rattle.sr_survey.proofs.Listing.{row_none, row_some, listed_as}
use Rattle.sr_survey_places.proofs.Listing.{on_ok}
use Rattle.sr_survey.proofs.rows.list_row.Goals as goal

pub returns-then-not-is_row : goal.returns-then-not-is_row
returns-then-not-is_row c =
    let t = c.args.routes.now.table in
    let fits : is_row t.columns c.args.row.now ≡ false = cc in
    record { listed = row_none c.args.lists.now.lists c.args.place t c.args.routes.now.articles c.args.row.now fits }

pub returns : goal.returns
returns c =
    let t = c.args.routes.now.table in
    let routes = c.args.routes.now.articles in
    let fits : is_row t.columns c.args.row.now ≡ true = cc in
    record {
      listed = on_ok c.list_by.result c.list_by.ensures.listed (λ h. row_some c.args.lists.now.lists c.list_by.new.lists.lists c.args.place t routes c.args.row.now fits
          (listed_as c.args.lists.now.lists c.list_by.new.lists.lists c.args.place (filter_map (article_key t c.values-cells.result.now) routes) (filter_map (article_key t c.args.row.now) routes)
          (ap (λ r. filter_map (article_key t r) routes) c.values-cells.ensures.values) h));
    }
