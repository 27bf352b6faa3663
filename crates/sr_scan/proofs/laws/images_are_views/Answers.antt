use Rattle.sr_scan.proofs.Agreeing.{told_same, catalog_same, given_same, fed_same}
use Rattle.sr_scan.proofs.laws.images_are_views.Goals as goal

pub returns : goal.returns
returns c = record { told = told_same; catalog = catalog_same; given = given_same; fed = fed_same }
