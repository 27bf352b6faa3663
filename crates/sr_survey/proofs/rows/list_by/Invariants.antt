use Rattle.std.proofs.Common.{filter_map, length}
use Rattle.sr_survey.specs.Inner.Keyed.{article_key}
use Rattle.sr_survey_places.specs.Inner.Listed.{ByKey, IsListedUnder}
use Rattle.sr_survey.proofs.rows.list_by.Given as goal

abbrev pub invariant-articles : goal.invariant-articles
invariant-articles l = (m : ByKey) → IsListedUnder l.lists.lists (filter_map (article_key l.routes.table l.row) l.left) l.place m
    → IsListedUnder l.fn.lists.lists (filter_map (article_key l.routes.table l.row) l.routes.articles) l.place m

abbrev pub decreases-articles : goal.decreases-articles
decreases-articles l = length l.left
