use Rattle.std.proofs.Common.{◌≡◌, ◌++◌, filter_map, length}
use Rattle.sr_survey.specs.Inner.Keyed.{route_in}
use Rattle.sr_survey.proofs.routes.articles_of.Given as goal

abbrev pub invariant-publications : goal.invariant-publications
invariant-publications l = l.articles.items ++ filter_map (route_in l.table) l.left ≡ filter_map (route_in l.table) l.publications

abbrev pub decreases-publications : goal.decreases-publications
decreases-publications l = length l.left
