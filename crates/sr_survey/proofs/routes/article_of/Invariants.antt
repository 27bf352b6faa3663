use Rattle.std.proofs.Common.{◌≡◌, bytes_eq, find, length}
use Rattle.sr_survey.proofs.routes.article_of.Given as goal

abbrev pub invariant-articles : goal.invariant-articles
invariant-articles l = find (λ a. bytes_eq l.table a.table) l.articles ≡ find (λ a. bytes_eq l.table a.table) l.left

abbrev pub decreases-articles : goal.decreases-articles
decreases-articles l = length l.left
