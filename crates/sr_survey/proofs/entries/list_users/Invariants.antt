use Rattle.std.proofs.Common.{map, length}
use Rattle.sr_survey_places.specs.Inner.Listed.{ByKey, IsListedUnder}
use Rattle.sr_survey_places.specs.declared.key.Key.TheVariants as keyed
use Rattle.sr_survey.proofs.entries.list_users.Given as goal

abbrev pub invariant-users : goal.invariant-users
invariant-users l = (m : ByKey) → IsListedUnder l.lists.lists (map keyed.Text l.left) l.place m → IsListedUnder l.fn.lists.lists (map keyed.Text l.users) l.place m

abbrev pub decreases-users : goal.decreases-users
decreases-users l = length l.left
