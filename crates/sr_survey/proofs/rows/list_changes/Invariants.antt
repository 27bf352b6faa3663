use Rattle.std.proofs.Common.{length}
use Rattle.sr_survey.specs.Inner.Keyed.{changes_keys}
use Rattle.sr_survey_places.specs.Inner.Listed.{ByKey, IsListedUnder}
use Rattle.sr_survey.proofs.rows.list_changes.Given as goal

abbrev pub invariant-changes : goal.invariant-changes
invariant-changes l = (m : ByKey) → IsListedUnder l.lists.lists (changes_keys l.catalog l.left) l.place m → IsListedUnder l.fn.lists.lists (changes_keys l.catalog l.changes) l.place m

abbrev pub decreases-changes : goal.decreases-changes
decreases-changes l = length l.left
