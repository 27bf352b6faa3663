use Rattle.std.proofs.Common.{length}
use Rattle.sr_survey.specs.Inner.Concerning.{ops_keys}
use Rattle.sr_survey_places.specs.Inner.Listed.{ByKey, IsListedUnder}
use Rattle.sr_survey.proofs.entries.list_ops.Given as goal

abbrev pub invariant-ops : goal.invariant-ops
invariant-ops l = (m : ByKey) → IsListedUnder l.lists.lists (ops_keys l.catalog l.left) l.place m → IsListedUnder l.fn.lists.lists (ops_keys l.catalog l.ops) l.place m

abbrev pub decreases-ops : goal.decreases-ops
decreases-ops l = length l.left
