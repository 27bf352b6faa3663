use Rattle.std.proofs.Common.{◌≡◌, ◌∷◌, [], length}
use Rattle.sr_exec_dml.specs.Inner.Edits.{prefixed}
use Rattle.sr_query.specs.Combinations.{combinations, kept}
use Rattle.sr_query.specs.Inner.Candidates.{rows_left}
use Rattle.sr_query.specs.Inner.Walks.{found, seen}
use Rattle.sr_query.specs.Sources.{conditions_of}
use Rattle.sr_query.proofs.keeping.kept_rows.Given as goal

abbrev pub invariant-rows : goal.invariant-rows
invariant-rows l = prefixed (found l.kept.items) (kept l.prepared.scope.now (conditions_of l.prepared.select.now) (rows_left l.left))
    ≡ kept l.prepared.scope.now (conditions_of l.prepared.select.now) (combinations [] (seen l.rows.rows l.joined ∷ []))

abbrev pub decreases-rows : goal.decreases-rows
decreases-rows l = length (rows_left l.left)
