use Rattle.std.proofs.Common.{◌≡◌, ◌∷◌, [], map, length}
use Rattle.sr_query.specs.Combinations.{combinations}
use Rattle.sr_query.specs.Inner.Candidates.{rows_left}
use Rattle.sr_query.specs.Inner.Tallies.{tallied, told_of}
use Rattle.sr_query.specs.Inner.Walks.{seen}
use Rattle.sr_query.specs.Sources.{conditions_of}
use Rattle.sr_query.proofs.aggregates.take_rows.Given as goal

abbrev pub invariant-rows : goal.invariant-rows
invariant-rows l = tallied l.prepared.scope.now (conditions_of l.prepared.select.now) (map told_of l.fn.tallies)
    (combinations [] (seen l.rows.rows l.joined ∷ [])) ≡ tallied l.prepared.scope.now (conditions_of l.prepared.select.now) (map told_of l.tallies) (rows_left l.left)

abbrev pub decreases-rows : goal.decreases-rows
decreases-rows l = length (rows_left l.left)
