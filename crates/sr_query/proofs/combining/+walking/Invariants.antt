use Rattle.std.proofs.Common.{◌≡◌, ◌+◌, ◌*◌, ◌++◌, List, map, length}
use Rattle.sr_base.specs.declared.value.Value.{Value}
use Rattle.sr_eval.specs.Inner.Bounds.{values_of}
use Rattle.sr_rows.specs.Walks.{Entry}
use Rattle.sr_rows.proofs.Cursors.{AreHeld}
use Rattle.sr_exec_dml.specs.Inner.Edits.{prefixed}
use Rattle.sr_query.specs.Combinations.{combinations, kept, over_each}
use Rattle.sr_query.specs.Sources.{conditions_of, rows_by_key}
use Rattle.sr_query.specs.Inner.Walks.{found, seen}
use Rattle.sr_query.proofs.combining.+walking.Given as goal

abbrev pub decreases-walk : goal.decreases-walk
decreases-walk l = 3 * length l.left.now

abbrev pub decreases-walk_at : goal.decreases-walk_at
decreases-walk_at l = 3 * length l.after.now + 2

abbrev pub decreases-walk_along : goal.decreases-walk_along
decreases-walk_along l = 3 * length l.after.now + 2

abbrev pub decreases-walk_row : goal.decreases-walk_row
decreases-walk_row l = 3 * length l.after.now + 1

abbrev pub invariant-walk_along-rows : goal.invariant-walk_along-rows
invariant-walk_along-rows l = record {
  same : l.combination.items ≡ l.fn.combination.items;
  kept : (rest : List (List Value))
      → prefixed (found l.fn.kept.items) (kept l.prepared.scope.now (conditions_of l.prepared.select.now)
      (over_each (λ row. combinations (values_of l.fn.combination.items ++ row) (map (seen l.rows.rows) l.after))
      (rows_by_key l.rows.rows l.joined.table.now) ++ rest))
      ≡ prefixed (found l.kept.items) (kept l.prepared.scope.now (conditions_of l.prepared.select.now)
      (over_each (λ row. combinations (values_of l.fn.combination.items ++ row) (map (seen l.rows.rows) l.after))
      (map (λ (e : Entry). e.1) l.source) ++ rest));
  held : AreHeld l.rows.rows l.joined.table.now.name l.source;
}

abbrev pub decreases-walk_along-rows : goal.decreases-walk_along-rows
decreases-walk_along-rows l = length l.source
