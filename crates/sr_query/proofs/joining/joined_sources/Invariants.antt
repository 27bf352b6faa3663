use Rattle.std.proofs.Common.{◌≡◌, map, length}
use Rattle.sr_ast.specs.declared.query.Join.{Join}
use Rattle.sr_exec_dml.specs.Inner.Edits.{prefixed}
use Rattle.sr_query.specs.Sources.{origins_of, sources_of}
use Rattle.sr_query.specs.Inner.Walks.{AreJoined, seen}
use Rattle.sr_query.proofs.joining.joined_sources.Given as goal

abbrev pub invariant-joins : goal.invariant-joins
invariant-joins l = record {
  fit : AreJoined l.rows.rows l.found.items;
  answer : prefixed (map (seen l.rows.rows) l.found.items) (origins_of l.catalog l.rows.rows (map (λ (j : Join). j.source) l.left))
      ≡ origins_of l.catalog l.rows.rows (sources_of l.select);
}

abbrev pub decreases-joins : goal.decreases-joins
decreases-joins l = length l.left
