use Rattle.std.proofs.Common.{◌≡◌, drop}
use Rattle.sr_exec_dml.specs.Inner.Edits.{prefixed}
use Rattle.sr_exec_dml.specs.Sequences.{each}
use Rattle.sr_query.specs.Inner.Preparing.{placed_row, resolutions_of}
use Rattle.sr_query.specs.Inner.Walks.{found}
use Rattle.sr_query.proofs.items.placed_rows.Given as goal

abbrev pub invariant-kept : goal.invariant-kept
invariant-kept l = prefixed l.rows.items (each (placed_row (resolutions_of l.parts) l.places) (found (drop l.combination-index l.kept)))
    ≡ each (placed_row (resolutions_of l.parts) l.places) (found l.kept)
