-- the changes that are left can be taken back, and lead to where all of them would
use Rattle.std.proofs.Common.{◌≡◌, vec_len}
use Rattle.sr_rows.specs.Inner.Gathered.{gathered}
use Rattle.sr_rows.specs.Inner.Steps.{back}
use Rattle.sr_rows.specs.Inner.Undoing.{seen, Undoable}
use Rattle.sr_rows.proofs.rows.Rows.back_to.Given as goal

abbrev pub invariant-changes : goal.invariant-changes
invariant-changes l = record {
  undoable : Undoable l.self-inside.changes.items (gathered l.self-inside.tables.entries);
  back : back l.steps (seen l.self-inside.changes.items (gathered l.self-inside.tables.entries)) ≡ back l.steps l.fn.self;
}

abbrev pub decreases-changes : goal.decreases-changes
decreases-changes l = vec_len l.self-inside.changes
