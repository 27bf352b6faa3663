use Rattle.std.proofs.Common.{◌≡◌, length}
use Rattle.sr_exec_fits.specs.Rows.{IsRow}
use Rattle.sr_resolve_triggers.specs.Firing.{after_triggers, first_bindings}
use Rattle.sr_resolve_triggers.specs.Inner.Running.{update_conflict_of}
use Rattle.sr_resolve_triggers.proofs.firing.fire.Given as goal

abbrev pub invariant-triggers : goal.invariant-triggers
invariant-triggers l = record {
  fired : after_triggers (update_conflict_of l.conflict) l.differing l.left l.bindings
      ≡ after_triggers (update_conflict_of l.conflict) l.differing (update_conflict_of l.conflict).catalog.triggers (first_bindings l.fn.row.items);
  row : IsRow l.conflict.table.now.columns l.bindings.new;
}

abbrev pub decreases-triggers : goal.decreases-triggers
decreases-triggers l = length l.left
