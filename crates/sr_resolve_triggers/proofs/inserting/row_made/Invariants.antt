use Rattle.std.proofs.Common.{◌≡◌, length, map}
use Rattle.sr_ast.specs.Exprs.{term_of}
use Rattle.sr_exec_where.specs.Naming.{names_of}
use Rattle.sr_resolve_triggers.specs.Actions.{row_made, value_in}
use Rattle.sr_resolve_triggers.specs.Inner.Actions.{after_items}
use Rattle.sr_resolve_triggers.specs.Inner.Running.{update_conflict_of}
use Rattle.sr_resolve_triggers.proofs.inserting.row_made.Given as goal

abbrev pub invariant-columns : goal.invariant-columns
invariant-columns l =
    after_items l.values.items (row_made (value_in (update_conflict_of l.running.conflict) l.running.trigger.now l.bindings) (names_of l.table.columns l.columns)
    (map term_of l.exprs) l.left)
    ≡ row_made (value_in (update_conflict_of l.running.conflict) l.running.trigger.now l.bindings) (names_of l.table.columns l.columns)
    (map term_of l.exprs) l.table.columns

abbrev pub decreases-columns : goal.decreases-columns
decreases-columns l = length l.left
