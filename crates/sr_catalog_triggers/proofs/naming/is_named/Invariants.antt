use Rattle.std.proofs.Common.{◌≡◌, length}
use Rattle.std.specs.List.{list_any}
use Rattle.sr_catalog_triggers.specs.Triggers.{trigger_names}
use Rattle.sr_catalog_triggers.proofs.naming.is_named.Given as goal

abbrev pub invariant-triggers : goal.invariant-triggers
invariant-triggers l = list_any (trigger_names l.table) l.rest ≡ list_any (trigger_names l.table) l.triggers

abbrev pub decreases-triggers : goal.decreases-triggers
decreases-triggers l = length l.rest
