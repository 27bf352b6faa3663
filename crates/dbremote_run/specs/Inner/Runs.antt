-- What becomes of an order.
-- Here is what no contract of the program says by itself.
use Rattle.std.specs.Prelude.{◌⊎◌, ℕ}
use Rattle.sr_database_files.specs.declared.fault.DatabaseFault.TheVariants.{Memory}
use Rattle.dbremote_command.specs.Outside.{Outside}
use Rattle.dbremote_command.specs.Runs.{IsRefused, RanOrder}
use Rattle.dbremote_command.specs.declared.fault.Fault.TheVariants.{Database}
use Rattle.dbremote_command.specs.declared.order.Order.{Order}

-- the order was done, or it is refused for want of memory
abbrev pub RanWithMemory : Order → Outside → Outside → ℕ → Type 0
RanWithMemory order old new status = RanOrder order old new status ⊎ IsRefused (Database Memory) old new status
