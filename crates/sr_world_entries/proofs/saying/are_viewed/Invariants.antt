use Rattle.std.proofs.Common.{◌↔◌, length}
use Rattle.std.specs.List.{AllByRecursion}
use Rattle.sr_database_fold.specs.Inner.Readings.{state_in}
use Rattle.sr_world.specs.Lawful.{IsViewed}
use Rattle.sr_world_entries.proofs.saying.are_viewed.Given as goal

-- all are viewed where those that are left are
abbrev pub invariant-tables : goal.invariant-tables
invariant-tables l = AllByRecursion (IsViewed (state_in l.catalog l.rows) l.user) l.tables ↔ AllByRecursion (IsViewed (state_in l.catalog l.rows) l.user) l.left

abbrev pub decreases-tables : goal.decreases-tables
decreases-tables l = length l.left
