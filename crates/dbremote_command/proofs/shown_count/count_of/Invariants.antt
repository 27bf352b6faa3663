use Rattle.std.proofs.Common.{◌≡◌, ◌+◌, length}
use Rattle.dbremote_command.specs.Shown.{count_of}
use Rattle.dbremote_command.proofs.shown_count.count_of.Given as goal

-- the rows that were counted and those of the tables that are left are all
abbrev pub invariant-tables : goal.invariant-tables
invariant-tables l = l.count + count_of l.rows.rows l.left ≡ count_of l.rows.rows l.tables

abbrev pub decreases-tables : goal.decreases-tables
decreases-tables l = length l.left
