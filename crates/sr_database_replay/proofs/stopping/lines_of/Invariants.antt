use Rattle.std.proofs.Common.{◌≡◌, ◌++◌, length}
use Rattle.sr_database_replay.specs.Inner.Stops.{lines_of}
use Rattle.sr_database_replay.proofs.stopping.lines_of.Given as goal

-- the lines so far, and those of the users that are left
abbrev pub invariant-users : goal.invariant-users
invariant-users l = l.lines.items ++ lines_of l.books l.left ≡ lines_of l.books l.users

abbrev pub decreases-users : goal.decreases-users
decreases-users l = length l.left
