use Rattle.std.proofs.Common.{◌≡◌, ◌++◌, drop, length}
use Rattle.dbremote_demo_draws.proofs.losing.puts_behind.Given as goal

-- the puts that were copied and those that are left are all behind the first
abbrev pub invariant-puts : goal.invariant-puts
invariant-puts l = l.puts.items ++ l.left ≡ drop l.before l.mail.puts

abbrev pub decreases-puts : goal.decreases-puts
decreases-puts l = length l.left
