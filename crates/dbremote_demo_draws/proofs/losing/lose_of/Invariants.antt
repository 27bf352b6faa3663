use Rattle.std.proofs.Common.{◌≡◌, ◌+◌, length}
use Rattle.dbremote_demo_draws.specs.Losses.{some_lost, and_more}
use Rattle.dbremote_demo_draws.proofs.losing.lose_of.Given as goal

-- with what comes of the messages that are left it is what comes of all
abbrev pub invariant-puts : goal.invariant-puts
invariant-puts l = and_more l.count (some_lost l.draws l.left l.mail) ≡ some_lost l.fn.draws l.puts l.fn.mail

abbrev pub decreases-puts : goal.decreases-puts
decreases-puts l = length l.left
