use Rattle.std.proofs.Common.{◌≡◌, length}
use Rattle.dbremote_demo_draws.specs.Counts.{no_outcomes, outcomes_of}
use Rattle.dbremote_demo_draws.proofs.counting.outcomes_of.Given as goal

-- with those of the entries that are left it comes to all
abbrev pub invariant-entries : goal.invariant-entries
invariant-entries l = outcomes_of l.left l.outcomes ≡ outcomes_of l.entries no_outcomes

abbrev pub decreases-entries : goal.decreases-entries
decreases-entries l = length l.left
