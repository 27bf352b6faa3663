use Rattle.std.proofs.Common.{◌≡◌, ◌++◌, length}
use Rattle.std.specs.Prelude.{map}
use Rattle.sr_agent.specs.Runs.{quiet}
use Rattle.sr_agent.proofs.partner.quiet_partners.Given as goal

-- the partners so far, and those of the names that are left
abbrev pub invariant-names : goal.invariant-names
invariant-names l = l.partners.items ++ map quiet l.left ≡ map quiet l.names

abbrev pub decreases-names : goal.decreases-names
decreases-names l = length l.left
