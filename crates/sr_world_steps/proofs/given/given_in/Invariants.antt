use Rattle.std.proofs.Common.{length}
use Rattle.sr_world_steps.proofs.Scanning.{Scans}
use Rattle.sr_world_steps.proofs.given.given_in.Given as goal

abbrev pub invariant-entries : goal.invariant-entries
invariant-entries l = Scans l.publisher l.user l.fn.prev.0 l.fn.upto.0 l.log l.left l.found.items l.scanner

abbrev pub decreases-entries : goal.decreases-entries
decreases-entries l = length l.left
