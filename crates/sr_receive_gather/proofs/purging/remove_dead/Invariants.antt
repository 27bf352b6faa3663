use Rattle.std.proofs.Common.{length}
use Rattle.sr_receive_gather.proofs.Removing.{PurgingSoFar}
use Rattle.sr_receive_gather.proofs.purging.remove_dead.Given as goal

-- the files before those that are left were looked at
abbrev pub invariant-files : goal.invariant-files
invariant-files g l = PurgingSoFar l.publisher l.book l.files l.left (g.S.Held.seen l.fn.site) (g.S.Held.seen l.site) l.count

abbrev pub decreases-files : goal.decreases-files
decreases-files g l = length l.left
