use Rattle.std.proofs.Common.{◌≡◌, length}
use Rattle.sr_memsite_disk.specs.Picks.{crashed}
use Rattle.sr_memsite_disk.specs.Inner.Undoing.{shown}
use Rattle.sr_memsite_disk.proofs.stored.Stored.crashed.Given as goal

-- the writes that are left make of the file what all of them make of it
abbrev pub invariant-writes : goal.invariant-writes
invariant-writes l = crashed l.crash (shown l.writes) ≡ crashed (record { file = l.fn.self.unsynced.settled; pick = l.fn.pick }) l.fn.self.unsynced.changes

abbrev pub decreases-writes : goal.decreases-writes
decreases-writes l = length l.writes
