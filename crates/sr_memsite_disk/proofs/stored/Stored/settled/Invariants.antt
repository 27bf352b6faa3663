use Rattle.std.proofs.Common.{◌≡◌, length}
use Rattle.sr_memsite_disk.specs.Inner.Undoing.{undone}
use Rattle.sr_memsite_disk.proofs.stored.Stored.settled.Given as goal

-- without the writes that are left the file is as the last sync left it
abbrev pub invariant-writes : goal.invariant-writes
invariant-writes l = undone l.bytes.items l.writes ≡ l.fn.self.unsynced.settled

abbrev pub decreases-writes : goal.decreases-writes
decreases-writes l = length l.writes
