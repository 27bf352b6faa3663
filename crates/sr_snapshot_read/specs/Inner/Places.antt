-- Where the fields of a snapshot break: a name and a text at their length, a value at its tag or at the field behind it.
use Rattle.std.specs.Prelude.{ℕ, min}
use Rattle.sr_snapshot.specs.declared.fault.SnapFault.{SnapFault}
use Rattle.sr_snapshot.specs.declared.fault.SnapFault.TheVariants.{Disk, Long, Damaged, Memory}

-- damage stands at this place at most
abbrev pub no_further : ℕ → SnapFault → SnapFault
no_further place Disk = Disk
no_further place (Long size limit) = Long size limit
no_further place (Damaged at) = Damaged (min at place)
no_further place Memory = Memory
