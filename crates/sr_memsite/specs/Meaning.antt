-- What a site in memory is when it begins.
use Rattle.std.specs.Prelude.{true}
use Rattle.sr_site.specs.Seen.{Seen}
use Rattle.sr_memsite.specs.Disks.{Disk, files_in}

-- a site that was just made: it begins with what the disk tells, and no call has failed
abbrev pub begun : Disk → Seen
begun disk = record { observable = true; files = files_in disk; first = disk.first; happened = disk.happened; disk_faults = 0; mail_faults = 0 }
