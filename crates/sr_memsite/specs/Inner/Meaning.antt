-- What a site in memory is when it begins.
-- Here is what no contract of the program says by itself.
use Rattle.std.specs.Prelude.{Bool, true}
use Rattle.sr_site.specs.Seen.{Seen}
use Rattle.sr_memsite_mail.specs.Folders.{Folders}
use Rattle.sr_memsite.specs.Inner.Numbering.{Numbering}
use Rattle.sr_memsite.specs.Disks.{Disk, files_in}
use Rattle.sr_memsite.specs.declared.site.MemorySite.{MemorySite}

-- what a site in memory means: it tells everything
abbrev pub seen_of : MemorySite → Seen
seen_of site = record {
  observable = true;
  files = files_in site.disk;
  first = site.disk.first;
  happened = site.disk.happened;
  disk_faults = site.disk_faults;
  mail_faults = site.mail_faults;
}

-- its disk: the files now and at first, and what happened
abbrev pub disk_of : MemorySite → Disk
disk_of site = site.disk

-- the mail folder that it stands over
abbrev pub folders_of : MemorySite → Folders
folders_of site = site.mail

-- its calls since the last `fail_calls`, and those that are to fail
abbrev pub numbering_of : MemorySite → Numbering
numbering_of site = site.turns

-- whether a write has failed for want of memory
abbrev pub wanted_of : MemorySite → Bool
wanted_of site = site.wanted

-- its disk and its folders: what it is made from, and what it is taken apart into
abbrev pub parts_of : MemorySite → Disk × Folders
parts_of site = (site.disk, site.mail)
