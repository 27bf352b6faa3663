-- The files of the four databases.
use Rattle.std.specs.Prelude.{[]}
use Rattle.sr_memsite_disk.specs.Stores.{no_bytes}
use Rattle.sr_memsite.specs.Disks.{Disk, begun_with}
use Rattle.dbremote_demo_draws.specs.declared.demo_site.DemoSite.{DemoSite}
use Rattle.dbremote_demo_draws.specs.declared.demo_site.DemoSite.TheVariants.{Cons, R1, R2, R3}
use Rattle.dbremote_demo_draws.specs.declared.demo_sites.DemoSites.{DemoSites}

-- the files of a database
abbrev pub disk_at : DemoSite → DemoSites → Disk
disk_at Cons demo_sites = demo_sites.cons
disk_at R1 demo_sites = demo_sites.r1
disk_at R2 demo_sites = demo_sites.r2
disk_at R3 demo_sites = demo_sites.r3

-- with other files of one
abbrev pub with_disk : DemoSite → Disk → DemoSites → DemoSites
with_disk Cons disk demo_sites = record demo_sites { cons = disk }
with_disk R1 disk demo_sites = record demo_sites { r1 = disk }
with_disk R2 disk demo_sites = record demo_sites { r2 = disk }
with_disk R3 disk demo_sites = record demo_sites { r3 = disk }

-- no files, and no mail
abbrev pub nothing_made : DemoSites
nothing_made = record {
  cons = begun_with no_bytes;
  r1 = begun_with no_bytes;
  r2 = begun_with no_bytes;
  r3 = begun_with no_bytes;
  mail = record { files = []; puts = [] };
}
