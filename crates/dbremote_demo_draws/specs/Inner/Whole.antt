-- Whole logs: those that begin at 0, as in a database that was made and whose log was never begun anew.
use Rattle.std.specs.Prelude.{List}
use Rattle.sr_book.specs.Entries.{Name}
use Rattle.sr_database_history.specs.Recorded.{Recorded}
use Rattle.sr_database_meaning.specs.Standing.{StandsFor}
use Rattle.sr_memsite.specs.Disks.{files_in}
use Rattle.sr_site.specs.Files.{Files}
use Rattle.dbremote_demo_draws.specs.declared.demo_sites.DemoSites.{DemoSites}

-- files stand for a history, all of which is in the log
pub record StandWhole (files : Files) : Type 0 where
  pub publisher : Name
  pub es : List Recorded
  pub stands : StandsFor publisher es 0 files

-- those of each of the four do
pub record AreWhole (demo_sites : DemoSites) : Type 0 where
  pub cons : StandWhole (files_in demo_sites.cons)
  pub r1 : StandWhole (files_in demo_sites.r1)
  pub r2 : StandWhole (files_in demo_sites.r2)
  pub r3 : StandWhole (files_in demo_sites.r3)
