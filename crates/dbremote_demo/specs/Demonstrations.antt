-- What the demonstration does.
use Rattle.std.specs.Prelude.{◌≡◌, ℕ, List, ◌++◌, IsTrue}
use Rattle.dbremote_command.specs.Reports.{Wrote}
use Rattle.dbremote_command.specs.Runs.{Told}
use Rattle.dbremote_command.specs.Streams.{SaidPart}
use Rattle.dbremote_command.specs.declared.fault.Fault.TheVariants.{Database, Sink}
use Rattle.sr_database_files.specs.declared.fault.DatabaseFault.TheVariants.{Memory}
use Rattle.sr_site.specs.Streams.{Output}
use Rattle.dbremote_demo.specs.Courses.{Course, CourseStops}
use Rattle.dbremote_demo.specs.GoodWorlds.{FormGoodWorld}
use Rattle.dbremote_demo.specs.LeftAlone.{AgreesWhereAlone}
use Rattle.dbremote_demo.specs.Runs.{EndsAll}
use Rattle.dbremote_demo_draws.specs.Summaries.{IsSummary}
use Rattle.dbremote_demo_draws.specs.Lines.{summary_lines}
use Rattle.dbremote_demo_draws.specs.declared.demo_sites.DemoSites.{DemoSites}
use Rattle.dbremote_demo_draws.specs.declared.summary.Summary.{Summary}

-- all runs were made, each with status 0 or 1, and these are the lines of what they came to. The histories and the messages that are left form a good world; and
-- a database differs nowhere where, in a good world, it left alone what it did not name
pub record CameTo (seed statements : ℕ) (lines : List ℕ) : Type 0 where
  pub demo_sites : DemoSites
  pub lost : ℕ
  pub course : Course seed statements demo_sites lost
  pub good : FormGoodWorld demo_sites
  pub summary : Summary
  pub counts : IsSummary statements demo_sites lost summary
  pub agrees : AgreesWhereAlone demo_sites summary
  pub lines_are : lines ≡ summary_lines summary

-- the lines were written
pub record ShownAll (seed statements : ℕ) (old new : Output) (status : ℕ) : Type 0 where
  pub lines : List ℕ
  pub came : CameTo seed statements lines
  pub said : IsTrue old.observable → new.taken ≡ old.taken ++ lines
  pub steady : new.faults ≡ old.faults
  pub status_is : status ≡ 0

-- the sink failed before all of them were written: a prefix of them was, and then what it took of the line that says so
pub record ShownInPart (seed statements : ℕ) (old new : Output) (status : ℕ) : Type 0 where
  pub lines : List ℕ
  pub came : CameTo seed statements lines
  pub between : Output
  pub part : SaidPart lines old between
  pub line : Told Sink between new status

-- the first run inside that ended otherwise ended it: its status is answered, and its last line written, or a prefix of it
pub record EndedInside (seed statements : ℕ) (old new : Output) (status : ℕ) : Type 0 where
  pub line : List ℕ
  pub stopped : CourseStops seed statements status line
  pub ends : EndsAll status
  pub written : IsTrue old.observable → Wrote line old new

-- what the demonstration of a seed with so many statements does: it shows all, or ends before; there may be no memory
pub data Demonstrated (seed statements : ℕ) (old new : Output) (status : ℕ) : Type 0 where
  shown : ShownAll seed statements old new status → Demonstrated seed statements old new status
  unshown : ShownInPart seed statements old new status → Demonstrated seed statements old new status
  ended : EndedInside seed statements old new status → Demonstrated seed statements old new status
  no_memory : Told (Database Memory) old new status → Demonstrated seed statements old new status
