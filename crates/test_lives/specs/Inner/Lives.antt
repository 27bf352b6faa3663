-- The lives of two databases over devices in memory.
-- Here is what no contract of the program says by itself.
use Rattle.std.specs.Prelude.{◌≡◌, ℕ, List, [], ◌∷◌, ◌++◌, map, IsTrue, Contains}
use Rattle.std.specs.List.{AllByRecursion}
use Rattle.sr_book.specs.Entries.{Name}
use Rattle.sr_database_history.specs.Recorded.{Recorded}
use Rattle.sr_world_model.specs.Worlds.{World}
use Rattle.sr_site.specs.Files.{Files}
use Rattle.sr_site.specs.Happenings.{Happening}
use Rattle.sr_site.specs.Images.{IsSettled, MayLeave}
use Rattle.sr_site.specs.Seen.{Seen}
use Rattle.sr_database_meaning.specs.Events.{PutFile, puts_in}
use Rattle.sr_database_meaning.specs.Standing.{StandsAs}
use Rattle.sr_memsite.specs.Meaning.{begun}
use Rattle.sr_memsite.specs.Inner.Disks.{HasCrashed}
use Rattle.sr_memsite_mail.specs.Folders.{Folders}
use Rattle.sr_world_runs.specs.Lives.{AreLives, CameOf, HaveLived, MayFind, SeenRun, owners_of, put_by}
use Rattle.sr_world_runs.specs.Worlds.{MakesSteps}
use Rattle.world_lives_kept.specs.Inner.Kept.{AreKept, AreOf, bytes_of_all}
use Rattle.test_lives.specs.Inner.Names.{both_names, name_at}
use Rattle.test_lives.specs.declared.office.Office.{Office}
use Rattle.test_lives.specs.declared.place.Place.{Place}
use Rattle.test_lives.specs.declared.place.Place.TheVariants.{Above, Below}

-- the two of them
abbrev pub office_at : Office → Office → Place → Office
office_at above below Above = above
office_at above below Below = below

-- what was kept of its files is what happened to them, all of it
pub record IsWhole (office : Office) : Type 0 where
  pub whole : IsTrue office.kept.whole
  pub are : AreKept office.kept.put office.kept.fetched office.disk.happened

-- runs were made, of these databases: they are lives, as the law on them asks; they put these files; and what a crash may leave of each database now is what may be
-- found of it behind them
pub record HaveRun (offices : Place → Office) (put : List (List ℕ)) (places : List Place) : Type 0 where
  pub first : Name → Seen
  pub settled : (d : Name) → Contains both_names d → IsSettled (StandsAs d []) (first d)
  pub runs : List SeenRun
  pub lives : AreLives both_names first runs
  pub owners : owners_of runs ≡ map name_at places
  pub put_are : bytes_of_all (put_by runs) ≡ put
  pub found : (place : Place) (image : Files) → MayLeave (offices place).disk.first (offices place).disk.happened image → MayFind first runs (name_at place) image

-- a run was made on the files of a database: it makes steps of a world, what is kept of it is whole, and it came of any files among which what is kept is
pub record HasRun (old new : Office) : Type 0 where
  pub now : Seen
  pub more : List Happening
  pub is : now.happened ≡ more ++ old.disk.happened
  pub first : new.disk.first ≡ old.disk.first
  pub happened : new.disk.happened ≡ now.happened
  pub steps : (w : World Recorded) (publisher : Name) → MakesSteps w publisher (begun old.disk) now
  pub whole : IsWhole new
  pub came : (files : List PutFile) → AreOf (bytes_of_all files) new.kept.fetched → AllByRecursion (CameOf files) more
  pub put : new.kept.put ≡ old.kept.put ++ bytes_of_all (puts_in more)

-- and all that was fetched is among what had been put by the runs before, which what this one put comes behind
pub record HasGone (old new : Office) (before put : List (List ℕ)) : Type 0 where
  pub run : HasRun old new
  pub known : AreOf before new.kept.fetched
  pub put_are : put ≡ before ++ bytes_of_all (puts_in run.more)

-- its files are what a crash left of them, and nothing has happened to them since
pub record HasCrashedTo (pick : ℕ) (old new : Office) : Type 0 where
  pub crashed : HasCrashed pick old.disk new.disk
  pub whole : IsWhole new

-- it has no entry yet
pub record IsNew (name : Name) (office : Office) : Type 0 where
  pub settled : IsSettled (StandsAs name []) (begun office.disk)
  pub whole : IsWhole office

-- they are runs of one good world, from databases without entries; what is kept of them is theirs, and what a crash may leave of each database now may be found
-- behind them
pub record HaveOneWorld (offices : Place → Office) (put : List (List ℕ)) (places : List Place) : Type 0 where
  pub run : HaveRun offices put places
  pub lived : HaveLived both_names run.first run.runs

-- and both have kept all
pub record IsLife (above below : Office) (put : List (List ℕ)) (places : List Place) : Type 0 where
  pub run : HaveRun (office_at above below) put places
  pub above_whole : IsWhole above
  pub below_whole : IsWhole below

-- two databases, the folder between them, what was put by their runs, and whose runs they were
pub record LivesSoFar : Type 0 where
  pub above : Office
  pub below : Office
  pub mail : Folders
  pub put : List (List ℕ)
  pub places : List Place

abbrev pub offices_of : LivesSoFar → Place → Office
offices_of lives = office_at lives.above lives.below
