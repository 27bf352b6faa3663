-- A run as steps of a world of databases: what of the world it is told, and where it leads.
-- Here is what no contract of the program says by itself.
use Rattle.std.specs.Prelude.{◌≡◌, List, ◌++◌}
use Rattle.std.specs.List.{AllByRecursion}
use Rattle.sr_book.specs.Entries.{Name}
use Rattle.sr_database_history.specs.Recorded.{Recorded}
use Rattle.sr_world_model.specs.Steps.{DatabaseStep, history_after_all}
use Rattle.sr_world_model.specs.Worlds.{World, acts_by, after_all, history}
use Rattle.sr_msgform.specs.declared.message.Message.{Message}
use Rattle.sr_site.specs.Files.{Files}
use Rattle.sr_site.specs.Happenings.{Happening, IsCall}
use Rattle.sr_site.specs.Images.{IsImage, MayLeave}
use Rattle.sr_site.specs.Seen.{Seen}
use Rattle.sr_database_meaning.specs.Events.{PutFile}
use Rattle.sr_database_meaning.specs.Traces.{AtEach}
use Rattle.sr_world_runs.specs.Worlds.{IsSettledBetween, IsAhead, PutsComeLast, RestsAt, RestsBehind}

-- so it is at each moment from the one to the other, along the steps that had been made of what was found, and then those that the run made; it is settled
-- before each of these
pub record RestsAtEach (messages : List Message) (owner : Name) (es : List Recorded) (found made : List (DatabaseStep Recorded)) (before now : Seen) : Type 0 where
  pub more : List Happening
  pub is : now.happened ≡ more ++ before.happened
  pub ahead : IsAhead found
  pub moments : AtEach (λ since. RestsAt messages owner es (found ++ made) since (IsImage before) (MayLeave before.first (since ++ before.happened))) more
  pub joints : IsSettledBetween owner (history_after_all es found) made before more

-- all that happened from the one moment to the other are calls, and puts come last among those of the mail
pub record CallsInOrder (before now : Seen) : Type 0 where
  pub more : List Happening
  pub is : now.happened ≡ more ++ before.happened
  pub calls : AllByRecursion IsCall more
  pub puts_come_last : PutsComeLast more

-- a run as it ended, or as it broke off: the world before it, whose it was, the files that it had put, and that whatever a crash may leave then rests on one
-- history, to which that of this world leads by steps that put just these
pub record EndedRun : Type 0 where
  pub world : World Recorded
  pub owner : Name
  pub put_files : List PutFile
  pub first : Files
  pub moment : List Happening
  pub rest : RestsBehind world.messages owner (history world owner) put_files (MayLeave first moment)

-- the world behind it
abbrev pub world_behind : EndedRun → World Recorded
world_behind run = after_all run.world (acts_by run.owner run.rest.database_steps)
