-- The histories and the messages that the demonstration leaves form a good world.
use Rattle.std.specs.Prelude.{◌≡◌, ℕ, List, map}
use Rattle.sr_book.specs.Entries.{Name}
use Rattle.sr_database_history.specs.Recorded.{Recorded}
use Rattle.sr_database_meaning.specs.Events.{PutFile}
use Rattle.sr_world_model.specs.Runs.{WorldRun, after_world_runs}
use Rattle.sr_world_model.specs.Worlds.{World, fresh_world}
use Rattle.sr_world.specs.Real.{AreRunsIn, IsGoodWorld}
use Rattle.sr_world_runs.specs.Worlds.{AreFiles}
use Rattle.dbremote_demo.specs.Courses.{all_demo_sites}
use Rattle.dbremote_demo.specs.LeftAlone.{HasDemoHistories}
use Rattle.dbremote_demo_draws.specs.Names.{text_of}
use Rattle.dbremote_demo_draws.specs.declared.demo_sites.DemoSites.{DemoSites}

-- the four, and nothing done yet
abbrev pub demo_names : List Name
demo_names = map text_of all_demo_sites

abbrev pub demo_begins : World Recorded
demo_begins = fresh_world demo_names

-- the world that runs lead to from there
abbrev pub demo_world : List (WorldRun Recorded) → World Recorded
demo_world runs = after_world_runs demo_begins runs

-- the address and the name of a file that was put
abbrev pub put_at : PutFile → List ℕ × List ℕ
put_at file = (file.0, file.1)

-- runs lead to a good world, of whose histories the files of the four are, and whose messages are all that were put
pub record FormGoodWorld (demo_sites : DemoSites) : Type 0 where
  pub runs : List (WorldRun Recorded)
  pub are : AreRunsIn demo_begins runs
  pub good : IsGoodWorld (demo_world runs)
  pub stands : HasDemoHistories (demo_world runs) demo_sites
  pub put_files : List PutFile
  pub put : AreFiles put_files (demo_world runs).messages
  pub noted : demo_sites.mail.puts ≡ map put_at put_files
