-- The runs inside the demonstration.
use Rattle.std.specs.Prelude.{◌≡◌, ◌≢◌, ◌⊎◌, ℕ, Bool, true, false, ◌==◌, List, [], ◌∷◌, ◌++◌, codes, if◌then◌else◌}
use Rattle.sr_agent.specs.declared.options.Options.{Options}
use Rattle.dbremote_command.specs.Counts.{TellsFaults}
use Rattle.dbremote_command.specs.Outside.{Outside, outside}
use Rattle.dbremote_command.specs.Runs.{RanOrder}
use Rattle.dbremote_command.specs.declared.order.Order.{Order}
use Rattle.dbremote_command.specs.declared.order.Order.TheVariants.{Init, Sql, Agent}
use Rattle.sr_memsite.specs.Handing.{AreAsHappened, IsTruthful, handed}
use Rattle.sr_memsite.specs.Meaning.{begun}
use Rattle.sr_site.specs.Causes.{Stays}
use Rattle.sr_site.specs.Seen.{Seen}
use Rattle.sr_site.specs.Streams.{Input, Output}
use Rattle.dbremote_demo_draws.specs.Names.{text_of}
use Rattle.dbremote_demo_draws.specs.Places.{disk_at, with_disk}
use Rattle.dbremote_demo_draws.specs.declared.demo_site.DemoSite.{DemoSite}
use Rattle.dbremote_demo_draws.specs.declared.demo_sites.DemoSites.{DemoSites}

-- ---- one run

-- what is done at a database: an order, with a script
pub record Task : Type 0 where
  pub demo_site : DemoSite
  pub order : Order
  pub script : List ℕ

-- it is made
abbrev pub making_of : DemoSite → Task
making_of demo_site = record { demo_site = demo_site; order = Init (text_of demo_site) (text_of demo_site); script = [] }

-- a script runs on it
abbrev pub script_of : DemoSite → List ℕ → Task
script_of demo_site script = record { demo_site = demo_site; order = Sql (text_of demo_site); script = script }

-- both passes, messages of 10,000 bytes at most. No log is restarted
abbrev pub options : Options
options = record { receive = true; send = true; purge = true; restart = false; length = 10000 }

-- its agent runs
abbrev pub agent_of : DemoSite → Task
agent_of demo_site = record { demo_site = demo_site; order = Agent (text_of demo_site) (codes "mail") options; script = [] }

-- a source that has a script, and a sink that has taken these lines
abbrev pub holding : List ℕ → Input
holding script = record { observable = true; left = script; faults = 0 }

abbrev pub having : List ℕ → ℕ → Output
having lines faults = record { observable = true; taken = lines; faults = faults }

-- the site of a database, handed its files and the mail, as a task begins on it
abbrev pub begun_at : DemoSite → DemoSites → Seen
begun_at demo_site demo_sites = begun (handed (disk_at demo_site demo_sites) demo_sites.mail)

-- all that a task begins with
abbrev pub outside_of : Task → DemoSites → Outside
outside_of task old = outside (begun_at task.demo_site old) (holding task.script) (having [] 0)

-- it is done, by the command of the program, on the files of the database as they stand and on the mail: it answers a status and writes lines. What had
-- happened stays, and the files of the others; in the folders lies what happened to them, and what was fetched lay there
pub record RanTask (task : Task) (old new : DemoSites) (status : ℕ) (lines : List ℕ) : Type 0 where
  pub site : Seen
  pub input : Input
  pub faults : ℕ
  pub ran : RanOrder task.order (outside_of task old) (outside site input (having lines faults)) status
  pub stays : Stays (begun_at task.demo_site old) site
  pub tells : TellsFaults (outside_of task old) (outside site input (having lines faults)) status
  pub files : new ≡ with_disk task.demo_site (record { first = site.first; happened = site.happened }) (record old { mail = new.mail })
  pub as_happened : AreAsHappened site.happened new.mail
  pub truthful : IsTruthful site.happened

-- it is done: the status is 0 or 1
pub record RanWell (task : Task) (old new : DemoSites) : Type 0 where
  pub status : ℕ
  pub lines : List ℕ
  pub ran : RanTask task old new status lines
  pub well : (status ≡ 0) ⊎ (status ≡ 1)

-- ---- a run that ends otherwise

-- a status that ends the demonstration with it
pub record EndsAll (status : ℕ) : Type 0 where
  pub done : status ≢ 0
  pub amiss : status ≢ 1
  pub disk : status ≢ 5
  pub streams : status ≢ 7
  pub memory : status ≢ 8

-- a line feed that something follows
abbrev pub ends_line : ℕ → List ℕ → Bool
ends_line byte [] = false
ends_line byte (next ∷ bytes) = byte == 10

-- at most one line: no byte follows a line feed
abbrev pub is_one_line : List ℕ → Bool
is_one_line [] = true
is_one_line (byte ∷ bytes) = if ends_line byte bytes then false else is_one_line bytes

-- the last of lines: before it is nothing, or a line feed
pub record IsLast (lines line : List ℕ) : Type 0 where
  pub before : List ℕ
  pub parts : lines ≡ before ++ line
  pub one : is_one_line line ≡ true
  pub begins : (before ≡ []) ⊎ ((more : List ℕ) × (before ≡ more ++ 10 ∷ []))

-- behind one line there are more
pub record IsPrefix (lines rest : List ℕ) : Type 0 where
  pub first : List ℕ
  pub parts : lines ≡ (first ++ 10 ∷ []) ++ rest

-- a run inside ended with this status, by its own contract, and this is its last line
pub record Stopped (task : Task) (old : DemoSites) (status : ℕ) (line : List ℕ) : Type 0 where
  pub new : DemoSites
  pub lines : List ℕ
  pub ran : RanTask task old new status lines
  pub ends : EndsAll status
  pub last : IsLast lines line
