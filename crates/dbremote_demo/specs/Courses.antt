-- The runs of the demonstration in their order, and the messages that are lost between them.
use Rattle.std.specs.Prelude.{◌≡◌, ◌<◌, ◌⊎◌, ℕ, zero, suc, ◌+◌, ◌-◌, ◌*◌, ◌/◌, min, List, [], ◌∷◌, ◌++◌, drop, length}
use Rattle.dbremote_demo_draws.specs.Places.{nothing_made}
use Rattle.dbremote_demo_draws.specs.DrawnStatements.{all_drawn, script_at, state_behind}
use Rattle.dbremote_demo_draws.specs.Losses.{some_lost}
use Rattle.dbremote_demo.specs.Runs.{Task, RanWell, Stopped, agent_of, making_of, script_of}
use Rattle.dbremote_demo_draws.specs.declared.statements.Drawn.{Drawn}
use Rattle.dbremote_demo_draws.specs.declared.demo_site.DemoSite.{DemoSite}
use Rattle.dbremote_demo_draws.specs.declared.demo_site.DemoSite.TheVariants.{Cons, R1, R2, R3}
use Rattle.dbremote_demo_draws.specs.declared.demo_sites.DemoSites.{DemoSites}
use Rattle.dbremote_demo.specs.Scripts.{consolidated, remote, last_of_cons, last_of_r1, last_of_r2, last_of_r3}

-- ---- runs, one after the other

-- a run, and what follows it
pub record Then (first : DemoSites → DemoSites → Type 0) (follows : DemoSites → DemoSites → Type 0) (old new : DemoSites) : Type 0 where
  pub between : DemoSites
  pub done : first old between
  pub followed : follows between new

-- tasks, one after the other
abbrev pub AllRan : List Task → DemoSites → DemoSites → Type 0
AllRan [] old new = new ≡ old
AllRan (task ∷ tasks) old new = Then (RanWell task) (AllRan tasks) old new

-- what went well, and then a run that ended otherwise
pub record Behind (done : DemoSites → DemoSites → Type 0) (stops : DemoSites → ℕ → List ℕ → Type 0) (old : DemoSites) (status : ℕ) (line : List ℕ) : Type 0 where
  pub between : DemoSites
  pub well : done old between
  pub stopped : stops between status line

-- the first of the tasks that ended otherwise ended so: those before it went well
abbrev pub StopsAmong : List Task → DemoSites → ℕ → List ℕ → Type 0
StopsAmong [] old status line = ⊥
StopsAmong (task ∷ tasks) old status line = Stopped task old status line ⊎ Behind (RanWell task) (StopsAmong tasks) old status line

-- ---- making

unfoldable pub first_script : DemoSite → List ℕ
first_script Cons = consolidated
first_script R1 = remote
first_script R2 = remote
first_script R3 = remote

-- a database is made, and runs its first script
unfoldable pub made_at : DemoSite → List Task
made_at demo_site = making_of demo_site ∷ script_of demo_site (first_script demo_site) ∷ []

abbrev pub making : List Task
making = made_at Cons ++ made_at R1 ++ made_at R2 ++ made_at R3

-- ---- blocks

-- a database runs what it has of a block, where it has something
abbrev pub task_at : DemoSite → List ℕ → List Task
task_at demo_site [] = []
task_at demo_site (byte ∷ bytes) = script_of demo_site (byte ∷ bytes) ∷ []

-- the scripts of drawn statements, in the order of the databases
abbrev pub tasks_of : List Drawn → List Task
tasks_of drawn = task_at Cons (script_at Cons drawn) ++ task_at R1 (script_at R1 drawn) ++ task_at R2 (script_at R2 drawn) ++ task_at R3 (script_at R3 drawn)

-- an agent runs, and then a draw is made for each message that it put, in order
pub record AgentRan (demo_site : DemoSite) (x : ℕ) (old : DemoSites) (x' : ℕ) (new : DemoSites) (count : ℕ) : Type 0 where
  pub between : DemoSites
  pub ran : RanWell (agent_of demo_site) old between
  pub lost : some_lost x (drop (length old.mail.puts) between.mail.puts) between.mail ≡ record { state = x'; mail = new.mail; count = count }
  pub files : new ≡ record between { mail = new.mail }

-- the agents run, in the order of the databases
pub record AgentsRan (x : ℕ) (old : DemoSites) (x' : ℕ) (new : DemoSites) (count : ℕ) : Type 0 where
  pub x1 : ℕ
  pub x2 : ℕ
  pub x3 : ℕ
  pub after_cons : DemoSites
  pub after_r1 : DemoSites
  pub after_r2 : DemoSites
  pub count_cons : ℕ
  pub count_r1 : ℕ
  pub count_r2 : ℕ
  pub count_r3 : ℕ
  pub cons : AgentRan Cons x old x1 after_cons count_cons
  pub r1 : AgentRan R1 x1 after_cons x2 after_r1 count_r1
  pub r2 : AgentRan R2 x2 after_r1 x3 after_r2 count_r2
  pub r3 : AgentRan R3 x3 after_r2 x' new count_r3
  pub count_is : count ≡ count_cons + count_r1 + count_r2 + count_r3

-- the four, in their order
abbrev pub all_demo_sites : List DemoSite
all_demo_sites = Cons ∷ R1 ∷ R2 ∷ R3 ∷ []

-- an agent ran, and messages were lost; and then one ended otherwise
pub record BehindAgent (demo_site : DemoSite) (stops : ℕ → DemoSites → ℕ → List ℕ → Type 0) (x : ℕ) (old : DemoSites) (status : ℕ) (line : List ℕ) : Type 0 where
  pub x' : ℕ
  pub between : DemoSites
  pub count : ℕ
  pub well : AgentRan demo_site x old x' between count
  pub stopped : stops x' between status line

-- the first of the agents that ended otherwise ended so
abbrev pub AgentStops : List DemoSite → ℕ → DemoSites → ℕ → List ℕ → Type 0
AgentStops [] x old status line = ⊥
AgentStops (demo_site ∷ more) x old status line = Stopped (agent_of demo_site) old status line ⊎ BehindAgent demo_site (AgentStops more) x old status line

-- a block: the statements with the numbers from `first` to below `end`, their scripts, and the agents
pub record BlockRan (first end : ℕ) (x : ℕ) (old : DemoSites) (x' : ℕ) (new : DemoSites) (count : ℕ) : Type 0 where
  pub between : DemoSites
  pub scripts : AllRan (tasks_of (all_drawn x first (end - first))) old between
  pub agents : AgentsRan (state_behind x (end - first)) between x' new count

-- a run of a block ended otherwise: of a script, or of an agent
abbrev pub BlockStops : ℕ → ℕ → ℕ → DemoSites → ℕ → List ℕ → Type 0
BlockStops first end x old status line =
    StopsAmong (tasks_of (all_drawn x first (end - first))) old status line
    ⊎ Behind (AllRan (tasks_of (all_drawn x first (end - first)))) (AgentStops all_demo_sites (state_behind x (end - first))) old status line

-- one block more
pub record OneMore (before : ℕ → DemoSites → ℕ → Type 0) (first end : ℕ) (x : ℕ) (new : DemoSites) (count : ℕ) : Type 0 where
  pub state : ℕ
  pub between : DemoSites
  pub lost : ℕ
  pub lost_now : ℕ
  pub done : before state between lost
  pub block : BlockRan first end state between x new lost_now
  pub count_is : count ≡ lost + lost_now

-- nothing was drawn and done so far
pub record AtFirst (seed : ℕ) (made : DemoSites) (x : ℕ) (new : DemoSites) (count : ℕ) : Type 0 where
  pub state : x ≡ seed
  pub same : new ≡ made
  pub none : count ≡ 0

-- so many blocks of 100 statements, the last of which may be short
abbrev pub BlocksRan : ℕ → ℕ → DemoSites → ℕ → ℕ → DemoSites → ℕ → Type 0
BlocksRan seed statements made zero x new count = AtFirst seed made x new count
BlocksRan seed statements made (suc blocks) x new count =
    OneMore (BlocksRan seed statements made blocks) (100 * blocks) (min statements (100 * blocks + 100)) x new count

-- so many blocks were run, and a run of the next one ended otherwise
pub record BlocksStop (seed statements : ℕ) (made : DemoSites) (status : ℕ) (line : List ℕ) : Type 0 where
  pub blocks : ℕ
  pub x : ℕ
  pub between : DemoSites
  pub lost : ℕ
  pub well : BlocksRan seed statements made blocks x between lost
  pub less : 100 * blocks < statements
  pub stopped : BlockStops (100 * blocks) (min statements (100 * blocks + 100)) x between status line

-- ---- the end

-- the last transactions of a database
unfoldable pub last_script : DemoSite → List ℕ
last_script Cons = last_of_cons
last_script R1 = last_of_r1
last_script R2 = last_of_r2
last_script R3 = last_of_r3

abbrev pub last_at : DemoSite → Task
last_at demo_site = script_of demo_site (last_script demo_site)

unfoldable pub lasts : List Task
lasts = last_at Cons ∷ last_at R1 ∷ last_at R2 ∷ last_at R3 ∷ []

-- all agents, once
unfoldable pub round : List Task
round = agent_of Cons ∷ agent_of R1 ∷ agent_of R2 ∷ agent_of R3 ∷ []

abbrev pub settling : List Task
settling = lasts ++ round ++ round ++ round ++ round

-- ---- all of it

pub record Course (seed statements : ℕ) (new : DemoSites) (count : ℕ) : Type 0 where
  pub made : DemoSites
  pub worked : DemoSites
  pub x : ℕ
  pub makes : AllRan making nothing_made made
  pub works : BlocksRan seed statements made ((statements + 99) / 100) x worked count
  pub settles : AllRan settling worked new

-- all was made and drawn, and then a run of the end ended otherwise
pub record SettlingStops (seed statements : ℕ) (status : ℕ) (line : List ℕ) : Type 0 where
  pub made : DemoSites
  pub worked : DemoSites
  pub x : ℕ
  pub lost : ℕ
  pub makes : AllRan making nothing_made made
  pub works : BlocksRan seed statements made ((statements + 99) / 100) x worked lost
  pub stopped : StopsAmong settling worked status line

-- the first run that ended otherwise ended so: as the databases were made, in a block, or at the end. All before it went well
abbrev pub CourseStops : ℕ → ℕ → ℕ → List ℕ → Type 0
CourseStops seed statements status line =
    StopsAmong making nothing_made status line
    ⊎ (Behind (AllRan making) (BlocksStop seed statements) nothing_made status line ⊎ SettlingStops seed statements status line)
