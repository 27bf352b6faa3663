-- How a run inside ends the demonstration.
use Rattle.std.proofs.Common.{◌≡◌, ℕ, ◌+◌, ◌-◌, ◌*◌, ◌/◌, min, List, [], ◌∷◌, sym, subst, inl, inr}
use Rattle.dbremote_demo.proofs.Chains.{stops_with}
use Rattle.dbremote_demo.specs.Courses.{AgentRan, AgentStops, AllRan, BlockStops, BlocksRan, BlocksStop, Course, CourseStops, StopsAmong, all_demo_sites, making, settling, tasks_of}
use Rattle.dbremote_demo.specs.Runs.{EndsAll, RanTask, Stopped, Task, agent_of}
use Rattle.dbremote_demo.specs.Inner.Runs.{EndsWith, StopCause}
use Rattle.dbremote_demo.specs.declared.stop.Stop.{Stop}
use Rattle.dbremote_demo.specs.declared.stop.Stop.TheVariants.{Memory, Run}
use Rattle.dbremote_demo_draws.specs.DrawnStatements.{all_drawn, state_behind}
use Rattle.dbremote_demo_draws.specs.declared.demo_site.DemoSite.{DemoSite}
use Rattle.dbremote_demo_draws.specs.Places.{nothing_made}
use Rattle.dbremote_demo_draws.specs.declared.demo_sites.DemoSites.{DemoSites}

pub stop_of : (task : Task) (old new : DemoSites) (status : ℕ) (lines : List ℕ) (stop : Stop) → RanTask task old new status lines → EndsWith status lines stop
    → StopCause (Stopped task old) stop
stop_of task old new status lines Memory ran ends = ends
stop_of task old new status lines (Run told line) ran ends = record {
  new = new;
  lines = lines;
  ran = subst (λ (s : ℕ). RanTask task old new s lines) (sym ends.is) ran;
  ends = subst EndsAll (sym ends.is) ends.ends;
  last = ends.last;
}

-- ---- the agents

pub agent_stops : (demo_site : DemoSite) (more : List DemoSite) (x : ℕ) (old : DemoSites) (stop : Stop) → StopCause (Stopped (agent_of demo_site) old) stop
    → StopCause (AgentStops (demo_site ∷ more) x old) stop
agent_stops demo_site more x old stop why = stops_with (Stopped (agent_of demo_site) old) (AgentStops (demo_site ∷ more) x old) stop (λ status line one. inl one) why

pub behind_agent : (demo_site : DemoSite) (more : List DemoSite) (x x' : ℕ) (old between : DemoSites) (count : ℕ) (stop : Stop) → AgentRan demo_site x old x' between count
    → StopCause (AgentStops more x' between) stop → StopCause (AgentStops (demo_site ∷ more) x old) stop
behind_agent demo_site more x x' old between count stop well why =
    stops_with (AgentStops more x' between) (AgentStops (demo_site ∷ more) x old) stop
    (λ status line one. inr (record { x' = x'; between = between; count = count; well = well; stopped = one })) why

-- ---- the course

pub making_stops : (seed statements : ℕ) (old : DemoSites) (stop : Stop) → old ≡ nothing_made → StopCause (StopsAmong making old) stop → StopCause (CourseStops seed statements) stop
making_stops seed statements old stop same why =
    stops_with (StopsAmong making old) (CourseStops seed statements) stop
    (λ status line one. inl (subst (λ (o : DemoSites). StopsAmong making o status line) same one)) why

pub working_stops : (seed statements : ℕ) (old made : DemoSites) (stop : Stop) → old ≡ nothing_made → AllRan making old made → StopCause (BlocksStop seed statements made) stop
    → StopCause (CourseStops seed statements) stop
working_stops seed statements old made stop same makes why =
    stops_with (BlocksStop seed statements made) (CourseStops seed statements) stop
    (λ status line one. inr (inl (record { between = made; well = subst (λ (o : DemoSites). AllRan making o made) same makes; stopped = one }))) why

pub settling_stops : (seed statements : ℕ) (old made worked : DemoSites) (x lost : ℕ) (stop : Stop) → old ≡ nothing_made → AllRan making old made
    → BlocksRan seed statements made ((statements + 99) / 100) x worked lost → StopCause (StopsAmong settling worked) stop → StopCause (CourseStops seed statements) stop
settling_stops seed statements old made worked x lost stop same makes works why =
    stops_with (StopsAmong settling worked) (CourseStops seed statements) stop
    (λ status line one.
    inr (inr (record {
      made = made;
      worked = worked;
      x = x;
      lost = lost;
      makes = subst (λ (o : DemoSites). AllRan making o made) same makes;
      works = works;
      stopped = one;
    }))) why

pub course_so : (seed statements : ℕ) (old made worked new : DemoSites) (x lost : ℕ) → old ≡ nothing_made → AllRan making old made
    → BlocksRan seed statements made ((statements + 99) / 100) x worked lost → AllRan settling worked new → Course seed statements new lost
course_so seed statements old made worked new x lost same makes works settles = record {
  made = made;
  worked = worked;
  x = x;
  makes = subst (λ (o : DemoSites). AllRan making o made) same makes;
  works = works;
  settles = settles;
}

-- ---- the status of a run that ended otherwise

ends_among : (tasks : List Task) (old : DemoSites) (status : ℕ) (line : List ℕ) → StopsAmong tasks old status line → EndsAll status
ends_among [] old status line is = absurd is
ends_among (task ∷ tasks) old status line (inl is) = is.ends
ends_among (task ∷ tasks) old status line (inr is) = ends_among tasks is.between status line is.stopped

ends_agents : (demo_sites : List DemoSite) (x : ℕ) (old : DemoSites) (status : ℕ) (line : List ℕ) → AgentStops demo_sites x old status line → EndsAll status
ends_agents [] x old status line is = absurd is
ends_agents (demo_site ∷ demo_sites) x old status line (inl is) = is.ends
ends_agents (demo_site ∷ demo_sites) x old status line (inr is) = ends_agents demo_sites is.x' is.between status line is.stopped

ends_block : (first end x : ℕ) (old : DemoSites) (status : ℕ) (line : List ℕ) → BlockStops first end x old status line → EndsAll status
ends_block first end x old status line (inl is) = ends_among (tasks_of (all_drawn x first (end - first))) old status line is
ends_block first end x old status line (inr is) = ends_agents all_demo_sites (state_behind x (end - first)) is.between status line is.stopped

pub ends_all : (seed statements status : ℕ) (line : List ℕ) → CourseStops seed statements status line → EndsAll status
ends_all seed statements status line (inl is) = ends_among making nothing_made status line is
ends_all seed statements status line (inr (inl is)) =
    ends_block (100 * is.stopped.blocks) (min statements (100 * is.stopped.blocks + 100)) is.stopped.x is.stopped.between status line is.stopped.stopped
ends_all seed statements status line (inr (inr is)) = ends_among settling is.worked status line is.stopped
