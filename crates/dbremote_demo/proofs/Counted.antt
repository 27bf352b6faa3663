-- Blocks, one after the other.
use Rattle.std.proofs.Common.{◌≡◌, ◌≤◌, ◌<◌, ◌∙◌, ℕ, List, ◌+◌, ◌-◌, ◌*◌, ◌/◌, ◌++◌, min, add-one, arith, refl, sym, ap, subst, inl, inr}
use Rattle.dbremote_demo.proofs.Chains.{stops_with}
use Rattle.dbremote_demo.specs.Courses.{AgentStops, AllRan, BlockRan, BlockStops, BlocksRan, BlocksStop, StopsAmong, all_demo_sites, task_at, tasks_of}
use Rattle.dbremote_demo.specs.Runs.{Task}
use Rattle.dbremote_demo.specs.Inner.Runs.{StopCause}
use Rattle.dbremote_demo.specs.declared.stop.Stop.{Stop}
use Rattle.dbremote_demo_draws.specs.DrawnStatements.{all_drawn, script_at, state_behind}
use Rattle.dbremote_demo_draws.specs.Inner.Scripts.{IsScripts}
use Rattle.dbremote_demo_draws.specs.declared.statements.Drawn.{Drawn}
use Rattle.dbremote_demo_draws.specs.declared.drawing.Scripts.{Scripts}
use Rattle.dbremote_demo_draws.specs.declared.demo_site.DemoSite.TheVariants.{Cons, R1, R2, R3}
use Rattle.dbremote_demo_draws.specs.declared.demo_sites.DemoSites.{DemoSites}

-- ---- the scripts of a block

-- what each database has of these scripts
abbrev pub tasks_in : List ℕ → List ℕ → List ℕ → List ℕ → List Task
tasks_in cons r1 r2 r3 = task_at Cons cons ++ task_at R1 r1 ++ task_at R2 r2 ++ task_at R3 r3

tasks_same : (drawn : List Drawn) (scripts : Scripts) → IsScripts drawn scripts → tasks_in scripts.cons.items scripts.r1.items scripts.r2.items scripts.r3.items ≡ tasks_of drawn
tasks_same drawn scripts is =
    ap (λ (s : List ℕ). tasks_in s scripts.r1.items scripts.r2.items scripts.r3.items) is.cons
    ∙ (ap (λ (s : List ℕ). tasks_in (script_at Cons drawn) s scripts.r2.items scripts.r3.items) is.r1
    ∙ (ap (λ (s : List ℕ). tasks_in (script_at Cons drawn) (script_at R1 drawn) s scripts.r3.items) is.r2
    ∙ ap (λ (s : List ℕ). tasks_in (script_at Cons drawn) (script_at R1 drawn) (script_at R2 drawn) s) is.r3))

pub scripts_ran : (drawn : List Drawn) (scripts : Scripts) (old new : DemoSites) → IsScripts drawn scripts
    → AllRan (tasks_in scripts.cons.items scripts.r1.items scripts.r2.items scripts.r3.items) old new → AllRan (tasks_of drawn) old new
scripts_ran drawn scripts old new is ran = subst (λ (tasks : List Task). AllRan tasks old new) (tasks_same drawn scripts is) ran

pub scripts_stop : (x first end : ℕ) (scripts : Scripts) (old : DemoSites) (stop : Stop) → IsScripts (all_drawn x first (end - first)) scripts
    → StopCause (StopsAmong (tasks_in scripts.cons.items scripts.r1.items scripts.r2.items scripts.r3.items) old) stop → StopCause (BlockStops first end x old) stop
scripts_stop x first end scripts old stop is why =
    stops_with (StopsAmong (tasks_in scripts.cons.items scripts.r1.items scripts.r2.items scripts.r3.items) old) (BlockStops first end x old) stop
    (λ status line one. inl (subst (λ (tasks : List Task). StopsAmong tasks old status line) (tasks_same (all_drawn x first (end - first)) scripts is) one)) why

pub agents_stop : (x x' first end : ℕ) (scripts : Scripts) (old between : DemoSites) (stop : Stop) → IsScripts (all_drawn x first (end - first)) scripts
    → AllRan (tasks_in scripts.cons.items scripts.r1.items scripts.r2.items scripts.r3.items) old between → x' ≡ state_behind x (end - first)
    → StopCause (AgentStops all_demo_sites x' between) stop → StopCause (BlockStops first end x old) stop
agents_stop x x' first end scripts old between stop is ran state why =
    stops_with (AgentStops all_demo_sites x' between) (BlockStops first end x old) stop
    (λ status line one.
    inr (record { between = between; well = scripts_ran (all_drawn x first (end - first)) scripts old between is ran; stopped = subst (λ (y : ℕ). AgentStops all_demo_sites y between status line) state one })) why

-- ---- blocks

-- blocks were run, of which none begins behind the last statement
pub record AreRun (seed statements : ℕ) (made : DemoSites) (blocks x : ℕ) (new : DemoSites) (count : ℕ) : Type 0 where
  pub ran : BlocksRan seed statements made blocks x new count
  pub within : 100 * blocks ≤ statements + 99

pub none_run : (seed statements : ℕ) (made : DemoSites) → AreRun seed statements made 0 seed made 0
none_run seed statements made = record { ran = record { state = refl; same = refl; none = refl }; within = omega arith }

pub one_more : (seed statements : ℕ) (made : DemoSites) (blocks end next x x' : ℕ) (between new : DemoSites) (lost lost_now count : ℕ) → AreRun seed statements made blocks x between lost
    → 100 * blocks < statements → end ≡ min statements (100 * blocks + 100) → next ≡ blocks + 1 → BlockRan (100 * blocks) end x between x' new lost_now → count ≡ lost + lost_now
    → AreRun seed statements made next x' new count
one_more seed statements made blocks end next x x' between new lost lost_now count was less end_is next_is block count_is = record {
  ran = subst (λ (n : ℕ). BlocksRan seed statements made n x' new count) (sym (next_is ∙ add-one blocks)) (record {
    state = x;
    between = between;
    lost = lost;
    lost_now = lost_now;
    done = was.ran;
    block = subst (λ (e : ℕ). BlockRan (100 * blocks) e x between x' new lost_now) end_is block;
    count_is = count_is;
  });
  within = omega (arith, less, next_is);
}

pub all_run : (seed statements : ℕ) (made : DemoSites) (blocks x : ℕ) (new : DemoSites) (count : ℕ) → AreRun seed statements made blocks x new count → statements ≤ 100 * blocks
    → BlocksRan seed statements made ((statements + 99) / 100) x new count
all_run seed statements made blocks x new count was all =
    let so_many : blocks ≡ (statements + 99) / 100 = omega (arith, was.within, all) in
    subst (λ (n : ℕ). BlocksRan seed statements made n x new count) so_many was.ran

pub block_stops : (seed statements : ℕ) (made : DemoSites) (blocks end x : ℕ) (between : DemoSites) (lost : ℕ) (stop : Stop) → AreRun seed statements made blocks x between lost
    → 100 * blocks < statements → end ≡ min statements (100 * blocks + 100) → StopCause (BlockStops (100 * blocks) end x between) stop
    → StopCause (BlocksStop seed statements made) stop
block_stops seed statements made blocks end x between lost stop was less end_is why =
    stops_with (BlockStops (100 * blocks) end x between) (BlocksStop seed statements made) stop
    (λ status line one.
    record {
      blocks = blocks;
      x = x;
      between = between;
      lost = lost;
      well = was.ran;
      less = less;
      stopped = subst (λ (e : ℕ). BlockStops (100 * blocks) e x between status line) end_is one;
    }) why
