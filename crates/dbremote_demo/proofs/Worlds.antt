-- All runs of the demonstration, one after the other: what they leave forms a good world.
use Rattle.std.proofs.Common.{◌≡◌, ◌⊎◌, ℕ, zero, suc, ◌+◌, ◌-◌, ◌*◌, ◌/◌, min, Bool, true, false, List, [], ◌∷◌, ◌++◌, drop, length, refl, sym, ap, subst, ◌∙◌, inl, inr}
use Rattle.std.specs.List.{AllByRecursion}
use Rattle.dbremote_command.proofs.Cases.{AsksFor, agent_finds}
use Rattle.dbremote_demo.proofs.Bases.{IsAtZero, KeepsLog, stands_at}
use Rattle.dbremote_demo.proofs.Lying.{AllLie, IsOneOf, lost_lies, lost_noted}
use Rattle.dbremote_demo.proofs.Stepping.{SoFar, Stands, database_there, one_more_made, one_more_ran, stands_same}
use Rattle.dbremote_demo.proofs.Tasks.{disk_with_mail}
use Rattle.dbremote_demo.specs.Courses.{AgentRan, AllRan, BlocksRan, Course, first_script, lasts, made_at, making, round, settling, task_at, tasks_of}
use Rattle.dbremote_demo.specs.GoodWorlds.{FormGoodWorld, demo_names, demo_world}
use Rattle.dbremote_demo.specs.Runs.{RanWell, Task, agent_of, begun_at, script_of}
use Rattle.dbremote_demo_draws.specs.DrawnStatements.{all_drawn, script_at}
use Rattle.dbremote_demo_draws.specs.Inner.Whole.{AreWhole, StandWhole}
use Rattle.dbremote_demo_draws.specs.Losses.{Lost, some_lost}
use Rattle.dbremote_demo_draws.specs.Names.{text_of}
use Rattle.dbremote_demo_draws.specs.Places.{disk_at, nothing_made}
use Rattle.dbremote_demo_draws.specs.declared.demo_site.DemoSite.{DemoSite}
use Rattle.dbremote_demo_draws.specs.declared.demo_site.DemoSite.TheVariants.{Cons, R1, R2, R3}
use Rattle.dbremote_demo_draws.specs.declared.demo_sites.DemoSites.{DemoSites}
use Rattle.dbremote_demo_draws.specs.declared.statements.Drawn.{Drawn}
use Rattle.sr_mail_cut.proofs.Lists.{AllByRecursion-append}
use Rattle.sr_memsite_disk.proofs.Standing.{standing_is_image}
use Rattle.sr_memsite_mail.specs.Folders.{Folders}
use Rattle.sr_memsite.specs.Disks.{Disk, files_in}
use Rattle.sr_memsite.specs.Meaning.{begun}
use Rattle.sr_world.proofs.Keeping.{real_laws}
use Rattle.sr_world.specs.Real.{HasSpelling, LawfulHistory, layers}
use Rattle.sr_world_model.proofs.Good.{fresh}
use Rattle.sr_world_model.specs.Worlds.{history}
use Rattle.sr_world_prefix.proofs.Kept.{as_it_stands}
use Rattle.sr_world_prefix.specs.Kept.{StandsKeeping}
use Rattle.sr_world_runs.proofs.Living.{no_history}

-- ---- who was made

abbrev none_made : DemoSite → Bool
none_made d = false

abbrev cons_made : DemoSite → Bool
cons_made Cons = true
cons_made R1 = false
cons_made R2 = false
cons_made R3 = false

abbrev two_made : DemoSite → Bool
two_made Cons = true
two_made R1 = true
two_made R2 = false
two_made R3 = false

abbrev three_made : DemoSite → Bool
three_made Cons = true
three_made R1 = true
three_made R2 = true
three_made R3 = false

abbrev all_made : DemoSite → Bool
all_made Cons = true
all_made R1 = true
all_made R2 = true
all_made R3 = true

each_made : (d : DemoSite) → all_made d ≡ true
each_made Cons = refl
each_made R1 = refl
each_made R2 = refl
each_made R3 = refl

cons_more : (x : DemoSite) → (x ≡ Cons) ⊎ (cons_made x ≡ none_made x)
cons_more Cons = inl refl
cons_more R1 = inr refl
cons_more R2 = inr refl
cons_more R3 = inr refl

two_more : (x : DemoSite) → (x ≡ R1) ⊎ (two_made x ≡ cons_made x)
two_more Cons = inr refl
two_more R1 = inl refl
two_more R2 = inr refl
two_more R3 = inr refl

three_more : (x : DemoSite) → (x ≡ R2) ⊎ (three_made x ≡ two_made x)
three_more Cons = inr refl
three_more R1 = inr refl
three_more R2 = inl refl
three_more R3 = inr refl

all_more : (x : DemoSite) → (x ≡ R3) ⊎ (all_made x ≡ three_made x)
all_more Cons = inr refl
all_more R1 = inr refl
all_more R2 = inr refl
all_more R3 = inl refl

-- ---- making

begins : SoFar none_made nothing_made
begins = record {
  runs = [];
  are = tt;
  good = fresh layers HasSpelling LawfulHistory real_laws demo_names;
  each = λ d. no_history demo_names (text_of d);
  zero = λ d is. let no : false ≡ true = is in cc;
  put_files = [];
  put = refl;
  lies = tt;
  noted = refl;
}

-- a task begins no log anew
abbrev KeepsBase : Task → Type 0
KeepsBase task = AsksFor KeepsLog task.order

well_ran : (made : DemoSite → Bool) (task : Task) (old new : DemoSites) → made task.demo_site ≡ true → SoFar made old → KeepsBase task → RanWell task old new → SoFar made new
well_ran made task old new is so keeps ran =
    one_more_ran made old new task so ran.status ran.lines ran.ran ran.well (agent_finds task.order (begun_at task.demo_site old).files (database_there made old task.demo_site so is)) is keeps

-- drawn scripts and the runs of the end begin no log anew
at_keeps : (d : DemoSite) (script : List ℕ) → AllByRecursion KeepsBase (task_at d script)
at_keeps d [] = tt
at_keeps d (byte ∷ bytes) = (tt, tt)

drawn_keeps : (drawn : List Drawn) → AllByRecursion KeepsBase (tasks_of drawn)
drawn_keeps drawn =
    let cons : List Task = task_at Cons (script_at Cons drawn) in
    let r1 : List Task = task_at R1 (script_at R1 drawn) in
    let r2 : List Task = task_at R2 (script_at R2 drawn) in
    let two = AllByRecursion-append KeepsBase cons r1 (at_keeps Cons (script_at Cons drawn)) (at_keeps R1 (script_at R1 drawn)) in
    let three = AllByRecursion-append KeepsBase (cons ++ r1) r2 two (at_keeps R2 (script_at R2 drawn)) in
    AllByRecursion-append KeepsBase (cons ++ r1 ++ r2) (task_at R3 (script_at R3 drawn)) three (at_keeps R3 (script_at R3 drawn))

round_keeps : AllByRecursion KeepsBase round
unfolding round
round_keeps = (refl, (refl, (refl, (refl, tt))))

lasts_keep : AllByRecursion KeepsBase lasts
unfolding lasts
lasts_keep = (tt, (tt, (tt, (tt, tt))))

settling_keeps : AllByRecursion KeepsBase settling
settling_keeps =
    let one = AllByRecursion-append KeepsBase lasts round lasts_keep round_keeps in
    let two = AllByRecursion-append KeepsBase (lasts ++ round) round one round_keeps in
    let three = AllByRecursion-append KeepsBase (lasts ++ round ++ round) round two round_keeps in
    AllByRecursion-append KeepsBase (lasts ++ round ++ round ++ round) round three round_keeps

made_so : (made then : DemoSite → Bool) (d : DemoSite) (old new : DemoSites) → made d ≡ false → then d ≡ true → ((x : DemoSite) → (x ≡ d) ⊎ (then x ≡ made x)) → SoFar made old
    → AllRan (made_at d) old new → SoFar then new
unfolding made_at
made_so made then d old new none is others so ran =
    let made_there : SoFar then ran.between = one_more_made made then old ran.between d so ran.done.status ran.done.lines ran.done.ran ran.done.well none is others in
    let script_there : SoFar then ran.followed.between = well_ran then (script_of d (first_script d)) ran.between ran.followed.between is made_there tt ran.followed.done in
    subst (SoFar then) (sym ran.followed.followed) script_there

-- the tasks in two parts
record InTwo (tasks more : List Task) (old new : DemoSites) : Type 0 where
  between : DemoSites
  one : AllRan tasks old between
  two : AllRan more between new

in_two : (tasks more : List Task) (old new : DemoSites) → AllRan (tasks ++ more) old new → InTwo tasks more old new
in_two [] more old new ran = record { between = old; one = refl; two = ran }
in_two (task ∷ tasks) more old new ran =
    let rest = in_two tasks more ran.between new ran.followed in
    record { between = rest.between; one = record { between = ran.between; done = ran.done; followed = rest.one }; two = rest.two }

all_made_so : (new : DemoSites) → AllRan making nothing_made new → SoFar all_made new
all_made_so new ran =
    let four = in_two (made_at Cons ++ made_at R1 ++ made_at R2) (made_at R3) nothing_made new ran in
    let three = in_two (made_at Cons ++ made_at R1) (made_at R2) nothing_made four.between four.one in
    let two = in_two (made_at Cons) (made_at R1) nothing_made three.between three.one in
    let cons_so : SoFar cons_made two.between = made_so none_made cons_made Cons nothing_made two.between refl refl cons_more begins two.one in
    let two_so : SoFar two_made three.between = made_so cons_made two_made R1 two.between three.between refl refl two_more cons_so two.two in
    let three_so : SoFar three_made four.between = made_so two_made three_made R2 three.between four.between refl refl three_more two_so three.two in
    made_so three_made all_made R3 four.between new refl refl all_more three_so four.two

-- ---- runs on all four

tasks_so : (tasks : List Task) (old new : DemoSites) → SoFar all_made old → AllByRecursion KeepsBase tasks → AllRan tasks old new → SoFar all_made new
tasks_so [] old new so keeps ran = subst (SoFar all_made) (sym ran) so
tasks_so (task ∷ tasks) old new so keeps ran =
    tasks_so tasks ran.between new (well_ran all_made task old ran.between (each_made task.demo_site) so keeps.0 ran.done) keeps.1 ran.followed

-- messages were lost
lost_so : (between new : DemoSites) (x x' count : ℕ) (puts : List (List ℕ × List ℕ)) → SoFar all_made between → new ≡ record between { mail = new.mail }
    → some_lost x puts between.mail ≡ record { state = x'; mail = new.mail; count = count } → SoFar all_made new
lost_so between new x x' count puts so files lost =
    let mail : (some_lost x puts between.mail).mail ≡ new.mail = ap (λ (l : Lost). l.mail) lost in
    record {
      runs = so.runs;
      are = so.are;
      good = so.good;
      each = λ d.
          stands_same (demo_world so.runs) (demo_world so.runs) (all_made d) d (disk_at d between) (disk_at d new) refl
          (ap (disk_at d) files ∙ disk_with_mail d new.mail between) (so.each d);
      zero = λ d is. subst (λ (k : Disk). IsAtZero (begun k)) (sym (ap (disk_at d) files ∙ disk_with_mail d new.mail between)) (so.zero d is);
      put_files = so.put_files;
      put = so.put;
      lies = subst (λ (m : Folders). AllLie (IsOneOf (demo_world so.runs).messages) m.files) mail
          (lost_lies (IsOneOf (demo_world so.runs).messages) x puts between.mail so.lies);
      noted = ap (λ (m : Folders). m.puts) (sym mail) ∙ lost_noted x puts between.mail ∙ so.noted;
    }

agent_so : (d : DemoSite) (x x' count : ℕ) (old new : DemoSites) → SoFar all_made old → AgentRan d x old x' new count → SoFar all_made new
agent_so d x x' count old new so ran =
    lost_so ran.between new x x' count (drop (length old.mail.puts) ran.between.mail.puts)
    (well_ran all_made (agent_of d) old ran.between (each_made d) so refl ran.ran) ran.files ran.lost

blocks_so : (seed statements blocks : ℕ) (made new : DemoSites) (x count : ℕ) → SoFar all_made made → BlocksRan seed statements made blocks x new count → SoFar all_made new
blocks_so seed statements zero made new x count so ran = subst (SoFar all_made) (sym ran.same) so
blocks_so seed statements (suc blocks) made new x count so ran =
    let block = ran.block in
    let agents = block.agents in
    let draws = all_drawn ran.state (100 * blocks) (min statements (100 * blocks + 100) - 100 * blocks) in
    let drawn = tasks_of draws in
    let before : SoFar all_made ran.between = blocks_so seed statements blocks made ran.between ran.state ran.lost so ran.done in
    let scripts : SoFar all_made block.between = tasks_so drawn ran.between block.between before (drawn_keeps draws) block.scripts in
    let cons : SoFar all_made agents.after_cons = agent_so Cons _ agents.x1 agents.count_cons block.between agents.after_cons scripts agents.cons in
    let r1 : SoFar all_made agents.after_r1 = agent_so R1 agents.x1 agents.x2 agents.count_r1 agents.after_cons agents.after_r1 cons agents.r1 in
    let r2 : SoFar all_made agents.after_r2 = agent_so R2 agents.x2 agents.x3 agents.count_r2 agents.after_r1 agents.after_r2 r1 agents.r2 in
    agent_so R3 agents.x3 x agents.count_r3 agents.after_r2 new r2 agents.r3

-- ---- all of it

standing_in : (new : DemoSites) (so : SoFar all_made new) (d : DemoSite) → StandsKeeping (text_of d) (history (demo_world so.runs) (text_of d)) (files_in (disk_at d new))
standing_in new so d =
    let disk = disk_at d new in
    subst (λ (b : Bool). Stands (demo_world so.runs) b d disk) (each_made d) (so.each d) _ (standing_is_image disk.first disk.happened)

formed : (new : DemoSites) → SoFar all_made new → FormGoodWorld new
formed new so = record {
  runs = so.runs;
  are = so.are;
  good = so.good;
  stands = λ d. as_it_stands (text_of d) (history (demo_world so.runs) (text_of d)) (files_in (disk_at d new)) (standing_in new so d);
  put_files = so.put_files;
  put = so.put;
  noted = so.noted;
}

-- the files of each stand for a history all of which is in the log
whole_at : (new : DemoSites) (so : SoFar all_made new) (d : DemoSite) → StandWhole (files_in (disk_at d new))
whole_at new so d =
    let disk = disk_at d new in
    let keeping = standing_in new so d in
    record {
      publisher = text_of d;
      es = history (demo_world so.runs) (text_of d);
      stands = stands_at (text_of d) (history (demo_world so.runs) (text_of d)) keeping.base 0 (files_in disk) keeping.stands
          (so.zero d (each_made d) (files_in disk) (standing_is_image disk.first disk.happened));
    }

course_so : (seed statements : ℕ) (new : DemoSites) (lost : ℕ) → Course seed statements new lost → SoFar all_made new
course_so seed statements new lost course =
    let made : SoFar all_made course.made = all_made_so course.made course.makes in
    let worked : SoFar all_made course.worked = blocks_so seed statements ((statements + 99) / 100) course.made course.worked course.x lost made course.works in
    tasks_so settling course.worked new worked settling_keeps course.settles

pub course_good : (seed statements : ℕ) (new : DemoSites) (lost : ℕ) → Course seed statements new lost → FormGoodWorld new
course_good seed statements new lost course = formed new (course_so seed statements new lost course)

pub course_whole : (seed statements : ℕ) (new : DemoSites) (lost : ℕ) → Course seed statements new lost → AreWhole new
course_whole seed statements new lost course =
    let so = course_so seed statements new lost course in
    record { cons = whole_at new so Cons; r1 = whole_at new so R1; r2 = whole_at new so R2; r3 = whole_at new so R3 }
