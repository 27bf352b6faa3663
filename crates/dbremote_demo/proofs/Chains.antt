-- Runs, one after the other, and the first that ended otherwise.
use Rattle.std.proofs.Common.{◌≡◌, ℕ, ◌==◌, true, false, List, [], ◌∷◌, ◌++◌, length, refl, subst, inl, inr}
use Rattle.std.proofs.Math.Nat.{suc-ne-zero}
use Rattle.std.proofs.lemmas.Bool.{true≢false}
use Rattle.std.proofs.lemmas.Bool.Decides.{Decides-eqb}
use Rattle.dbremote_demo.specs.Courses.{AllRan, StopsAmong, task_at}
use Rattle.dbremote_demo.specs.Runs.{RanWell, Stopped, Task, script_of}
use Rattle.dbremote_demo.specs.Inner.Runs.{StopCause}
use Rattle.dbremote_demo.specs.declared.stop.Stop.{Stop}
use Rattle.dbremote_demo.specs.declared.stop.Stop.TheVariants.{Memory, Run}
use Rattle.dbremote_demo_draws.specs.declared.demo_site.DemoSite.{DemoSite}
use Rattle.dbremote_demo_draws.specs.declared.demo_sites.DemoSites.{DemoSites}

-- ---- all of them went well

pub one_ran : (task : Task) (old new : DemoSites) → RanWell task old new → AllRan (task ∷ []) old new
one_ran task old new ran = record { between = new; done = ran; followed = refl }

pub two_ran : (one two : Task) (old between new : DemoSites) → RanWell one old between → RanWell two between new → AllRan (one ∷ two ∷ []) old new
two_ran one two old between new first second = record { between = between; done = first; followed = one_ran two between new second }

pub four_ran : (one two three four : Task) (old a b c new : DemoSites) → RanWell one old a → RanWell two a b → RanWell three b c → RanWell four c new
    → AllRan (one ∷ two ∷ three ∷ four ∷ []) old new
four_ran one two three four old a b c new first second third last =
    record { between = a; done = first; followed = record { between = b; done = second; followed = two_ran three four b c new third last } }

pub joined : (first rest : List Task) (old between new : DemoSites) → AllRan first old between → AllRan rest between new → AllRan (first ++ rest) old new
joined [] rest old between new done more = subst (λ (o : DemoSites). AllRan rest o new) done more
joined (task ∷ tasks) rest old between new done more =
    record { between = done.between; done = done.done; followed = joined tasks rest done.between between new done.followed more }

pub three_joined : (one two three : List Task) (old a b new : DemoSites) → AllRan one old a → AllRan two a b → AllRan three b new → AllRan (one ++ two ++ three) old new
three_joined one two three old a b new first second last = joined (one ++ two) three old b new (joined one two old a b first second) last

pub four_joined : (one two three four : List Task) (old a b c new : DemoSites) → AllRan one old a → AllRan two a b → AllRan three b c → AllRan four c new
    → AllRan (one ++ two ++ three ++ four) old new
four_joined one two three four old a b c new first second third last =
    joined (one ++ two ++ three) four old c new (three_joined one two three old a b c first second third) last

pub five_joined : (one two three four five : List Task) (old a b c d new : DemoSites) → AllRan one old a → AllRan two a b → AllRan three b c → AllRan four c d → AllRan five d new
    → AllRan (one ++ two ++ three ++ four ++ five) old new
five_joined one two three four five old a b c d new first second third fourth last =
    joined (one ++ two ++ three ++ four) five old d new (four_joined one two three four old a b c d first second third fourth) last

-- a database has something of a block, or nothing
pub nothing_ran : (demo_site : DemoSite) (script : List ℕ) (old : DemoSites) → (length script == 0) ≡ true → AllRan (task_at demo_site script) old old
nothing_ran demo_site [] old is = refl
nothing_ran demo_site (byte ∷ bytes) old is = absurd (suc-ne-zero (length bytes) ((Decides-eqb (length (byte ∷ bytes)) 0).0 is))

pub task_ran : (demo_site : DemoSite) (script : List ℕ) (old new : DemoSites) → (length script == 0) ≡ false → RanWell (script_of demo_site script) old new
    → AllRan (task_at demo_site script) old new
task_ran demo_site [] old new is ran = absurd (true≢false is)
task_ran demo_site (byte ∷ bytes) old new is ran = one_ran (script_of demo_site (byte ∷ bytes)) old new ran

-- ---- one of them did not

pub stops_with : (P Q : ℕ → List ℕ → Type 0) (stop : Stop) → ((status : ℕ) (line : List ℕ) → P status line → Q status line) → StopCause P stop → StopCause Q stop
stops_with P Q Memory each is = is
stops_with P Q (Run status line) each is = each status line.items is

pub first_stops : (task : Task) (tasks : List Task) (old : DemoSites) (stop : Stop) → StopCause (Stopped task old) stop → StopCause (StopsAmong (task ∷ tasks) old) stop
first_stops task tasks old stop is = stops_with (Stopped task old) (StopsAmong (task ∷ tasks) old) stop (λ status line one. inl one) is

pub later_stops : (task : Task) (tasks : List Task) (old between : DemoSites) (stop : Stop) → RanWell task old between → StopCause (StopsAmong tasks between) stop
    → StopCause (StopsAmong (task ∷ tasks) old) stop
later_stops task tasks old between stop well is =
    stops_with (StopsAmong tasks between) (StopsAmong (task ∷ tasks) old) stop (λ status line one. inr (record { between = between; well = well; stopped = one })) is

among_prefix : (prefix rest : List Task) (old : DemoSites) (status : ℕ) (line : List ℕ) → StopsAmong prefix old status line → StopsAmong (prefix ++ rest) old status line
among_prefix [] rest old status line is = absurd is
among_prefix (task ∷ tasks) rest old status line (inl is) = inl is
among_prefix (task ∷ tasks) rest old status line (inr is) =
    inr (record { between = is.between; well = is.well; stopped = among_prefix tasks rest is.between status line is.stopped })

pub prefix_stops : (prefix rest : List Task) (old : DemoSites) (stop : Stop) → StopCause (StopsAmong prefix old) stop → StopCause (StopsAmong (prefix ++ rest) old) stop
prefix_stops prefix rest old stop is = stops_with (StopsAmong prefix old) (StopsAmong (prefix ++ rest) old) stop (among_prefix prefix rest old) is

among_rest : (prefix rest : List Task) (old between : DemoSites) (status : ℕ) (line : List ℕ) → AllRan prefix old between → StopsAmong rest between status line
    → StopsAmong (prefix ++ rest) old status line
among_rest [] rest old between status line done is = subst (λ (o : DemoSites). StopsAmong rest o status line) done is
among_rest (task ∷ tasks) rest old between status line done is =
    inr (record { between = done.between; well = done.done; stopped = among_rest tasks rest done.between between status line done.followed is })

pub rest_stops : (prefix rest : List Task) (old between : DemoSites) (stop : Stop) → AllRan prefix old between → StopCause (StopsAmong rest between) stop
    → StopCause (StopsAmong (prefix ++ rest) old) stop
rest_stops prefix rest old between stop done is =
    stops_with (StopsAmong rest between) (StopsAmong (prefix ++ rest) old) stop (λ status line one. among_rest prefix rest old between status line done one) is

pub task_stops : (demo_site : DemoSite) (script : List ℕ) (old : DemoSites) (stop : Stop) → (length script == 0) ≡ false → StopCause (Stopped (script_of demo_site script) old) stop
    → StopCause (StopsAmong (task_at demo_site script) old) stop
task_stops demo_site [] old stop is why = absurd (true≢false is)
task_stops demo_site (byte ∷ bytes) old stop is why = first_stops (script_of demo_site (byte ∷ bytes)) [] old stop why

-- ---- one behind several

pub third_stops : (one two three : Task) (tasks : List Task) (old a b : DemoSites) (stop : Stop) → RanWell one old a → RanWell two a b → StopCause (Stopped three b) stop
    → StopCause (StopsAmong (one ∷ two ∷ three ∷ tasks) old) stop
third_stops one two three tasks old a b stop first second why =
    later_stops one (two ∷ three ∷ tasks) old a stop first (later_stops two (three ∷ tasks) a b stop second (first_stops three tasks b stop why))

pub fourth_stops : (one two three four : Task) (tasks : List Task) (old a b c : DemoSites) (stop : Stop) → RanWell one old a → RanWell two a b → RanWell three b c
    → StopCause (Stopped four c) stop → StopCause (StopsAmong (one ∷ two ∷ three ∷ four ∷ tasks) old) stop
fourth_stops one two three four tasks old a b c stop first second third why =
    later_stops one (two ∷ three ∷ four ∷ tasks) old a stop first (third_stops two three four tasks a b c stop second third why)

pub third_part_stops : (one two three rest : List Task) (old a b : DemoSites) (stop : Stop) → AllRan one old a → AllRan two a b → StopCause (StopsAmong three b) stop
    → StopCause (StopsAmong (one ++ two ++ three ++ rest) old) stop
third_part_stops one two three rest old a b stop first second why =
    prefix_stops (one ++ two ++ three) rest old stop (rest_stops (one ++ two) three old b stop (joined one two old a b first second) why)

pub last_of_four_stops : (one two three four : List Task) (old a b c : DemoSites) (stop : Stop) → AllRan one old a → AllRan two a b → AllRan three b c
    → StopCause (StopsAmong four c) stop → StopCause (StopsAmong (one ++ two ++ three ++ four) old) stop
last_of_four_stops one two three four old a b c stop first second third why =
    rest_stops (one ++ two ++ three) four old c stop (three_joined one two three old a b c first second third) why

pub fourth_part_stops : (one two three four rest : List Task) (old a b c : DemoSites) (stop : Stop) → AllRan one old a → AllRan two a b → AllRan three b c
    → StopCause (StopsAmong four c) stop → StopCause (StopsAmong (one ++ two ++ three ++ four ++ rest) old) stop
fourth_part_stops one two three four rest old a b c stop first second third why =
    prefix_stops (one ++ two ++ three ++ four) rest old stop (last_of_four_stops one two three four old a b c stop first second third why)

pub last_of_five_stops : (one two three four five : List Task) (old a b c d : DemoSites) (stop : Stop) → AllRan one old a → AllRan two a b → AllRan three b c → AllRan four c d
    → StopCause (StopsAmong five d) stop → StopCause (StopsAmong (one ++ two ++ three ++ four ++ five) old) stop
last_of_five_stops one two three four five old a b c d stop first second third fourth why =
    rest_stops (one ++ two ++ three ++ four) five old d stop (four_joined one two three four old a b c d first second third fourth) why
