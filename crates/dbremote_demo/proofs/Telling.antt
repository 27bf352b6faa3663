-- What is written at the end of the demonstration.
use Rattle.std.proofs.Common.{◌≡◌, ℕ, List, ◌++◌, IsTrue, sym, subst}
use Rattle.dbremote_command.specs.Reports.{Wrote}
use Rattle.dbremote_command.specs.Runs.{Told}
use Rattle.dbremote_command.specs.declared.fault.Fault.TheVariants.{Sink}
use Rattle.dbremote_demo.proofs.Endings.{ends_all}
use Rattle.dbremote_demo.specs.Courses.{CourseStops}
use Rattle.dbremote_demo.specs.Demonstrations.{CameTo, Demonstrated, ended, shown, unshown}
use Rattle.sr_session.specs.Said.{WrotePrefix}
use Rattle.sr_site.specs.Causes.{Rose}
use Rattle.sr_site.specs.Streams.{Output, OutputStays}

pub shown_so : (seed statements : ℕ) (lines : List ℕ) (old new : Output) (status : ℕ) → CameTo seed statements lines → (IsTrue old.observable → new.taken ≡ old.taken ++ lines)
    → new.faults ≡ old.faults → status ≡ 0 → Demonstrated seed statements old new status
shown_so seed statements lines old new status came said steady is = shown (record { lines = lines; came = came; said = said; steady = steady; status_is = is })

pub unshown_so : (seed statements : ℕ) (lines : List ℕ) (old between new : Output) (status : ℕ) → CameTo seed statements lines
    → (IsTrue old.observable → WrotePrefix lines old.taken between.taken) → OutputStays old between → Rose old.faults between.faults → Told Sink between new status
    → Demonstrated seed statements old new status
unshown_so seed statements lines old between new status came prefix stays rose told =
    unshown (record { lines = lines; came = came; between = between; part = record { prefix = prefix; stays = stays; rose = rose }; line = told })

pub ended_so : (seed statements : ℕ) (line : List ℕ) (old new : Output) (status told : ℕ) → CourseStops seed statements status line → (IsTrue old.observable → Wrote line old new)
    → told ≡ status → Demonstrated seed statements old new told
ended_so seed statements line old new status told stopped written is =
    ended (record {
      line = line;
      stopped = subst (λ (s : ℕ). CourseStops seed statements s line) (sym is) stopped;
      ends = ends_all seed statements told line (subst (λ (s : ℕ). CourseStops seed statements s line) (sym is) stopped);
      written = written;
    })
