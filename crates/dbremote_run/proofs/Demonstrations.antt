-- What the status of a demonstration tells.
use Rattle.std.proofs.Common.{◌≡◌, ◌≤◌, ℕ, List, [], ◌∷◌, subst, inl, inr, arith}
use Rattle.std.specs.Prelude.{◌≢◌, ◌+◌, ◌*◌, min}
use Rattle.sr_database_files.specs.declared.fault.DatabaseFault.TheVariants.{Memory}
use Rattle.sr_site.specs.Causes.{Rose}
use Rattle.sr_site.specs.Streams.{Output}
use Rattle.dbremote_command.proofs.Completing.{told_status}
use Rattle.dbremote_command.proofs.Statuses.{order_words}
use Rattle.dbremote_command.specs.Runs.{Told}
use Rattle.dbremote_command.specs.declared.fault.Fault.TheVariants.{Database, Sink}
use Rattle.dbremote_demo.specs.Courses.{AgentStops, BlockStops, CourseStops, StopsAmong, all_demo_sites, making, settling}
use Rattle.dbremote_demo.specs.Demonstrations.{Demonstrated, EndedInside, ShownInPart, shown, unshown, ended, no_memory}
use Rattle.dbremote_demo.specs.Runs.{Stopped, Task}
use Rattle.dbremote_demo_draws.specs.declared.demo_site.DemoSite.{DemoSite}
use Rattle.dbremote_demo_draws.specs.Places.{nothing_made}
use Rattle.dbremote_demo_draws.specs.declared.demo_sites.DemoSites.{DemoSites}

-- ---- no run inside refuses words

module _ (status : ℕ) (line : List ℕ) where
  one_words : (task : Task) (old : DemoSites) → Stopped task old status line → status ≢ 2
  one_words task old is two = order_words task.order _ _ status is.ran.ran two

  tasks_words : (tasks : List Task) (old : DemoSites) → StopsAmong tasks old status line → status ≢ 2
  tasks_words [] old is two = is
  tasks_words (task ∷ tasks) old (inl is) two = one_words task old is two
  tasks_words (task ∷ tasks) old (inr is) two = tasks_words tasks is.between is.stopped two

  agents_words : (demo_sites : List DemoSite) (x : ℕ) (old : DemoSites) → AgentStops demo_sites x old status line → status ≢ 2
  agents_words [] x old is two = is
  agents_words (demo_site ∷ demo_sites) x old (inl is) two = one_words _ old is two
  agents_words (demo_site ∷ demo_sites) x old (inr is) two = agents_words demo_sites is.x' is.between is.stopped two

  block_words : (first end x : ℕ) (old : DemoSites) → BlockStops first end x old status line → status ≢ 2
  block_words first end x old (inl is) two = tasks_words _ old is two
  block_words first end x old (inr is) two = agents_words all_demo_sites _ is.between is.stopped two

  course_words : (seed statements : ℕ) → CourseStops seed statements status line → status ≢ 2
  course_words seed statements (inl is) two = tasks_words making nothing_made is two
  course_words seed statements (inr (inl is)) two = block_words (100 * is.stopped.blocks) (min statements (100 * is.stopped.blocks + 100)) is.stopped.x is.stopped.between is.stopped.stopped two
  course_words seed statements (inr (inr is)) two = tasks_words settling is.worked is.stopped two

-- ---- the demonstration

module _ (seed statements : ℕ) (old new : Output) (status : ℕ) where
  pub memory_is : Told (Database Memory) old new status → status ≡ 8
  memory_is told = elim (told_status (Database Memory) old new status told) [
    | inl eight ↦ eight
    | inr eight ↦ eight
  ]

  part_is : ShownInPart seed statements old new status → 7 ≤ status
  part_is part = elim (told_status Sink part.between new status part.line) [
    | inl seven ↦ omega (arith, seven)
    | inr eight ↦ omega (arith, eight)
  ]

  pub part_rose : ShownInPart seed statements old new status → Rose old.faults new.faults
  part_rose part = omega (arith, part.part.rose, part.line.stays.later)

  pub demo_words : Demonstrated seed statements old new status → status ≢ 2
  demo_words (shown all) two = omega (arith, all.status_is, two)
  demo_words (unshown part) two = omega (arith, part_is part, two)
  demo_words (ended by) two = course_words status by.line seed statements by.stopped two
  demo_words (no_memory told) two = omega (arith, memory_is told, two)

  pub demo_disk : Demonstrated seed statements old new status → status ≢ 5
  demo_disk (shown all) five = omega (arith, all.status_is, five)
  demo_disk (unshown part) five = omega (arith, part_is part, five)
  demo_disk (ended by) five = by.ends.disk five
  demo_disk (no_memory told) five = omega (arith, memory_is told, five)

  pub demo_streams : Demonstrated seed statements old new status → status ≡ 7 → Rose old.faults new.faults
  demo_streams (shown all) seven = absurd (omega (arith, all.status_is, seven))
  demo_streams (unshown part) seven = part_rose part
  demo_streams (ended by) seven = absurd (by.ends.streams seven)
  demo_streams (no_memory told) seven = absurd (omega (arith, memory_is told, seven))

  pub demo_mail : Demonstrated seed statements old new status → status ≡ 6 → EndedInside seed statements old new 6
  demo_mail (shown all) six = absurd (omega (arith, all.status_is, six))
  demo_mail (unshown part) six = absurd (omega (arith, part_is part, six))
  demo_mail (ended by) six = subst (λ (s : ℕ). EndedInside seed statements old new s) six by
  demo_mail (no_memory told) six = absurd (omega (arith, memory_is told, six))

  pub demo_amiss : Demonstrated seed statements old new status → status ≢ 1
  demo_amiss (shown all) one = omega (arith, all.status_is, one)
  demo_amiss (unshown part) one = omega (arith, part_is part, one)
  demo_amiss (ended by) one = by.ends.amiss one
  demo_amiss (no_memory told) one = omega (arith, memory_is told, one)
