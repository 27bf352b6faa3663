-- A run on the files of a database.
use Rattle.std.proofs.Common.{◌≡◌, ◌≢◌, ℕ, ◌+◌, ◌≤◌, length, drop, List, [], ◌∷◌, ◌++◌, map, refl, sym, ap, subst, ◌∙◌, inl, inr, arith}
use Rattle.std.proofs.lemmas.List.{map-append, length-append, drop_at}
use Rattle.std.specs.Prelude.{IsTrue}
use Rattle.std.specs.List.{AllByRecursion}
use Rattle.sr_book.specs.Entries.{Name}
use Rattle.sr_database_files.specs.declared.fault.DatabaseFault.{DatabaseFault}
use Rattle.sr_database_files.specs.declared.fault.DatabaseFault.TheVariants.{Missing, Exists, Damaged, Disk, Full, Long, Memory}
use Rattle.sr_database_history.specs.Recorded.{Recorded}
use Rattle.sr_database_meaning.proofs.Going.{puts_more}
use Rattle.sr_database_meaning.specs.Events.{PutFile, puts_in}
use Rattle.sr_database_meaning.specs.Standing.{StandsAs, StandsFor}
use Rattle.sr_memsite.specs.Disks.{Disk as Store}
use Rattle.sr_memsite.specs.Inner.Meaning.{parts_of, seen_of}
use Rattle.sr_memsite.specs.Meaning.{begun}
use Rattle.sr_memsite.specs.declared.site.MemorySite.{MemorySite}
use Rattle.sr_site.specs.Causes.{Stays}
use Rattle.sr_site.specs.Happenings.{Happening}
use Rattle.sr_site.specs.Images.{IsImage, IsSettled, MayLeave}
use Rattle.sr_site.specs.Inner.Growing.{all_of_it, more_than}
use Rattle.sr_site.specs.Seen.{Seen}
use Rattle.sr_site.specs.Streams.{Output}
use Rattle.sr_world_model.specs.Worlds.{World}
use Rattle.sr_world_runs.specs.Lives.{CameOf}
use Rattle.sr_world_runs.specs.Worlds.{MakesSteps}
use Rattle.dbremote_command.proofs.Completing.{told_status}
use Rattle.dbremote_command.specs.Faults.{database_status, status_of}
use Rattle.dbremote_command.specs.Making.{MakeCause}
use Rattle.dbremote_command.specs.Outside.{Outside}
use Rattle.dbremote_command.specs.Runs.{RanInit, RanOrder, Told}
use Rattle.dbremote_command.specs.declared.order.Order.{Order}
use Rattle.dbremote_command.specs.declared.order.Order.TheVariants.{Init}
use Rattle.dbremote_command.specs.declared.fault.Fault.{Fault}
use Rattle.dbremote_command.specs.declared.fault.Fault.TheVariants.{Words, Database, Source, TooLong, Script, Statement, Sink, Mail}
use Rattle.world_lives_kept.specs.Inner.Kept.{AreKept, AreOf, bytes_of_all}
use Rattle.test_lives.specs.Inner.Lives.{HasGone, HasRun, IsNew, IsWhole}
use Rattle.test_lives.specs.declared.office.Office.{Office}

-- ---- `init`

no_zero : (d : DatabaseFault) → database_status d ≢ 0
no_zero Missing is = omega (arith, is)
no_zero Exists is = omega (arith, is)
no_zero (Damaged file at) is = omega (arith, is)
no_zero Disk is = omega (arith, is)
no_zero (Full end need) is = omega (arith, is)
no_zero (Long size limit) is = omega (arith, is)
no_zero Memory is = omega (arith, is)

-- a fault that ends it is not told by status 0
not_zero : (name : List ℕ) (user : Name) (before now : Seen) (old new : Output) (fault : Fault) → MakeCause name user before now old new fault → status_of fault ≢ 0
not_zero name user before now old new Words cause = absurd cause
not_zero name user before now old new (Database d) cause = no_zero d
not_zero name user before now old new Source cause = absurd cause
not_zero name user before now old new TooLong cause = absurd cause
not_zero name user before now old new (Script at) cause = absurd cause
not_zero name user before now old new (Statement number fault) cause = absurd cause
not_zero name user before now old new Sink cause = λ is. omega (arith, is)
not_zero name user before now old new Mail cause = absurd cause

-- where its status is 0, whatever a crash leaves is a database without an entry
made : (name : List ℕ) (user : Name) (old new : Outside) (status : ℕ) → RanInit name user old new status → status ≡ 0 → IsTrue old.site.observable → IsSettled (StandsAs user []) new.site
made name user old new status ran zero told = elim ran.ended [
  | inl all ↦ λ image there. record { base = 0; stands = all.made.settled told image there }
  | inr by ↦ elim (told_status by.fault by.between new.output status by.line) [
    | inl is ↦ absurd (not_zero name user old.site new.site old.output by.between by.fault by.stopped (sym is ∙ zero))
    | inr want ↦ absurd (omega (arith, want, zero))
  ]
]

-- and the files that are left are those
pub made_new : (name user : List ℕ) (order : Order) (old new : Outside) (status : ℕ) (site : MemorySite) (office : Office) → order ≡ Init name user → RanOrder order old new status → status ≡ 0
    → IsTrue old.site.observable → new.site ≡ seen_of site → office.disk ≡ (parts_of site).0 → IsTrue office.kept.whole
    → (IsTrue office.kept.whole → AreKept office.kept.put office.kept.fetched office.disk.happened) → IsNew user office
made_new name user order old new status site office asked ran zero told now left whole are = record {
  settled = λ image there.
      made name user old new status (subst (λ (o : Order). RanOrder o old new status) asked ran) zero told image
      (subst (λ (s : Seen). IsImage s image) (sym now) (subst (λ (d : Store). MayLeave d.first d.happened image) left there));
  whole = record { whole = whole; are = are whole };
}

-- ---- a run

came_more : (files : List PutFile) (more before : List Happening) → AllByRecursion (CameOf files) (more ++ before) → AllByRecursion (CameOf files) more
came_more files [] before all = tt
came_more files (step ∷ more) before all = (all.0, came_more files more before all.1)

-- the files that are left are those of the site at the end
pub has_run : (old new : Office) (before : Seen) (site : MemorySite) → IsWhole old → before ≡ begun old.disk → IsTrue before.observable → Stays before (seen_of site)
    → ((w : World Recorded) (publisher : Name) → IsTrue before.observable → MakesSteps w publisher before (seen_of site)) → new.disk ≡ (parts_of site).0 → IsTrue new.kept.whole
    → (IsTrue new.kept.whole → AreKept new.kept.put new.kept.fetched new.disk.happened) → HasRun old new
has_run old new before site was same told stays steps left whole are =
    let now = seen_of site in
    let stays_so : Stays (begun old.disk) now = subst (λ (s : Seen). Stays s now) same stays in
    let all = more_than old.disk.happened now.happened (stays_so.grows old.disk.happened (all_of_it old.disk.happened)) in
    let new_is : new.disk.happened ≡ all.0 ++ old.disk.happened = ap (λ (d : Store). d.happened) left ∙ all.1 in
    record {
      now = now;
      more = all.0;
      is = all.1;
      first = ap (λ (d : Store). d.first) left ∙ stays_so.first;
      happened = ap (λ (d : Store). d.happened) left;
      steps = λ w publisher. subst (λ (s : Seen). MakesSteps w publisher s now) same (steps w publisher told);
      whole = record { whole = whole; are = are whole };
      came = λ files each. came_more files all.0 old.disk.happened (subst (AllByRecursion (CameOf files)) new_is ((are whole).came files each));
      put =
          sym (are whole).put_are ∙ ap (λ (h : List Happening). bytes_of_all (puts_in h)) new_is ∙ ap bytes_of_all (puts_more old.disk.happened all.0)
          ∙ map-append (λ (l : PutFile). l.2) (puts_in old.disk.happened) (puts_in all.0) ∙ ap (λ (l : List (List ℕ)). l ++ bytes_of_all (puts_in all.0)) was.are.put_are;
    }

pub put_longer : (old new : Office) → HasRun old new → length old.kept.put ≤ length new.kept.put
put_longer old new ran = omega (arith, ap length ran.put, length-append old.kept.put (bytes_of_all (puts_in ran.more)))

pub has_gone : (old new : Office) (before put more : List (List ℕ)) → HasRun old new → AreOf before new.kept.fetched → more ≡ drop (length old.kept.put) new.kept.put → put ≡ before ++ more
    → HasGone old new before put
has_gone old new before put more ran known tail is = record {
  run = ran;
  known = known;
  put_are = is ∙ ap (λ (l : List (List ℕ)). before ++ l) (tail ∙ ap (drop (length old.kept.put)) ran.put ∙ drop_at old.kept.put (bytes_of_all (puts_in ran.more)) (length old.kept.put) refl);
}
