-- Runs and crashes make lives.
use Rattle.std.proofs.Common.{◌≡◌, ◌≢◌, ℕ, zero, suc, List, [], ◌∷◌, ◌++◌, map, refl, sym, ap, subst, ◌∙◌, inl, inr, arith, if◌then◌else◌}
use Rattle.std.proofs.lemmas.List.{map-append}
use Rattle.std.specs.Prelude.{Contains, IsTrue, bytes_eq}
use Rattle.std.specs.List.{AllByRecursion}
use Rattle.sr_book.specs.Entries.{Name}
use Rattle.sr_database_meaning.specs.Events.{PutFile, puts_in}
use Rattle.sr_database_meaning.specs.Standing.{StandsAs}
use Rattle.sr_memsite.specs.Disks.{Disk, begun_with, files_in}
use Rattle.sr_memsite.specs.Inner.Disks.{HasCrashed}
use Rattle.sr_memsite.specs.Meaning.{begun}
use Rattle.sr_site.specs.Files.{Files}
use Rattle.sr_site.specs.Happenings.{Happening}
use Rattle.sr_site.specs.Images.{IsImage, IsSettled, MayLeave}
use Rattle.sr_site.specs.Seen.{Seen}
use Rattle.sr_world_runs.proofs.Living.{lived}
use Rattle.sr_world_runs.specs.Lives.{CameOf, MayFind, SeenRun, put_by}
use Rattle.world_lives_kept.specs.Inner.Kept.{AreKept, AreOf, bytes_of_all}
use Rattle.test_lives.specs.Inner.Lives.{HasCrashedTo, HasGone, HasRun, HaveOneWorld, HaveRun, IsLife, IsNew, IsWhole, LivesSoFar, office_at, offices_of}
use Rattle.test_lives.specs.Inner.Names.{both_names, name_at}
use Rattle.test_lives.specs.declared.office.Office.{Office}
use Rattle.test_lives.specs.declared.place.Place.{Place}
use Rattle.test_lives.specs.declared.place.Place.TheVariants.{Above, Below}

named : (place : Place) → Contains both_names (name_at place)
named Above = (0, omega arith, refl)
named Below = (1, omega arith, refl)

differ : name_at Above ≢ name_at Below
differ is = cc is

-- ---- the beginning

module _ (above below : Office) (new_above : IsNew (name_at Above) above) (new_below : IsNew (name_at Below) below) where
  abbrev first : Name → Seen
  first d = if bytes_eq d (name_at Above) then begun above.disk else begun below.disk

  settled : (d : Name) → Contains both_names d → IsSettled (StandsAs d []) (first d)
  settled d (zero, lt, is) = subst (λ (d : Name). IsSettled (StandsAs d []) (first d)) is new_above.settled
  settled d (suc zero, lt, is) = subst (λ (d : Name). IsSettled (StandsAs d []) (first d)) is new_below.settled
  settled d (suc (suc n), lt, is) = absurd (omega (arith, lt))

  found : (place : Place) (image : Files) → MayLeave (office_at above below place).disk.first (office_at above below place).disk.happened image → MayFind first [] (name_at place) image
  found Above image there = there
  found Below image there = there

  pub begun_lives : IsLife above below [] []
  begun_lives = record {
    run = record { first = first; settled = settled; runs = []; lives = tt; owners = refl; put_are = refl; found = found };
    above_whole = new_above.whole;
    below_whole = new_below.whole;
  }

-- ---- a run

module _ (offices : Place → Office) (put put' : List (List ℕ)) (places : List Place) (have : HaveRun offices put places) (place : Place) (new : Office) (gone : HasGone (offices place) new put put') where
  abbrev seen_run : SeenRun
  seen_run = record {
    owner = name_at place;
    before = begun (offices place).disk;
    now = gone.run.now;
    since = gone.run.more;
    later = [];
    is = gone.run.is;
    steps = λ w. gone.run.steps w (name_at place);
  }

  came_known : (files : List PutFile) → bytes_of_all files ≡ put → AreOf (bytes_of_all files) new.kept.fetched
  came_known files is = subst (λ (l : List (List ℕ)). AreOf l new.kept.fetched) (sym is) gone.known

  left_there : (image : Files) → MayLeave new.disk.first new.disk.happened image → MayFind have.first (seen_run ∷ have.runs) (name_at place) image
  left_there image there =
      inl (refl, subst (λ (h : List Happening). MayLeave (offices place).disk.first h image) (gone.run.happened ∙ gone.run.is) (subst (λ (f : Files). MayLeave f new.disk.happened image) gone.run.first there))

  left_other : (other : Place) → name_at other ≢ name_at place → (image : Files) → MayLeave (offices other).disk.first (offices other).disk.happened image
      → MayFind have.first (seen_run ∷ have.runs) (name_at other) image
  left_other other differs image there = inr (differs, have.found other image there)

  gone_on : (offices' : Place → Office)
      → ((other : Place) (image : Files) → MayLeave (offices' other).disk.first (offices' other).disk.happened image → MayFind have.first (seen_run ∷ have.runs) (name_at other) image)
      → HaveRun offices' put' (places ++ place ∷ [])
  gone_on offices' found = record {
    first = have.first;
    settled = have.settled;
    runs = seen_run ∷ have.runs;
    lives = (
      have.lives,
      record {
        named = named place;
        found = λ image there. have.found place image there;
        came = gone.run.came (put_by have.runs) (came_known (put_by have.runs) have.put_are);
      },
    );
    owners = ap (λ (l : List Name). l ++ name_at place ∷ []) have.owners ∙ sym (map-append name_at places (place ∷ []));
    put_are =
        map-append (λ (l : PutFile). l.2) (put_by have.runs) (puts_in gone.run.more) ∙ ap (λ (l : List (List ℕ)). l ++ bytes_of_all (puts_in gone.run.more)) have.put_are ∙ sym gone.put_are;
    found = found;
  }

pub one_more_above : (above below new : Office) (put put' : List (List ℕ)) (places : List Place) → IsLife above below put places → HasGone above new put put'
    → IsLife new below put' (places ++ Above ∷ [])
one_more_above above below new put put' places life gone = record {
  run = gone_on (office_at above below) put put' places life.run Above new gone (office_at new below) found;
  above_whole = gone.run.whole;
  below_whole = life.below_whole;
}
  where
    found : (other : Place) (image : Files) → MayLeave (office_at new below other).disk.first (office_at new below other).disk.happened image
        → MayFind life.run.first (seen_run (office_at above below) put put' places life.run Above new gone ∷ life.run.runs) (name_at other) image
    found Above image there = left_there (office_at above below) put put' places life.run Above new gone image there
    found Below image there = left_other (office_at above below) put put' places life.run Above new gone Below (λ is. differ (sym is)) image there

pub one_more_below : (above below new : Office) (put put' : List (List ℕ)) (places : List Place) → IsLife above below put places → HasGone below new put put'
    → IsLife above new put' (places ++ Below ∷ [])
one_more_below above below new put put' places life gone = record {
  run = gone_on (office_at above below) put put' places life.run Below new gone (office_at above new) found;
  above_whole = life.above_whole;
  below_whole = gone.run.whole;
}
  where
    found : (other : Place) (image : Files) → MayLeave (office_at above new other).disk.first (office_at above new other).disk.happened image
        → MayFind life.run.first (seen_run (office_at above below) put put' places life.run Below new gone ∷ life.run.runs) (name_at other) image
    found Above image there = left_other (office_at above below) put put' places life.run Below new gone Above differ image there
    found Below image there = left_there (office_at above below) put put' places life.run Below new gone image there

-- ---- a crash

-- what may be found of the files that it left is what might have been found
crash_found : (pick : ℕ) (old new : Disk) (Find : Files → Type 0) → HasCrashed pick old new → ((image : Files) → MayLeave old.first old.happened image → Find image) → (image : Files)
    → MayLeave new.first new.happened image → Find image
crash_found pick old new Find crashed found image there =
    let is : image ≡ files_in new = subst (λ (d : Disk). MayLeave d.first d.happened image) crashed.begun there in
    subst Find (sym is) (found (files_in new) crashed.image)

crashed_to : (offices offices' : Place → Office) (put : List (List ℕ)) (places : List Place) (have : HaveRun offices put places)
    → ((place : Place) (image : Files) → MayLeave (offices' place).disk.first (offices' place).disk.happened image → MayFind have.first have.runs (name_at place) image)
    → HaveRun offices' put places
crashed_to offices offices' put places have found = record {
  first = have.first;
  settled = have.settled;
  runs = have.runs;
  lives = have.lives;
  owners = have.owners;
  put_are = have.put_are;
  found = found;
}

pub crashed_above : (pick : ℕ) (above below new : Office) (put : List (List ℕ)) (places : List Place) → IsLife above below put places → HasCrashedTo pick above new
    → IsLife new below put places
crashed_above pick above below new put places life to = record {
  run = crashed_to (office_at above below) (office_at new below) put places life.run found;
  above_whole = to.whole;
  below_whole = life.below_whole;
}
  where
    found : (place : Place) (image : Files) → MayLeave (office_at new below place).disk.first (office_at new below place).disk.happened image
        → MayFind life.run.first life.run.runs (name_at place) image
    found Above image there = crash_found pick above.disk new.disk (MayFind life.run.first life.run.runs (name_at Above)) to.crashed (life.run.found Above) image there
    found Below image there = life.run.found Below image there

pub crashed_below : (pick : ℕ) (above below new : Office) (put : List (List ℕ)) (places : List Place) → IsLife above below put places → HasCrashedTo pick below new
    → IsLife above new put places
crashed_below pick above below new put places life to = record {
  run = crashed_to (office_at above below) (office_at above new) put places life.run found;
  above_whole = life.above_whole;
  below_whole = to.whole;
}
  where
    found : (place : Place) (image : Files) → MayLeave (office_at above new place).disk.first (office_at above new place).disk.happened image
        → MayFind life.run.first life.run.runs (name_at place) image
    found Above image there = life.run.found Above image there
    found Below image there = crash_found pick below.disk new.disk (MayFind life.run.first life.run.runs (name_at Below)) to.crashed (life.run.found Below) image there

-- nothing has happened to the files that a crash left
pub crashed_whole : (pick : ℕ) (old new : Office) → HasCrashed pick old.disk new.disk → IsTrue new.kept.whole → new.kept.put ≡ [] → HasCrashedTo pick old new
crashed_whole pick old new crashed whole none = record {
  crashed = crashed;
  whole = record {
    whole = whole;
    are = record {
      put_are = ap (λ (d : Disk). bytes_of_all (puts_in d.happened)) crashed.begun ∙ sym none;
      came = λ files each. subst (λ (d : Disk). AllByRecursion (CameOf files) d.happened) (sym crashed.begun) tt;
    };
  };
}

-- ---- all of them

pub one_world : (lives : LivesSoFar) → IsLife lives.above lives.below lives.put lives.places → HaveOneWorld (offices_of lives) lives.put lives.places
one_world lives life = record { run = life.run; lived = lived both_names life.run.first life.run.runs life.run.settled life.run.lives }
