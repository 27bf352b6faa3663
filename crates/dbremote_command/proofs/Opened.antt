-- What an attached site and an opened database are, from what their calls leave.
use Rattle.std.proofs.Common.{◌≡◌, Bool, true, false, List, [], ◌∷◌, ◌++◌, ℕ, refl, sym, ap, ◌∙◌, subst, inl, inr}
use Rattle.std.specs.Prelude.{IsTrue}
use Rattle.sr_book.specs.Entries.{Name}
use Rattle.sr_database_files.specs.Fresh.{IsNoneOrNew, IsThere}
use Rattle.sr_database.specs.InForce.{HasLogInForce}
use Rattle.sr_database.specs.Views.{View}
use Rattle.sr_site.specs.Causes.{DiskStays}
use Rattle.sr_site.specs.Files.{Files}
use Rattle.sr_site.specs.Inner.Growing.{disk_stays_on, throughout_each}
use Rattle.sr_site.specs.Happenings.{Grows, Happening, IsMoment, Throughout, attached}
use Rattle.sr_site.specs.Images.{MayLeave, IsImage, IsSettled, RestsThroughout}
use Rattle.sr_site.specs.Seen.{Seen}
use Rattle.sr_database_meaning.specs.Events.{attaches_in}
use Rattle.sr_database_meaning.specs.Standing.{StandsFor}
use Rattle.dbremote_command.specs.Inner.Attaching.{Attaches}
use Rattle.dbremote_command.specs.Making.{IsGuarded, IsMade}
use Rattle.dbremote_command.specs.Outside.{IsAttached, IsAttachTried}
use Rattle.dbremote_command.specs.Running.{HasHistory, IsUntouched, IsOpened}

-- ---- attaching

pub told_on : (before now : Seen) → DiskStays before now → IsTrue before.observable → IsTrue now.observable
told_on before now stays told = stays.observable ∙ told

pub tried_refused : (name mail : List ℕ) (before now : Seen) → Attaches name mail false before now → IsAttachTried name mail before now
tried_refused name mail before now attaches = inr attaches.happened

attached_at : (name mail : List ℕ) (before now : List Happening) → now ≡ attached name mail true ∷ before → IsMoment (attached name mail true ∷ before) now
attached_at name mail before now is = subst (λ (l : List Happening). IsMoment (attached name mail true ∷ before) l) (sym is) (inl refl)

-- nothing was attached from the one moment to the other
abbrev pub AttachesStay : Seen → Seen → Type 0
AttachesStay before now = IsTrue before.observable → attaches_in now.happened ≡ attaches_in before.happened

pub attached_on : (name mail : List ℕ) (before middle now : Seen) → Attaches name mail true before middle → DiskStays middle now → AttachesStay middle now → IsAttached name mail before now
attached_on name mail before middle now attaches stays same told = record {
  first = stays.grows (attached name mail true ∷ before.happened) (attached_at name mail before.happened middle.happened (attaches.happened told));
  once = same (told_on before middle attaches.stays told) ∙ ap attaches_in (attaches.happened told);
}

pub tried_on : (name mail : List ℕ) (before middle now : Seen) → Attaches name mail true before middle → DiskStays middle now → AttachesStay middle now → IsAttachTried name mail before now
tried_on name mail before middle now attaches stays same = inl (attached_on name mail before middle now attaches stays same)

-- it was attached, and nothing happened since
pub attached_still : (name mail : List ℕ) (before now : Seen) → Attaches name mail true before now → IsAttached name mail before now
attached_still name mail before now attaches told = record { first = attached_at name mail before.happened now.happened (attaches.happened told); once = ap attaches_in (attaches.happened told) }

pub tried_still : (name mail : List ℕ) (before now : Seen) → Attaches name mail true before now → IsAttachTried name mail before now
tried_still name mail before now attaches = inl (attached_still name mail before now attaches)

-- an attached site has the images that it had
image_same : (first : Files) (name mail : List ℕ) (done : Bool) (before now : List Happening) (image : Files) → now ≡ attached name mail done ∷ before → MayLeave first now image → MayLeave first before image
image_same first name mail done before now image is leaves = subst (λ (l : List Happening). MayLeave first l image) is leaves

pub images_before : (name mail : List ℕ) (done : Bool) (before now : Seen) → IsTrue before.observable → Attaches name mail done before now → (image : Files) → IsImage now image → IsImage before image
images_before name mail done before now told attaches image is =
    image_same before.first name mail done before.happened now.happened image (attaches.happened told) (subst (λ (f : Files). MayLeave f now.happened image) attaches.stays.first is)

pub settled_on : (holds : Files → Type 0) (name mail : List ℕ) (done : Bool) (before now : Seen) → IsTrue before.observable → Attaches name mail done before now → IsSettled holds before → IsSettled holds now
settled_on holds name mail done before now told attaches settled image is = settled image (images_before name mail done before now told attaches image is)

-- what holds of each image throughout, from before the site was attached
pub rests_on : (holds : Files → Type 0) (name mail : List ℕ) (done : Bool) (before middle now : Seen) → IsTrue before.observable → Attaches name mail done before middle → IsSettled holds before
    → RestsThroughout holds middle now → RestsThroughout holds before now
rests_on holds name mail done before middle now told attaches settled rests = record {
  more = rests.more ++ attached name mail done ∷ [];
  is = rests.is ∙ ap (λ (l : List Happening). rests.more ++ l) (attaches.happened told) ∙ sym (joined rests.more);
  moments = along rests.more (subst (λ (f : Files). Throughout (λ moment. (image : Files) → MayLeave f moment image → holds image) middle.happened rests.more) attaches.stays.first rests.moments);
}
  where
    Holds : List Happening → Type 0
    Holds moment = (image : Files) → MayLeave before.first moment image → holds image

    joined : (more : List Happening) → (more ++ attached name mail done ∷ []) ++ before.happened ≡ more ++ attached name mail done ∷ before.happened
    joined [] = refl
    joined (step ∷ more) = ap (λ (l : List Happening). step ∷ l) (joined more)

    along : (more : List Happening) → Throughout Holds middle.happened more → Throughout Holds before.happened (more ++ attached name mail done ∷ [])
    along [] here = (settled, settled)
    along (step ∷ more) there = (subst Holds (ap (λ (l : List Happening). step ∷ more ++ l) (attaches.happened told) ∙ ap (λ (l : List Happening). step ∷ l) (sym (joined more))) there.0, along more there.1)

pub nothing_more : (holds : Files → Type 0) (seen : Seen) → IsSettled holds seen → RestsThroughout holds seen seen
nothing_more holds seen settled = record { more = []; is = refl; moments = settled }

-- each image of the attached site was one before
pub images_on : (name mail : List ℕ) (before middle now : Seen) → IsTrue before.observable → Attaches name mail true before middle → RestsThroughout (IsImage middle) middle now → RestsThroughout (IsImage before) before now
images_on name mail before middle now told attaches rests =
    rests_on (IsImage before) name mail true before middle now told attaches (λ image is. is) (record {
      more = rests.more;
      is = rests.is;
      moments = throughout_each
          (λ moment. (image : Files) → MayLeave middle.first moment image → IsImage middle image)
          (λ moment. (image : Files) → MayLeave middle.first moment image → IsImage before image)
          (λ moment each image leaves. images_before name mail true before middle told attaches image (each image leaves))
          middle.happened rests.more rests.moments;
    })

-- ---- a database is made

pub guarded_refused : (name mail : List ℕ) (user : Name) (before now : Seen) → Attaches name mail false before now → IsGuarded user before now
guarded_refused name mail user before now attaches = record {
  new = λ told settled. rests_on (IsNoneOrNew user) name mail false before now now told attaches settled (nothing_more (IsNoneOrNew user) now (settled_on (IsNoneOrNew user) name mail false before now told attaches settled));
  there = λ told settled. rests_on (IsImage before) name mail false before now now told attaches (λ image is. is) (nothing_more (IsImage before) now (images_before name mail false before now told attaches));
}

pub guarded_on : (name mail : List ℕ) (user : Name) (before middle now : Seen) → Attaches name mail true before middle
    → (IsTrue middle.observable → IsSettled (IsNoneOrNew user) middle → RestsThroughout (IsNoneOrNew user) middle now)
    → (IsTrue middle.observable → IsSettled IsThere middle → RestsThroughout (IsImage middle) middle now) → IsGuarded user before now
guarded_on name mail user before middle now attaches new there = record {
  new = λ told settled. rests_on (IsNoneOrNew user) name mail true before middle now told attaches settled (new (told_on before middle attaches.stays told) (settled_on (IsNoneOrNew user) name mail true before middle told attaches settled));
  there = λ told settled. images_on name mail before middle now told attaches (there (told_on before middle attaches.stays told) (settled_on IsThere name mail true before middle told attaches settled));
}

pub made : (name : List ℕ) (user : Name) (before middle now : Seen) → Attaches name [] true before middle → middle.disk_faults ≡ before.disk_faults → DiskStays middle now → AttachesStay middle now → now.disk_faults ≡ middle.disk_faults
    → (IsTrue middle.observable → StandsFor user [] 0 now.files) → (IsTrue middle.observable → IsSettled (StandsFor user [] 0) now) → (IsTrue middle.observable → middle.files.root ≡ []) → IsMade name user before now
made name user before middle now attaches steady stays same still stands settled missing = record {
  attached = attached_on name [] before middle now attaches stays same;
  missing = λ told. ap (λ (f : Files). f.root) (sym (attaches.files told)) ∙ missing (told_on before middle attaches.stays told);
  stands = λ told. stands (told_on before middle attaches.stays told);
  settled = λ told. settled (told_on before middle attaches.stays told);
  steady = still ∙ steady;
}

-- ---- a database is opened

-- attached or refused, and no more
pub untouched_still : (name mail : List ℕ) (done : Bool) (before now : Seen) → Attaches name mail done before now → IsUntouched before now
untouched_still name mail done before now attaches = record {
  files = attaches.files;
  moments = λ told. rests_on (IsImage before) name mail done before now now told attaches (λ image is. is) (nothing_more (IsImage before) now (images_before name mail done before now told attaches));
}

pub untouched_refused : (name mail : List ℕ) (before now : Seen) → Attaches name mail false before now → IsUntouched before now
untouched_refused name mail before now attaches = untouched_still name mail false before now attaches

pub untouched_on : (name mail : List ℕ) (before middle now : Seen) → Attaches name mail true before middle → (IsTrue middle.observable → now.files ≡ middle.files)
    → (IsTrue middle.observable → RestsThroughout (IsImage middle) middle now) → IsUntouched before now
untouched_on name mail before middle now attaches same rests = record {
  files = λ told. same (told_on before middle attaches.stays told) ∙ attaches.files told;
  moments = λ told. images_on name mail before middle now told attaches (rests (told_on before middle attaches.stays told));
}

-- the histories of a value whose log is in force, of files that stood before
pub history_of : (before now : Seen) (view : View) → now.files ≡ before.files → HasLogInForce view now → HasHistory view before now
history_of before now view same has = record {
  each = λ publisher es stood. has.each publisher es stood.base (subst (λ (f : Files). StandsFor publisher es stood.base f) (sym same) stood.stands);
  in_force = has;
}

pub opened : (name mail : List ℕ) (before middle now : Seen) (view : View) → Attaches name mail true before middle → middle.disk_faults ≡ before.disk_faults → DiskStays middle now → AttachesStay middle now → now.disk_faults ≡ middle.disk_faults
    → (IsTrue middle.observable → now.files ≡ middle.files) → (IsTrue middle.observable → RestsThroughout (IsImage middle) middle now) → (IsTrue middle.observable → HasLogInForce view now)
    → IsOpened name mail view before now
opened name mail before middle now view attaches steady stays alone still same rests has =
    let told_there : IsTrue before.observable → IsTrue middle.observable = told_on before middle attaches.stays in
    record {
      attached = attached_on name mail before middle now attaches stays alone;
      steady = still ∙ steady;
      no_mail = disk_stays_on before middle now attaches.stays stays;
      history = λ told. history_of before now view (same (told_there told) ∙ attaches.files told) (has (told_there told));
      untouched = untouched_on name mail before middle now attaches same rests;
    }

-- without more steps
pub guarded_still : (name mail : List ℕ) (user : Name) (before now : Seen) → Attaches name mail true before now → IsGuarded user before now
guarded_still name mail user before now attaches = record {
  new = λ told settled. rests_on (IsNoneOrNew user) name mail true before now now told attaches settled (nothing_more (IsNoneOrNew user) now (settled_on (IsNoneOrNew user) name mail true before now told attaches settled));
  there = λ told settled. rests_on (IsImage before) name mail true before now now told attaches (λ image is. is) (nothing_more (IsImage before) now (images_before name mail true before now told attaches));
}

-- what was attached once stays so
pub tried_more : (name mail : List ℕ) (before middle now : Seen) → DiskStays before middle → IsAttached name mail before middle → Grows middle.happened now.happened → AttachesStay middle now → IsAttachTried name mail before now
tried_more name mail before middle now first attached_there grows same =
    inl (λ told. record { first = grows (attached name mail true ∷ before.happened) (attached_there told).first; once = same (told_on before middle first told) ∙ (attached_there told).once })

pub ruleset attaching = (tried_refused, tried_still)

-- ---- without mail

pub attaches_alone : (name mail : List ℕ) (done : Bool) (before now : Seen) → mail ≡ [] → Attaches name mail done before now → Attaches name [] done before now
attaches_alone name mail done before now is attaches = subst (λ (m : List ℕ). Attaches name m done before now) is attaches

pub tried_alone : (name mail : List ℕ) (before now : Seen) → mail ≡ [] → IsAttachTried name mail before now → IsAttachTried name [] before now
tried_alone name mail before now is tried = subst (λ (m : List ℕ). IsAttachTried name m before now) is tried
