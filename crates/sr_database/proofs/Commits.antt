-- What a commit makes of a database.
use Rattle.std.proofs.Common.{◌≡◌, ◌≢◌, ◌⊎◌, inl, inr, ℕ, ◌+◌, ◌≤◌, ◌<◌, ◌^◌, List, [], ◌∷◌, ◌++◌, length, refl, sym, ◌∙◌, ap, subst, arith, append_assoc}
use Rattle.std.proofs.lemmas.Bool.{cases_lt}
use Rattle.sr_book.specs.Entries.{Name}
use Rattle.sr_exec_dml.specs.FittingChanges.{ChangesFit}
use Rattle.sr_database_history.specs.Fitting.{FitsState, Fits, Stored}
use Rattle.sr_database_history.specs.Folds.{State, state_of, size, end_of}
use Rattle.sr_database_history.specs.Recorded.{Recorded, own, taken, ddl, sync, pass, note}
use Rattle.sr_database_history.proofs.Joined.{end_from-append}
use Rattle.sr_database_replay.proofs.Records.{bodies_more}
use Rattle.sr_logfile.specs.Inner.Logs.{IsLog}
use Rattle.sr_logfile.specs.Inner.Moments.{HasOrLacks, IsAsRead}
use Rattle.sr_logfile.specs.Records.{HasHeader, Spells, body_of}
use Rattle.sr_logfile.proofs.Uniqueness.{has_header}
use Rattle.sr_logform.specs.Entries.{entry_spelling, IsEntry}
use Rattle.sr_logform.specs.Limits.{longest_body}
use Rattle.sr_logform.specs.declared.change.Change.{Change}
use Rattle.sr_logform.specs.declared.entry.Entry.{Entry}
use Rattle.sr_rows.specs.Marks.{Marked}
use Rattle.sr_catalog_schema.specs.Catalogs.{Lists}
use Rattle.sr_site.specs.Causes.{DiskStays}
use Rattle.sr_site.specs.Files.{Files, bytes_of, OthersStay}
use Rattle.sr_site.specs.Images.{IsImage, IsSettled, RestsThroughout}
use Rattle.sr_site.specs.Seen.{Seen}
use Rattle.sr_site.specs.declared.file.File.{File}
use Rattle.sr_site.specs.declared.file.File.TheVariants.{Root}
use Rattle.sr_database_meaning.specs.Generations.{Generation, even, odd, snapshot_of, log_of, generation_in}
use Rattle.sr_database_meaning.specs.Bases.{HasBase, KeepsBase}
use Rattle.sr_database_meaning.specs.Events.{commit}
use Rattle.sr_database_meaning.specs.Standing.{body, bodies, IsSnapshotAt, StandsAs}
use Rattle.sr_database_meaning.specs.Traces.{Went}
use Rattle.sr_database_meaning.proofs.Going.{one_commit}
use Rattle.sr_database_meaning.proofs.Resting.{rests_end}
use Rattle.sr_database_meaning.proofs.Standing.{one_generation, one_part, size_is, ends_are}
use Rattle.sr_database_files.proofs.Damaged.{same_base}
use Rattle.sr_database.specs.Commits.{framed_size, HasRoom}
use Rattle.sr_database.specs.Inner.Commits.{MayFollow, CanCommit}
use Rattle.sr_database.specs.Databases.{ArePending, IsOf, IsHeld, IsDatabase}
use Rattle.sr_database.specs.Inner.Taking.{at_last_commit}
use Rattle.sr_database_files.specs.Inner.Touching.{HappenedOn}
use Rattle.sr_database.specs.Views.{View, committed}
use Rattle.sr_database_files.proofs.Attaches.{on_attaches}
use Rattle.sr_database_files.proofs.Beside.{IsBeside, beside, rests_each, rests_both}
use Rattle.sr_database_files.proofs.Images.{stays}

-- ---- the state

pub committed_is : (view : View) (publisher : Name) (es : List Recorded) → IsOf view publisher es → committed view ≡ state_of publisher es
committed_is view publisher es is = λ i. record { catalog = is.catalog i; rows = is.marked i }

-- an entry that may follow fits
pub fits_state : (catalog : Lists) (rows : Marked) (pending : List Change) (r : Recorded) → ArePending catalog rows pending → MayFollow (at_last_commit catalog rows) pending r → FitsState (at_last_commit catalog rows) r
unfolding FitsState
fits_state catalog rows pending (own changes) are may = subst (λ (cs : List Change). ChangesFit catalog rows.marked cs) (sym may) are.fit
fits_state catalog rows pending (taken user at dones) are may = may.1
fits_state catalog rows pending (ddl statement) are may = may.1
fits_state catalog rows pending (sync user tables) are may = may.1
fits_state catalog rows pending (pass users only statement changes) are may = may.1
fits_state catalog rows pending (note user what) are may = may.1

pub not_below : (m n : ℕ) → ¬ (m < n) → n ≤ m
not_below m n never = elim (cases_lt m n) [ inl below ↦ absurd (never below) | inr le ↦ le ]

-- an entry that may follow, keeps its limits and has room may stand there
pub may_stand_on : (view : View) (entry : Entry) (r : Recorded) → ArePending view.catalog view.rows view.pending → CanCommit view entry r → IsEntry entry → HasRoom view.log entry → Fits (committed view) view.log.end r
may_stand_on view entry r are can spelled room =
    record {
      meant = can.meant;
      spelled = subst IsEntry (sym can.is) spelled;
      short = subst (λ (e : Entry). size r ≤ longest_body e) (sym can.is) short;
      ends = ends;
      state = fits_state view.catalog view.rows view.pending r are can.follows;
    }
  where
    sized : size r ≡ length (entry_spelling entry)
    sized = size_is r ∙ ap (λ (e : Entry). length (entry_spelling e)) can.is

    short : size r ≤ longest_body entry
    short = omega (arith, sized, not_below (longest_body entry) (length (entry_spelling entry)) room.short)

    ends : view.log.end + (size r + 5) ≤ 2 ^ 62
    ends = omega (arith, sized, not_below (2 ^ 62) (view.log.end + framed_size entry) (λ past. room.room (inr past)))

pub may_stand : (view : View) (publisher : Name) (es : List Recorded) (entry : Entry) (r : Recorded) → IsOf view publisher es → CanCommit view entry r → IsEntry entry → HasRoom view.log entry → Fits (state_of publisher es) (end_of es) r
may_stand view publisher es entry r is can spelled room =
    subst (λ (s : State). Fits s (end_of es) r) (committed_is view publisher es is) (subst (λ (n : ℕ). Fits (committed view) n r) is.end (may_stand_on view entry r is.pending can spelled room))

-- ---- the files

-- the history is parted at the base in one way, in whatever files
one_log : (view : View) (publisher : Name) (es : List Recorded) (files other : Files) → (h : IsHeld view publisher es files) → (k : IsHeld view publisher es other) → (h.stands.done ≡ k.stands.done) × (h.stands.left ≡ k.stands.left)
one_log view publisher es files other h k =
    one_part 0 h.stands.done h.stands.left k.stands.done k.stands.left (sym h.stands.parts ∙ k.stands.parts) (sym h.stands.base_is ∙ k.stands.base_is)

-- the log of the value
pub log_of_held : (view : View) (publisher : Name) (es : List Recorded) (files : Files) → IsOf view publisher es → (h : IsHeld view publisher es files) → IsLog view.log (bodies h.stands.left) files
log_of_held view publisher es files is h =
    let s = h.stands in
    record {
      spells = subst (λ (f : File). Spells view.log.base (bodies s.left) (bytes_of files f)) h.log_is s.log;
      end_is = omega (arith, is.end, ap end_of s.parts, end_from-append 0 s.done s.left, s.base_is, ends_are (end_of s.done) s.left);
    }

-- it is that in every image
pub log_settled : (view : View) (publisher : Name) (es : List Recorded) (seen : Seen) → (database : IsDatabase view publisher es seen) → IsSettled (IsLog view.log (bodies database.held.stands.left)) seen
log_settled view publisher es seen database image there =
    let h = database.settled image there in
    subst (λ (l : List Recorded). IsLog view.log (bodies l) image) (one_log view publisher es image seen.files h database.held).1 (log_of_held view publisher es image database.is h)

-- what is spelled has a header, and the files have one base
headed : (base : ℕ) (all : List (List ℕ)) (bytes : List ℕ) → Spells base all bytes → HasHeader base bytes
headed base all bytes s = has_header base all s.gate bytes s.rest (let le : base ≤ 2 ^ 62 = let limit = s.limit in omega arith in le) s.bytes_are

based_once : (view : View) (publisher : Name) (es : List Recorded) (files : Files) (base : ℕ) → IsHeld view publisher es files → HasBase base files → view.log.base ≡ base
based_once view publisher es files base h has =
    let s = h.stands in
    let one = one_generation files has.generation s.generation has.root s.root in
    same_base base view.log.base (bytes_of files (log_of s.generation)) (subst (λ (g : Generation). HasHeader base (bytes_of files (log_of g))) one has.header)
    (headed view.log.base (bodies s.left) (bytes_of files (log_of s.generation)) s.log)

-- a log is no root and no snapshot
pub log_not_root : (g : Generation) → log_of g ≢ Root
log_not_root even e = cc
log_not_root odd e = cc

pub log_not_snapshot : (g : Generation) → log_of g ≢ snapshot_of g
log_not_snapshot even e = cc
log_not_snapshot odd e = cc

-- what holds of a log's file where another history is in it, with the same entries before the base
held_log : (old new : View) (publisher : Name) (es fs left : List Recorded) (was image : Files) → (h : IsHeld old publisher es was) → OthersStay old.log.file was image → new.log.file ≡ old.log.file → new.log.base ≡ old.log.base
    → Stored publisher fs → fs ≡ h.stands.done ++ left → Spells new.log.base (bodies left) (bytes_of image new.log.file) → IsHeld new publisher fs image
held_log old new publisher es fs left was image h others file base stored parts spells =
    let s = h.stands in
    let its : new.log.file ≡ log_of s.generation = file ∙ sym h.log_is in
    let stay : OthersStay (log_of s.generation) was image = subst (λ (f : File). OthersStay f was image) (sym h.log_is) others in
    record {
      stands = record {
        generation = s.generation;
        root = ap generation_in (stays (log_of s.generation) Root was image (log_not_root s.generation) stay) ∙ s.root;
        name = s.name;
        stored = stored;
        done = s.done;
        left = left;
        parts = parts;
        base_is = base ∙ s.base_is;
        snapshot = subst (λ (l : List ℕ). IsSnapshotAt publisher s.done l) (sym (stays (log_of s.generation) (snapshot_of s.generation) was image (log_not_snapshot s.generation) stay)) s.snapshot;
        log = subst (λ (f : File). Spells new.log.base (bodies left) (bytes_of image f)) its spells;
      };
      log_is = sym its;
    }

module _ (old new : View) (publisher : Name) (es : List Recorded) (r : Recorded) (framed : List ℕ) (before now : Seen) (database : IsDatabase old publisher es before) (file : new.log.file ≡ old.log.file) (base : new.log.base ≡ old.log.base)
    (more : Stored publisher (es ++ r ∷ [])) (framed_is : body_of framed ≡ body r) where
  -- the entries in the log
  abbrev left : List Recorded
  left = database.held.stands.left

  one_body : bodies left ++ body_of framed ∷ [] ≡ bodies (left ++ r ∷ [])
  one_body = ap (λ (b : List ℕ). bodies left ++ b ∷ []) framed_is ∙ sym (bodies_more left r)

  parts_of : (files : Files) → (h : IsHeld old publisher es files) → es ≡ h.stands.done ++ left
  parts_of files h = h.stands.parts ∙ ap (λ (l : List Recorded). h.stands.done ++ l) (one_log old publisher es files before.files h database.held).1

  longer_parts : (files : Files) → (h : IsHeld old publisher es files) → es ++ r ∷ [] ≡ h.stands.done ++ (left ++ r ∷ [])
  longer_parts files h = ap (λ (l : List Recorded). l ++ r ∷ []) (parts_of files h) ∙ append_assoc h.stands.done left (r ∷ [])

  -- an image has the history before or the longer one
  has_or_lacks : (image : Files) → HasOrLacks old.log (bodies left) framed image × IsBeside old.log.file before.first before.happened image → IsHeld new publisher es image ⊎ IsHeld new publisher (es ++ r ∷ []) image
  has_or_lacks image both = by_log both.0
    where
      was : IsHeld old publisher es both.1.old
      was = database.settled both.1.old both.1.there

      by_log : HasOrLacks old.log (bodies left) framed image → IsHeld new publisher es image ⊎ IsHeld new publisher (es ++ r ∷ []) image
      by_log (inl lacks) = inl (held_log old new publisher es es left both.1.old image was both.1.others file base database.is.stored (parts_of both.1.old was)
          (subst (λ (f : File). Spells new.log.base (bodies left) (bytes_of image f)) (sym file) (subst (λ (b : ℕ). Spells b (bodies left) (bytes_of image old.log.file)) (sym base) lacks.spells)))
      by_log (inr has) = inr (held_log old new publisher es (es ++ r ∷ []) (left ++ r ∷ []) both.1.old image was both.1.others file base more (longer_parts both.1.old was)
          (subst (λ (f : File). Spells new.log.base (bodies (left ++ r ∷ [])) (bytes_of image f)) (sym file) (subst (λ (b : ℕ). Spells b (bodies (left ++ r ∷ [])) (bytes_of image old.log.file)) (sym base)
          (subst (λ (l : List (List ℕ)). Spells old.log.base l (bytes_of image old.log.file)) one_body has.spells))))

  pub held_moments : RestsThroughout (HasOrLacks old.log (bodies left) framed) before now → HappenedOn old.log.file before.happened now.happened → RestsThroughout (λ image. IsHeld new publisher es image ⊎ IsHeld new publisher (es ++ r ∷ []) image) before now
  held_moments rests on =
      rests_each (λ image. HasOrLacks old.log (bodies left) framed image × IsBeside old.log.file before.first before.happened image) (λ image. IsHeld new publisher es image ⊎ IsHeld new publisher (es ++ r ∷ []) image) before now
      has_or_lacks (rests_both (HasOrLacks old.log (bodies left) framed) (IsBeside old.log.file before.first before.happened) before now rests (beside old.log.file before now on))

  -- the base: that of every file that a crash may have left before
  keeps_base : RestsThroughout (HasOrLacks old.log (bodies left) framed) before now → HappenedOn old.log.file before.happened now.happened → KeepsBase before now
  keeps_base rests on base stood =
      rests_each (λ image. HasOrLacks old.log (bodies left) framed image × IsBeside old.log.file before.first before.happened image) (HasBase base) before now
      (λ image both. by_log image both.1 both.0) (rests_both (HasOrLacks old.log (bodies left) framed) (IsBeside old.log.file before.first before.happened) before now rests (beside old.log.file before now on))
    where
      has_base : (all : List (List ℕ)) (image : Files) → IsBeside old.log.file before.first before.happened image → Spells old.log.base all (bytes_of image old.log.file) → HasBase base image
      has_base all image was spells =
          let h = database.settled was.old was.there in
          let g : Generation = h.stands.generation in
          let stay : OthersStay (log_of g) was.old image = subst (λ (f : File). OthersStay f was.old image) (sym h.log_is) was.others in
          record {
            generation = g;
            root = ap generation_in (stays (log_of g) Root was.old image (log_not_root g) stay) ∙ h.stands.root;
            header = subst (λ (b : ℕ). HasHeader b (bytes_of image (log_of g))) (based_once old publisher es was.old base h (stood was.old was.there))
                (subst (λ (f : File). HasHeader old.log.base (bytes_of image f)) (sym h.log_is) (headed old.log.base all (bytes_of image old.log.file) spells));
          }

      by_log : (image : Files) → IsBeside old.log.file before.first before.happened image → HasOrLacks old.log (bodies left) framed image → HasBase base image
      by_log image was (inl lacks) = has_base (bodies left) image was lacks.spells
      by_log image was (inr has) = has_base (bodies left ++ body_of framed ∷ []) image was has.spells

  -- the trace
  stands_as : (fs : List Recorded) (image : Files) → IsHeld new publisher fs image → StandsAs publisher fs image
  stands_as fs image h = record { base = new.log.base; stands = h.stands }

  stands_before : (image : Files) → IsHeld old publisher es image → StandsAs publisher es image
  stands_before image h = record { base = old.log.base; stands = h.stands }

  pub went : RestsThroughout (HasOrLacks old.log (bodies left) framed) before now → HappenedOn old.log.file before.happened now.happened → DiskStays before now → ¬ (now.happened ≡ before.happened) → Went before now publisher es (commit r ∷ [])
  went rests on stay some =
      one_commit before now publisher es r stay.observable stay.first (λ image there. stands_before image (database.settled image there))
      stay.mail (on_attaches old.log.file before.happened now.happened on) some
      (rests_each (λ image. IsHeld new publisher es image ⊎ IsHeld new publisher (es ++ r ∷ []) image) (λ image. StandsAs publisher es image ⊎ StandsAs publisher (es ++ r ∷ []) image) before now
      (λ image either. either_stands image either) (held_moments rests on))
      (keeps_base rests on)
    where
      either_stands : (image : Files) → IsHeld new publisher es image ⊎ IsHeld new publisher (es ++ r ∷ []) image → StandsAs publisher es image ⊎ StandsAs publisher (es ++ r ∷ []) image
      either_stands image (inl h) = inl (stands_as es image h)
      either_stands image (inr h) = inr (stands_as (es ++ r ∷ []) image h)

  -- the database behind it: as it is read, and in every image, since the log's file is as it is read
  pub database_after : IsOf new publisher (es ++ r ∷ []) → OthersStay old.log.file before.files now.files → IsLog new.log (bodies left ++ body_of framed ∷ []) now.files → IsSettled (IsAsRead old.log.file now) now
      → now.first ≡ before.first → HappenedOn old.log.file before.happened now.happened → IsDatabase new publisher (es ++ r ∷ []) now
  database_after is others log read first on =
      record {
        is = is;
        held = at_files before.files now.files database.held others refl;
        settled = λ image there. at_image image there;
      }
    where
      at_files : (was image : Files) → IsHeld old publisher es was → OthersStay old.log.file was image → bytes_of image old.log.file ≡ bytes_of now.files old.log.file → IsHeld new publisher (es ++ r ∷ []) image
      at_files was image h stay same = held_log old new publisher es (es ++ r ∷ []) (left ++ r ∷ []) was image h stay file base more (longer_parts was h)
          (subst (λ (f : File). Spells new.log.base (bodies (left ++ r ∷ [])) (bytes_of image f)) (sym file)
          (subst (λ (l : List ℕ). Spells new.log.base (bodies (left ++ r ∷ [])) l) (sym same)
          (subst (λ (f : File). Spells new.log.base (bodies (left ++ r ∷ [])) (bytes_of now.files f)) file
          (subst (λ (l : List (List ℕ)). Spells new.log.base l (bytes_of now.files new.log.file)) one_body log.spells))))

      at_image : (image : Files) → IsImage now image → IsHeld new publisher (es ++ r ∷ []) image
      at_image image there =
          let was = rests_end (IsBeside old.log.file before.first before.happened) before now first (beside old.log.file before now on) image there in
          at_files was.old image (database.settled was.old was.there) was.others (read image there)
