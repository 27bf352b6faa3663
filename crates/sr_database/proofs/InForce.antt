-- The log that is in force: where the files hold a history, where nothing happens to them, and behind a commit.
use Rattle.std.proofs.Common.{◌≡◌, ℕ, List, [], sym, ◌∙◌, ap, subst}
use Rattle.sr_book.specs.Entries.{Name}
use Rattle.sr_database_history.specs.Recorded.{Recorded}
use Rattle.sr_logfile.specs.Inner.Logs.{HasLog, IsLog}
use Rattle.sr_logfile.specs.Inner.Moments.{IsAsRead}
use Rattle.sr_logfile.specs.Log.{Log}
use Rattle.sr_logfile.specs.Records.{Spells}
use Rattle.sr_site.specs.Files.{Files, bytes_of, OthersStay}
use Rattle.sr_site.specs.Images.{MayLeave, IsImage, IsSettled}
use Rattle.sr_site.specs.Seen.{Seen}
use Rattle.sr_site.specs.declared.file.File.{File}
use Rattle.sr_site.specs.declared.file.File.TheVariants.{Root}
use Rattle.sr_database_meaning.specs.Generations.{Generation, log_of, generation_in}
use Rattle.sr_database_meaning.specs.Standing.{bodies, StandsFor}
use Rattle.sr_database_meaning.proofs.Resting.{rests_end}
use Rattle.sr_database_files.specs.Inner.Touching.{HappenedOn}
use Rattle.sr_database_files.proofs.Beside.{IsBeside, beside}
use Rattle.sr_database_files.proofs.Images.{stays}
use Rattle.sr_database.specs.Advances.{Advances}
use Rattle.sr_database.specs.Databases.{IsOf, IsHeld, IsDatabase, HasDatabase}
use Rattle.sr_database.specs.InForce.{IsInForce, HasLogInForce}
use Rattle.sr_database.specs.Views.{View}
use Rattle.sr_database.proofs.Advancing.{advanced_still, none_advanced}
use Rattle.sr_database.proofs.Alike.{database_by_files}
use Rattle.sr_database.proofs.Commits.{log_of_held, log_not_root}

-- its file holds some bodies
pub has_log : (log : Log) (files : Files) → IsInForce log files → HasLog log files
has_log log files is = record { bodies = is.bodies; is_log = record { spells = is.spells; end_is = is.end_is } }

-- ---- the files hold a history

held_in_force : (view : View) (publisher : Name) (es : List Recorded) (files : Files) → IsOf view publisher es → IsHeld view publisher es files → IsInForce view.log files
held_in_force view publisher es files is h =
    let log : IsLog view.log (bodies h.stands.left) files = log_of_held view publisher es files is h in
    record {
      generation = h.stands.generation;
      root = h.stands.root;
      log_is = h.log_is;
      bodies = bodies h.stands.left;
      spells = log.spells;
      end_is = log.end_is;
    }

pub in_force_of : (view : View) (publisher : Name) (es : List Recorded) (seen : Seen) → IsDatabase view publisher es seen → HasLogInForce view seen
in_force_of view publisher es seen database =
    record {
      now = held_in_force view publisher es seen.files database.is database.held;
      settled = λ image there. held_in_force view publisher es image database.is (database.settled image there);
      each = λ other others place stands. database_by_files view publisher other es others place seen database stands;
    }

pub in_force : (view : View) (seen : Seen) → HasDatabase view seen → HasLogInForce view seen
in_force view seen has = in_force_of view has.publisher has.es seen has.is

-- ---- nothing happens to the files

held_still : (old new : View) (publisher : Name) (es : List Recorded) (files : Files) → new.log ≡ old.log → IsHeld old publisher es files → IsHeld new publisher es files
held_still old new publisher es files same held =
    subst (λ (l : Log). IsHeld (record new { log = l }) publisher es files) (sym same) (record { stands = held.stands; log_is = held.log_is })

module _ (old new : View) (before now : Seen) (log : new.log ≡ old.log) (on : Advances old new []) (files : now.files ≡ before.files) (images : (image : Files) → IsImage now image → IsImage before image) where
  pub database_still : (publisher : Name) (es : List Recorded) → IsDatabase old publisher es before → IsDatabase new publisher es now
  database_still publisher es database =
      record {
        is = advanced_still old new publisher es on database.is;
        held = held_still old new publisher es now.files log (subst (λ (f : Files). IsHeld old publisher es f) (sym files) database.held);
        settled = λ image there. held_still old new publisher es image log (database.settled image (images image there));
      }

  -- a value with the same log and no entry more, and files of which a crash leaves no others than before
  pub in_force_still : HasLogInForce old before → HasLogInForce new now
  in_force_still has =
      record {
        now = subst (λ (l : Log). IsInForce l now.files) (sym log) (subst (λ (f : Files). IsInForce old.log f) (sym files) has.now);
        settled = λ image there. subst (λ (l : Log). IsInForce l image) (sym log) (has.settled image (images image there));
        each = λ publisher es base stands. database_still publisher es (has.each publisher es base (subst (λ (f : Files). StandsFor publisher es base f) files stands));
      }

pub in_force_stays : (view : View) (before now : Seen) → now.first ≡ before.first → now.files ≡ before.files → now.happened ≡ before.happened → HasLogInForce view before → HasLogInForce view now
in_force_stays view before now first files happened has =
    in_force_still view view before now (λ i. view.log) (none_advanced view) files
    (λ image there. subst (λ h. MayLeave before.first h image) happened (subst (λ (f : Files). MayLeave f now.happened image) first there)) has

-- ---- behind a commit

module _ (old new : View) (before now : Seen) (file : new.log.file ≡ old.log.file) (longer : HasLog new.log now.files) where
  at_files : (was image : Files) → IsInForce old.log was → OthersStay old.log.file was image → bytes_of image old.log.file ≡ bytes_of now.files old.log.file → IsInForce new.log image
  at_files was image has others same =
      let g : Generation = has.generation in
      let stay : OthersStay (log_of g) was image = subst (λ (f : File). OthersStay f was image) (sym has.log_is) others in
      record {
        generation = g;
        root = ap generation_in (stays (log_of g) Root was image (log_not_root g) stay) ∙ has.root;
        log_is = has.log_is ∙ sym file;
        bodies = longer.bodies;
        spells = subst (λ (f : File). Spells new.log.base longer.bodies (bytes_of image f)) (sym file)
            (subst (λ (l : List ℕ). Spells new.log.base longer.bodies l) (sym same)
            (subst (λ (f : File). Spells new.log.base longer.bodies (bytes_of now.files f)) file longer.is_log.spells));
        end_is = longer.is_log.end_is;
      }

  pub in_force_after : HasLogInForce old before → OthersStay old.log.file before.files now.files → IsSettled (IsAsRead old.log.file now) now → now.first ≡ before.first → HappenedOn old.log.file before.happened now.happened
      → ((publisher : Name) (es : List Recorded) (base : ℕ) → StandsFor publisher es base now.files → IsDatabase new publisher es now) → HasLogInForce new now
  in_force_after has others read first on each =
      record {
        now = at_files before.files now.files has.now others (λ i. bytes_of now.files old.log.file);
        settled = λ image there.
            let was = rests_end (IsBeside old.log.file before.first before.happened) before now first (beside old.log.file before now on) image there in
            at_files was.old image (has.settled was.old was.there) was.others (read image there);
        each = each;
      }
