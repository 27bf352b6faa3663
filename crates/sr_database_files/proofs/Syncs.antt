-- Syncs change no file and no image.
use Rattle.std.proofs.Common.{◌≡◌, inl, inr, ℕ, ◌+◌, Bool, true, false, List, [], ◌∷◌, ◌++◌, refl, sym, ◌∙◌, ap, subst, append_assoc}
use Rattle.sr_logfile.specs.Inner.Moments.{IsAsRead}
use Rattle.sr_site.specs.Files.{Files, bytes_of, with_bytes}
use Rattle.sr_site.specs.Happenings.{Happening, Throughout, attached, wrote, cut_to, synced, listed, fetched, sent, removed, handed_over}
use Rattle.sr_site.specs.Images.{MayLeave, IsImage, IsSettled, RestsThroughout}
use Rattle.sr_site.specs.Seen.{Seen}
use Rattle.sr_site.specs.declared.file.File.{File}
use Rattle.sr_database_files.specs.Inner.Openings.{AreSyncs, OnlySynced}
use Rattle.sr_database_files.proofs.Images.{same_or_not, its_bytes, other_bytes, mixed}

are_syncs_more : (files : Files) (later more : List Happening) → AreSyncs files later → AreSyncs files more → AreSyncs files (later ++ more)
are_syncs_more files [] more one other = other
are_syncs_more files (attached name folder done ∷ later) more one other = absurd one
are_syncs_more files (wrote file place bytes done after ∷ later) more one other = absurd one
are_syncs_more files (cut_to file to done after ∷ later) more one other = absurd one
are_syncs_more files (synced file done after ∷ later) more one other = (one.0, are_syncs_more files later more one.1 other)
are_syncs_more files (listed address folder listing ∷ later) more one other = absurd one
are_syncs_more files (fetched address name limit found ∷ later) more one other = absurd one
are_syncs_more files (sent address name bytes done ∷ later) more one other = absurd one
are_syncs_more files (removed address name done ∷ later) more one other = absurd one
are_syncs_more files (handed_over folders noted ∷ later) more one other = absurd one

pub synced_on : (before middle now : Seen) → OnlySynced before middle → OnlySynced middle now → OnlySynced before now
synced_on before middle now one other =
    record {
      files = other.files ∙ one.files;
      more = other.more ++ one.more;
      is = other.is ∙ ap (λ (h : List Happening). other.more ++ h) one.is ∙ sym (append_assoc other.more one.more before.happened);
      syncs = are_syncs_more before.files other.more one.more (subst (λ (f : Files). AreSyncs f other.more) one.files other.syncs) one.syncs;
    }

pub one_sync : (file : File) (done : Bool) (before now : Seen) → now.files ≡ before.files → now.happened ≡ synced file done (bytes_of before.files file) ∷ before.happened → OnlySynced before now
one_sync file done before now files is = record { files = files; more = synced file done (bytes_of before.files file) ∷ []; is = is; syncs = (refl, tt) }

pub no_sync : (before now : Seen) → now.files ≡ before.files → now.happened ≡ before.happened → OnlySynced before now
no_sync before now files is = record { files = files; more = []; is = is; syncs = tt }

-- syncs make no image that was none, where what is read is one
module _ (first files : Files) (before : List Happening) (read : MayLeave first before files) where
  syncs_images : (more : List Happening) (image : Files) → AreSyncs files more → MayLeave first (more ++ before) image → MayLeave first before image
  syncs_images [] image syncs there = there
  syncs_images (attached name folder done ∷ more) image syncs there = absurd syncs
  syncs_images (wrote file place bytes done after ∷ more) image syncs there = absurd syncs
  syncs_images (cut_to file to done after ∷ more) image syncs there = absurd syncs
  syncs_images (synced file true after ∷ more) image syncs (old, there, is) =
      subst (λ (x : Files). MayLeave first before x) (sym (is ∙ ap (λ (l : List ℕ). with_bytes old file l) syncs.0)) (mixed file first old files before (syncs_images more old syncs.1 there) read)
  syncs_images (synced file false after ∷ more) image syncs there = syncs_images more image syncs.1 there
  syncs_images (listed address folder listing ∷ more) image syncs there = absurd syncs
  syncs_images (fetched address name limit found ∷ more) image syncs there = absurd syncs
  syncs_images (sent address name bytes done ∷ more) image syncs there = absurd syncs
  syncs_images (removed address name done ∷ more) image syncs there = absurd syncs
  syncs_images (handed_over folders noted ∷ more) image syncs there = absurd syncs

  syncs_moments : (more : List Happening) → AreSyncs files more → Throughout (λ moment. (image : Files) → MayLeave first moment image → MayLeave first before image) before more
  syncs_moments [] syncs = λ image there. there
  syncs_moments (step ∷ more) syncs = (λ image there. syncs_images (step ∷ more) image syncs there, syncs_moments more (tail step more syncs))
    where
      tail : (step : Happening) (more : List Happening) → AreSyncs files (step ∷ more) → AreSyncs files more
      tail (attached name folder done) more syncs = absurd syncs
      tail (wrote file place bytes done after) more syncs = absurd syncs
      tail (cut_to file to done after) more syncs = absurd syncs
      tail (synced file done after) more syncs = syncs.1
      tail (listed address folder listing) more syncs = absurd syncs
      tail (fetched address name limit found) more syncs = absurd syncs
      tail (sent address name bytes done) more syncs = absurd syncs
      tail (removed address name done) more syncs = absurd syncs
      tail (handed_over folders noted) more syncs = absurd syncs

pub synced_moments : (before now : Seen) → OnlySynced before now → IsImage before before.files → RestsThroughout (IsImage before) before now
synced_moments before now only read = record { more = only.more; is = only.is; moments = syncs_moments before.first before.files before.happened read only.more only.syncs }

-- a file that is as it was read stays so
module _ (file : File) (first files : Files) (before : List Happening) (read : (image : Files) → MayLeave first before image → bytes_of image file ≡ bytes_of files file) where
  syncs_keep : (more : List Happening) (image : Files) → AreSyncs files more → MayLeave first (more ++ before) image → bytes_of image file ≡ bytes_of files file
  syncs_keep [] image syncs there = read image there
  syncs_keep (attached name folder done ∷ more) image syncs there = absurd syncs
  syncs_keep (wrote g place bytes done after ∷ more) image syncs there = absurd syncs
  syncs_keep (cut_to g to done after ∷ more) image syncs there = absurd syncs
  syncs_keep (synced g true after ∷ more) image syncs (old, there, is) = elim (same_or_not g file) [
    | inl same ↦ subst (λ (f : File). bytes_of image f ≡ bytes_of files f) same (ap (λ (x : Files). bytes_of x g) is ∙ its_bytes old g after ∙ syncs.0)
    | inr other ↦ ap (λ (x : Files). bytes_of x file) is ∙ other_bytes old g file after other ∙ syncs_keep more old syncs.1 there
  ]
  syncs_keep (synced g false after ∷ more) image syncs there = syncs_keep more image syncs.1 there
  syncs_keep (listed address folder listing ∷ more) image syncs there = absurd syncs
  syncs_keep (fetched address name limit found ∷ more) image syncs there = absurd syncs
  syncs_keep (sent address name bytes done ∷ more) image syncs there = absurd syncs
  syncs_keep (removed address name done ∷ more) image syncs there = absurd syncs
  syncs_keep (handed_over folders noted ∷ more) image syncs there = absurd syncs

pub still_read : (file : File) (before now : Seen) → now.first ≡ before.first → OnlySynced before now → IsSettled (IsAsRead file before) before → IsSettled (IsAsRead file now) now
still_read file before now same only settled image there =
    syncs_keep file before.first before.files before.happened settled only.more image only.syncs
    (subst (λ (h : List Happening). MayLeave before.first h image) only.is (subst (λ (f : Files). MayLeave f now.happened image) same there))
    ∙ ap (λ (f : Files). bytes_of f file) (sym only.files)
