-- The files as they stand, by what happened: always one of the things that a crash may leave.
use Rattle.std.proofs.Common.{◌≡◌, ◌≤◌, ℕ, Bool, true, false, Option, Result, List, [], ◌∷◌, length, take, refl, sym, ◌∙◌, ap}
use Rattle.sr_site.specs.Files.{Files, bytes_of, with_bytes, overwritten}
use Rattle.sr_site.specs.Happenings.{Happening, attached, wrote, cut_to, synced, listed, fetched, sent, removed, handed_over}
use Rattle.sr_site.specs.Images.{MayLeave}
use Rattle.sr_site.specs.declared.file.File.{File}
use Rattle.sr_site.specs.declared.file.File.TheVariants.{Root, Log0, Log1, Snap0, Snap1}
use Rattle.sr_site.specs.declared.mail.Listing.{Listing}
use Rattle.sr_site.specs.declared.mail.MailFault.{MailFault}
use Rattle.sr_memsite_disk.specs.Changes.{Unsynced, unsynced_of}
use Rattle.sr_memsite_disk.specs.Picks.{crash_of, standing}
use Rattle.sr_memsite_disk.specs.Stores.{Stores}
use Rattle.sr_memsite_disk.specs.Inner.Stores.{store_of, files_of, AreBacked}
use Rattle.sr_memsite_disk.proofs.Backing.{whole_after_write, whole_after_cut}
use Rattle.sr_memsite_disk.proofs.Leaving.{picked}

pub standing_at : (first : Files) (happened : List Happening) (file : File) → bytes_of (standing first happened) file ≡ (crash_of 1 (unsynced_of file first happened)).file
unfolding standing
standing_at first happened Root = refl
standing_at first happened Log0 = refl
standing_at first happened Log1 = refl
standing_at first happened Snap0 = refl
standing_at first happened Snap1 = refl

pub standing_is_image : (first : Files) (happened : List Happening) → MayLeave first happened (standing first happened)
standing_is_image first happened = picked first (standing first happened) happened (λ file. (1, standing_at first happened file))

-- files that are backed stand so
pub told : (stores : Stores) (first : Files) (happened : List Happening) → AreBacked stores first happened → files_of stores ≡ standing first happened
unfolding standing
told stores first happened backed = λ k. record { root = there Root k; log0 = there Log0 k; log1 = there Log1 k; snap0 = there Snap0 k; snap1 = there Snap1 k }
  where
    there : (file : File) → (store_of stores file).bytes ≡ (crash_of 1 (unsynced_of file first happened)).file
    there file = sym (backed file).whole ∙ ap (λ (u : Unsynced). (crash_of 1 u).file) (backed file).same

pub standing_first : (first : Files) → standing first [] ≡ first
unfolding standing
standing_first first = refl

module _ (first : Files) (before : List Happening) where
  -- what changes no file
  pub standing_attached : (name folder : List ℕ) (done : Bool) → standing first (attached name folder done ∷ before) ≡ standing first before
  unfolding standing
  standing_attached name folder done = refl

  pub standing_listed : (address : List ℕ) (folder : List (List ℕ)) (listing : Result Listing MailFault) → standing first (listed address folder listing ∷ before) ≡ standing first before
  unfolding standing
  standing_listed address folder listing = refl

  pub standing_fetched : (address name : List ℕ) (limit : ℕ) (found : Result (Option (List ℕ)) MailFault) → standing first (fetched address name limit found ∷ before) ≡ standing first before
  unfolding standing
  standing_fetched address name limit found = refl

  pub standing_sent : (address name bytes : List ℕ) (done : Bool) → standing first (sent address name bytes done ∷ before) ≡ standing first before
  unfolding standing
  standing_sent address name bytes done = refl

  pub standing_removed : (address name : List ℕ) (done : Bool) → standing first (removed address name done ∷ before) ≡ standing first before
  unfolding standing
  standing_removed address name done = refl

  pub standing_handed_over : (folders : List (List ℕ × List ℕ × List ℕ)) (noted : List (List ℕ × List ℕ)) → standing first (handed_over folders noted ∷ before) ≡ standing first before
  unfolding standing
  standing_handed_over folders noted = refl

  pub standing_write_failed : (file : File) (place : ℕ) (bytes after : List ℕ) → standing first (wrote file place bytes false after ∷ before) ≡ standing first before
  unfolding standing
  standing_write_failed file place bytes after = refl

  pub standing_cut_failed : (file : File) (to : ℕ) (after : List ℕ) → standing first (cut_to file to false after ∷ before) ≡ standing first before
  unfolding standing
  standing_cut_failed file to after = refl

  pub standing_sync_failed : (file : File) (after : List ℕ) → standing first (synced file false after ∷ before) ≡ standing first before
  unfolding standing
  standing_sync_failed file after = refl

  -- what changes one
  pub standing_write : (file : File) (place : ℕ) (bytes after : List ℕ) → place ≤ length (bytes_of (standing first before) file) → standing first (wrote file place bytes true after ∷ before) ≡ with_bytes (standing first before) file (overwritten (bytes_of (standing first before) file) place bytes)
  unfolding standing
  standing_write Root place bytes after within = ap (λ (new : List ℕ). with_bytes (standing first before) Root new) (whole_after_write (unsynced_of Root first before) place bytes (crash_of 1 (unsynced_of Root first before)).file refl within)
  standing_write Log0 place bytes after within = ap (λ (new : List ℕ). with_bytes (standing first before) Log0 new) (whole_after_write (unsynced_of Log0 first before) place bytes (crash_of 1 (unsynced_of Log0 first before)).file refl within)
  standing_write Log1 place bytes after within = ap (λ (new : List ℕ). with_bytes (standing first before) Log1 new) (whole_after_write (unsynced_of Log1 first before) place bytes (crash_of 1 (unsynced_of Log1 first before)).file refl within)
  standing_write Snap0 place bytes after within = ap (λ (new : List ℕ). with_bytes (standing first before) Snap0 new) (whole_after_write (unsynced_of Snap0 first before) place bytes (crash_of 1 (unsynced_of Snap0 first before)).file refl within)
  standing_write Snap1 place bytes after within = ap (λ (new : List ℕ). with_bytes (standing first before) Snap1 new) (whole_after_write (unsynced_of Snap1 first before) place bytes (crash_of 1 (unsynced_of Snap1 first before)).file refl within)

  pub standing_cut : (file : File) (to : ℕ) (after : List ℕ) → to ≤ length (bytes_of (standing first before) file) → standing first (cut_to file to true after ∷ before) ≡ with_bytes (standing first before) file (take to (bytes_of (standing first before) file))
  unfolding standing
  standing_cut Root to after within = ap (λ (new : List ℕ). with_bytes (standing first before) Root new) (whole_after_cut (unsynced_of Root first before) to (crash_of 1 (unsynced_of Root first before)).file refl within)
  standing_cut Log0 to after within = ap (λ (new : List ℕ). with_bytes (standing first before) Log0 new) (whole_after_cut (unsynced_of Log0 first before) to (crash_of 1 (unsynced_of Log0 first before)).file refl within)
  standing_cut Log1 to after within = ap (λ (new : List ℕ). with_bytes (standing first before) Log1 new) (whole_after_cut (unsynced_of Log1 first before) to (crash_of 1 (unsynced_of Log1 first before)).file refl within)
  standing_cut Snap0 to after within = ap (λ (new : List ℕ). with_bytes (standing first before) Snap0 new) (whole_after_cut (unsynced_of Snap0 first before) to (crash_of 1 (unsynced_of Snap0 first before)).file refl within)
  standing_cut Snap1 to after within = ap (λ (new : List ℕ). with_bytes (standing first before) Snap1 new) (whole_after_cut (unsynced_of Snap1 first before) to (crash_of 1 (unsynced_of Snap1 first before)).file refl within)

  pub standing_sync : (file : File) (after : List ℕ) → standing first (synced file true after ∷ before) ≡ with_bytes (standing first before) file after
  unfolding standing
  standing_sync Root after = refl
  standing_sync Log0 after = refl
  standing_sync Log1 after = refl
  standing_sync Snap0 after = refl
  standing_sync Snap1 after = refl

-- what leaves the files as they stand
pub ruleset quiet = (standing_attached, standing_listed, standing_fetched, standing_sent, standing_removed, standing_handed_over)
