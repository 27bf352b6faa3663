-- The root while a byte is put into its first place.
use Rattle.std.proofs.Common.{◌≡◌, ◌≢◌, ◌⊎◌, inl, inr, Bool, true, false, List, [], ◌∷◌, drop, length-drop, ℕ, refl, sym, ◌∙◌, ap, subst, arith}
use Rattle.sr_database_meaning.proofs.Resting.{rests_end}
use Rattle.sr_database_meaning.specs.Generations.{Generation, even, odd, snapshot_of, log_of, byte_of, named, other_of}
use Rattle.sr_database_restart.proofs.Beside.{rests_each}
use Rattle.sr_database_restart.proofs.Kept.{snapshot_apart, log_apart}
use Rattle.sr_database_restart.specs.Inner.Restarting.{HasBoth, IsRestarted, KeepsInForce, WentOver}
use Rattle.sr_database_restart.specs.Inner.Writing.{HasWritten, IsNamedInPart, named_by}
use Rattle.sr_logfile_carry.proofs.Files.{stays, other_bytes}
use Rattle.sr_site.proofs.Images.{bytes_of-with_bytes, with_same}
use Rattle.sr_site.proofs.Others.{others_on, others_but}
use Rattle.sr_site.specs.Files.{Files, bytes_of, with_bytes, overwritten, IsTorn}
use Rattle.sr_site.specs.Happenings.{Happening, wrote, synced}
use Rattle.sr_site.specs.Images.{MayLeave, IsImage, IsSettled, RestsThroughout}
use Rattle.sr_site.specs.Seen.{Seen}
use Rattle.sr_site.specs.declared.file.File.{File}
use Rattle.sr_site.specs.declared.file.File.TheVariants.{Root}

-- ---- its own moments

not_torn : (bytes : List ℕ) → IsTorn 0 1 bytes bytes
not_torn bytes = record { before = refl; behind = refl; longer = omega arith }

module _ (byte : ℕ) (before : Seen) where
  abbrev at : List Happening → Type 0
  at moment = (image : Files) → MayLeave before.first moment image → IsNamedInPart byte before image

  here : at before.happened
  here image there = record { old = image; stood = there; others = with_same image Root; root = inl (not_torn image.root) }

  written : (done : Bool) (after : List ℕ) → at (wrote Root 0 (byte ∷ []) done after ∷ before.happened)
  written done after image (old, there, others, torn) = record { old = old; stood = there; others = others; root = inl torn }

  kept_named : (done wrote_it : Bool) (after bytes : List ℕ) → after ≡ named_by byte before.files → at (synced Root done after ∷ wrote Root 0 (byte ∷ []) wrote_it bytes ∷ before.happened)
  kept_named true wrote_it after bytes is image (old, there, same) =
      let was = written wrote_it bytes old there in
      record { old = was.old; stood = was.stood; others = others_on Root was.old old image was.others (others_but Root old image after same); root = inr (ap (λ (f : Files). f.root) same ∙ is) }
  kept_named false wrote_it after bytes is image there = written wrote_it bytes image there

  pub moments_wrote : (done : Bool) (after : List ℕ) (now : Seen) → now.happened ≡ wrote Root 0 (byte ∷ []) done after ∷ before.happened → RestsThroughout (IsNamedInPart byte before) before now
  moments_wrote done after now is = record { more = wrote Root 0 (byte ∷ []) done after ∷ []; is = is; moments = (written done after, here) }

  pub moments_synced : (done : Bool) (after bytes : List ℕ) (middle now : Seen) → after ≡ named_by byte before.files → middle.happened ≡ wrote Root 0 (byte ∷ []) true bytes ∷ before.happened
      → now.happened ≡ synced Root done after ∷ middle.happened → RestsThroughout (IsNamedInPart byte before) before now
  moments_synced done after bytes middle now is wrote_it synced_it = record {
    more = synced Root done after ∷ wrote Root 0 (byte ∷ []) true bytes ∷ [];
    is = synced_it ∙ ap (λ (h : List Happening). synced Root done after ∷ h) wrote_it;
    moments = (kept_named done true after bytes is, (written true bytes, here));
  }

  -- what a read gives of the root once it is written
  pub root_read : (now : Seen) → now.files ≡ with_bytes before.files Root (overwritten before.files.root 0 (byte ∷ [])) → now.files.root ≡ named_by byte before.files
  root_read now is = ap (λ (f : Files). f.root) is

-- ---- both generations

pub root_not_snapshot : (generation : Generation) → Root ≢ snapshot_of generation
root_not_snapshot even = λ e. cc
root_not_snapshot odd = λ e. cc

pub root_not_log : (generation : Generation) → Root ≢ log_of generation
root_not_log even = λ e. cc
root_not_log odd = λ e. cc

module _ (generation : Generation) (snapshot log : List ℕ) (before middle now : Seen) (first : middle.first ≡ before.first) (writing : RestsThroughout (KeepsInForce generation before) before middle)
    (wrote_both : HasWritten generation snapshot log before middle) (read : IsImage before before.files) where
  root_stands : middle.files.root ≡ before.files.root
  root_stands =
      let s = snapshot_apart generation in
      let l = log_apart generation in
      ap (λ (f : Files). bytes_of f Root) wrote_both.files
      ∙ other_bytes (with_bytes before.files (snapshot_of (other_of generation)) snapshot) (log_of (other_of generation)) Root log l.root
      ∙ other_bytes before.files (snapshot_of (other_of generation)) Root snapshot s.root

  -- what has a byte in its first place
  torn_from : (byte : ℕ) (root : List ℕ) → IsTorn 0 1 root (byte ∷ drop 1 root)
  torn_from byte root = record { before = refl; behind = refl; longer = omega (arith, length-drop 1 root) }

  module _ (byte : ℕ) (image : Files) (part : IsNamedInPart byte middle image) where
    beside_root : (file : File) → Root ≢ file → bytes_of image file ≡ bytes_of part.old file
    beside_root file apart = stays Root file part.old image apart part.others

    kept : KeepsInForce generation before part.old
    kept = rests_end (KeepsInForce generation before) before middle first writing part.old part.stood

    with_root : (rooted : Files) → IsImage before rooted → IsTorn 0 1 rooted.root image.root → HasBoth generation snapshot log before image
    with_root rooted stood torn =
        let new = wrote_both.settled part.old part.stood in
        record {
          old = kept.old;
          stood = kept.stood;
          parts = record {
            snapshot_is = beside_root (snapshot_of generation) (root_not_snapshot generation) ∙ kept.agrees.snapshot;
            log_is = beside_root (log_of generation) (root_not_log generation) ∙ kept.agrees.log;
          };
          new = record {
            snapshot_is = beside_root (snapshot_of (other_of generation)) (root_not_snapshot (other_of generation)) ∙ new.snapshot_is;
            log_is = beside_root (log_of (other_of generation)) (root_not_log (other_of generation)) ∙ new.log_is;
          };
          rooted = rooted;
          stood_too = stood;
          root = torn;
        }

    by_root : IsTorn 0 1 part.old.root image.root ⊎ (image.root ≡ named_by byte middle.files) → HasBoth generation snapshot log before image
    by_root (inl torn) = with_root kept.old kept.stood (subst (λ (root : List ℕ). IsTorn 0 1 root image.root) kept.agrees.root torn)
    by_root (inr is) = with_root before.files read (subst (λ (root : List ℕ). IsTorn 0 1 before.files.root root) (sym (is ∙ ap (λ (root : List ℕ). byte ∷ drop 1 root) root_stands)) (torn_from byte before.files.root))

  pub naming : (byte : ℕ) (now : Seen) → RestsThroughout (IsNamedInPart byte middle) middle now → RestsThroughout (HasBoth generation snapshot log before) middle now
  naming byte now rests = rests_each (IsNamedInPart byte middle) (HasBoth generation snapshot log before) middle now (λ image part. by_root byte image part part.root) rests

  pub went_over : (byte : ℕ) (now : Seen) → RestsThroughout (IsNamedInPart byte middle) middle now → WentOver generation snapshot log before now
  went_over byte now rests = record { middle = middle; first = first; writing = writing; naming = naming byte now rests }

  -- the root names it, and it is whole
  pub restarted : (byte : ℕ) (now : Seen) → byte ≡ byte_of (other_of generation) → now.first ≡ middle.first → RestsThroughout (IsNamedInPart byte middle) middle now → now.files ≡ with_bytes middle.files Root (named_by byte middle.files)
      → IsSettled (λ image. image.root ≡ named_by byte middle.files) now → IsRestarted generation snapshot log before now
  restarted byte now is then rests files settled =
      let root_is : named_by byte middle.files ≡ named (other_of generation) before.files.root = ap (λ (b : ℕ). b ∷ drop 1 middle.files.root) is ∙ ap (λ (root : List ℕ). byte_of (other_of generation) ∷ drop 1 root) root_stands in
      record {
        files = files ∙ ap (λ (root : List ℕ). with_bytes middle.files Root root) root_is ∙ ap (λ (f : Files). with_bytes f Root (named (other_of generation) before.files.root)) wrote_both.files;
        settled = λ image there. record {
          root_is = settled image there ∙ root_is;
          parts = (rests_end (HasBoth generation snapshot log before) middle now then (naming byte now rests) image there).new;
        };
        went = went_over byte now rests;
      }

-- its log has those bytes
pub new_log : (generation : Generation) (snapshot log : List ℕ) (before now : Seen) → IsRestarted generation snapshot log before now → bytes_of now.files (log_of (other_of generation)) ≡ log
new_log generation snapshot log before now is =
    ap (λ (f : Files). bytes_of f (log_of (other_of generation))) is.files
    ∙ other_bytes (with_bytes (with_bytes before.files (snapshot_of (other_of generation)) snapshot) (log_of (other_of generation)) log) Root (log_of (other_of generation)) (named (other_of generation) before.files.root) (root_not_log (other_of generation))
    ∙ bytes_of-with_bytes (with_bytes before.files (snapshot_of (other_of generation)) snapshot) (log_of (other_of generation)) log
