-- What a crash may leave while a log without records is made in a file, and while a file is opened.
use Rattle.std.proofs.Common.{◌≡◌, ◌⊎◌, ◌+◌, ◌-◌, ◌≤◌, ℕ, Bool, true, false, List, [], ◌∷◌, ◌++◌, length, take, inl, inr, refl, sym, ◌∙◌, ap, subst, arith}
use Rattle.std.proofs.lemmas.Bool.{cases_lt}
use Rattle.std.proofs.lemmas.List.{length-drop, append-nil}
use Rattle.std.proofs.Math.Seq.{drop-nil}
use Rattle.sr_site.specs.Inner.Calls.{sync}
use Rattle.sr_site.specs.Files.{Files, bytes_of, overwritten, IsTorn}
use Rattle.sr_site.specs.Happenings.{Happening, wrote, cut_to, synced}
use Rattle.sr_site.specs.Inner.Happenings.{Made}
use Rattle.sr_site.specs.Images.{MayLeave, KeepsOthers, RestsThroughout}
use Rattle.sr_site.specs.Seen.{Seen}
use Rattle.sr_site.specs.declared.file.File.{File}
use Rattle.sr_site.proofs.Images.{with_same}
use Rattle.sr_site.proofs.Others.{others_on, others_but, rests}
use Rattle.sr_logfile.specs.Inner.Moments.{IsPartFresh}
use Rattle.sr_logfile.proofs.Moments.{after_sync}

module _ (file : File) (before : Seen) where
  abbrev at : List Happening → Type 0
  at moment = (image : Files) → MayLeave before.first moment image → IsPartFresh file before image

  begins : at before.happened
  begins image there = record { old = image; stood = there; others = with_same image file; short = inl (omega arith) }

  -- the file was cut to nothing, whether that succeeded or not
  after_cut : (done : Bool) (after : List ℕ) → at (cut_to file 0 done after ∷ before.happened)
  after_cut done after image (old, there, others, part) = record { old = old; stood = there; others = others; short = inl part.most }

  -- the 17 bytes were written
  filled : (bytes : List ℕ) (old middle image : List ℕ) → length bytes ≡ 17 → IsTorn 0 (length bytes) middle image → (length middle ≤ length old) ⊎ (length middle ≤ 17) → (length image ≤ length old) ⊎ (length image ≤ 17)
  filled bytes old middle image long torn short =
      let behind : length image - (0 + length bytes) ≡ length middle - (0 + length bytes) =
      sym (length-drop (0 + length bytes) image) ∙ ap length torn.behind ∙ length-drop (0 + length bytes) middle in
      let longer = torn.longer in
      elim short [
        | inl fits ↦ by_length (length middle) (length image) fits longer behind
        | inr fits ↦ inr (omega (arith, long, behind, fits, longer))
      ]
    where
      by_length : (m n : ℕ) → m ≤ length old → m ≤ n → n - (0 + length bytes) ≡ m - (0 + length bytes) → (n ≤ length old) ⊎ (n ≤ 17)
      by_length m n fits longer behind = elim (cases_lt 17 n) [
        | inl large ↦ inl (omega (arith, long, behind, fits, longer, large))
        | inr small ↦ inr small
      ]

  after_write : (bytes : List ℕ) (moment : List Happening) (done : Bool) (after : List ℕ) → length bytes ≡ 17 → at moment → at (wrote file 0 bytes done after ∷ moment)
  after_write bytes moment done after long each image (old, there, others, torn) =
      let part = each old there in
      record {
        old = part.old;
        stood = part.stood;
        others = others_on file part.old old image part.others others;
        short = filled bytes (bytes_of part.old file) (bytes_of old file) (bytes_of image file) long torn part.short;
      }

  after_last : (moment : List Happening) (done : Bool) (read : List ℕ) → length read ≤ 17 → at moment → at (synced file done read ∷ moment)
  after_last moment true read short each image (old, there, same) =
      let part = each old there in
      let is = after_sync before.first image moment file read (old, there, same) in
      record {
        old = part.old;
        stood = part.stood;
        others = others_on file part.old old image part.others (others_but file old image read same);
        short = inr (subst (λ (l : List ℕ). length l ≤ 17) (sym is) short);
      }
  after_last moment false read short each image there = each image there

  module _ (now : Seen) where
    pub fresh_1 : (done : Bool) (after : List ℕ) → now.happened ≡ cut_to file 0 done after ∷ before.happened → RestsThroughout (IsPartFresh file before) before now
    fresh_1 done after is = record { more = cut_to file 0 done after ∷ []; is = is; moments = (after_cut done after, begins) }

    pub fresh_2 : (h1 : List Happening) (bytes : List ℕ) (done done2 : Bool) (after after2 : List ℕ) → length bytes ≡ 17 → h1 ≡ cut_to file 0 done after ∷ before.happened → now.happened ≡ wrote file 0 bytes done2 after2 ∷ h1
        → RestsThroughout (IsPartFresh file before) before now
    fresh_2 h1 bytes done done2 after after2 long is is2 =
        let cut_there = after_cut done after in
        record {
          more = wrote file 0 bytes done2 after2 ∷ cut_to file 0 done after ∷ [];
          is = is2 ∙ ap (λ (h : List Happening). wrote file 0 bytes done2 after2 ∷ h) is;
          moments = (after_write bytes (cut_to file 0 done after ∷ before.happened) done2 after2 long cut_there, (cut_there, begins));
        }

    pub fresh_3 : (h1 h2 : List Happening) (bytes : List ℕ) (done done2 done3 : Bool) (after after2 read : List ℕ) → length bytes ≡ 17 → h1 ≡ cut_to file 0 done after ∷ before.happened → h2 ≡ wrote file 0 bytes done2 after2 ∷ h1
        → now.happened ≡ synced file done3 read ∷ h2 → length read ≤ 17 → RestsThroughout (IsPartFresh file before) before now
    fresh_3 h1 h2 bytes done done2 done3 after after2 read long is is2 is3 short =
        let cut_there = after_cut done after in
        let cut = cut_to file 0 done after ∷ before.happened in
        let write_there = after_write bytes cut done2 after2 long cut_there in
        record {
          more = synced file done3 read ∷ wrote file 0 bytes done2 after2 ∷ cut_to file 0 done after ∷ [];
          is = is3 ∙ ap (λ (h : List Happening). synced file done3 read ∷ h) (is2 ∙ ap (λ (h : List Happening). wrote file 0 bytes done2 after2 ∷ h) is);
          moments = (after_last (wrote file 0 bytes done2 after2 ∷ cut) done3 read short write_there, (write_there, (cut_there, begins)));
        }

    -- one sync alone
    pub opened : (done : Bool) (read : List ℕ) → now.happened ≡ synced file done read ∷ before.happened → RestsThroughout (KeepsOthers file before) before now
    opened done read is = rests file before (sync file ∷ []) now done (refl, tt) (made done is)
      where
        made : (done : Bool) → now.happened ≡ synced file done read ∷ before.happened → Made (sync file ∷ []) before.happened now.happened done
        made true is = (read, inr (is, refl))
        made false is = (read, inl (is, refl))

-- the 17 bytes over a file that was cut to nothing
pub length_filled : (bytes old : List ℕ) → length bytes ≡ 17 → length (overwritten (take 0 old) 0 bytes) ≡ 17
length_filled bytes old long = ap (λ (l : List ℕ). length (bytes ++ l)) (drop-nil (0 + length bytes)) ∙ ap (λ (l : List ℕ). length l) (append-nil bytes) ∙ long
