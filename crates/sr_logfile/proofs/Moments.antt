-- What a crash may leave while a commit puts a record behind a gate.
use Rattle.std.proofs.Common.{◌≡◌, ◌⊎◌, ◌+◌, ◌≤◌, ◌^◌, ℕ, Bool, true, false, List, [], ◌∷◌, ◌++◌, length, inl, inr, refl, sym, ◌∙◌, ap, subst, arith}
use Rattle.sr_site.specs.Files.{Files, bytes_of, overwritten}
use Rattle.sr_site.specs.Happenings.{Happening, wrote, synced}
use Rattle.sr_site.specs.Images.{MayLeave, IsImage, IsSettled, RestsThroughout}
use Rattle.sr_site.specs.Inner.Growing.{throughout_each}
use Rattle.sr_site.specs.Seen.{Seen}
use Rattle.sr_site.specs.declared.file.File.{File}
use Rattle.sr_logfile.specs.Log.{Log}
use Rattle.sr_logfile.specs.Logs.{gate_of}
use Rattle.sr_logfile.specs.Inner.Logs.{IsLog}
use Rattle.sr_logfile.specs.Inner.Moments.{HasOrLacks, IsAsRead, IsPartPut}
use Rattle.sr_logfile.specs.Records.{open_records, body_of, IsFramed}
use Rattle.sr_logfile.proofs.Appends.{first_torn, first_written, second_torn, second_part, nothing_put}
use Rattle.sr_site.proofs.Images.{bytes_of-with_bytes}
use Rattle.sr_logfile.proofs.Commits.{part_committed, length-framed}
use Rattle.sr_logfile.proofs.Records.{length-push}

-- after a sync that succeeded the file is as it was read
pub after_sync : (first image : Files) (before : List Happening) (file : File) (after : List ℕ) → MayLeave first (synced file true after ∷ before) image → bytes_of image file ≡ after
after_sync first image before file after (old, there, is) = ap (λ (files : Files). bytes_of files file) is ∙ bytes_of-with_bytes old file after

pub settles : (file : File) (seen before : Seen) (done : Bool) (bytes : List ℕ) → seen.happened ≡ synced file done bytes ∷ before.happened → done ≡ true → bytes ≡ bytes_of seen.files file → IsSettled (IsAsRead file seen) seen
settles file seen before done bytes is did read image there =
    let told : seen.happened ≡ synced file true bytes ∷ before.happened = is ∙ ap (λ (b : Bool). synced file b bytes ∷ before.happened) did in
    after_sync seen.first image before.happened file bytes (subst (λ (h : List Happening). MayLeave seen.first h image) told there) ∙ read

module _ (gate : ℕ) (framed : List ℕ) (file : File) (before : Seen) where
  abbrev holds : Files → Type 0
  holds image = IsPartPut gate framed file before image

  -- at every image of a moment
  abbrev at : List Happening → Type 0
  at moment = (image : Files) → MayLeave before.first moment image → holds image

  begins : at before.happened
  begins image there = record { old = image; stood = inl there; part = nothing_put gate framed (bytes_of image file) }

  -- the record was written behind the gate, whether that succeeded or not
  after_first : (done : Bool) (after : List ℕ) → at (wrote file (gate + 1) framed done after ∷ before.happened)
  after_first done after image (old, there, others, torn) = record { old = old; stood = inl there; part = first_torn gate framed (bytes_of old file) (bytes_of image file) torn }

  -- it was synced: the file is as it was read
  after_first_sync : (moment : List Happening) (read : List ℕ) → read ≡ overwritten (bytes_of before.files file) (gate + 1) framed → at (synced file true read ∷ moment)
  after_first_sync moment read is image there =
      let same = after_sync before.first image moment file read there in
      record { old = before.files; stood = inr refl; part = first_written gate framed (bytes_of before.files file) (bytes_of image file) (same ∙ is) }

  after_gate : (moment : List Happening) (read : List ℕ) (done : Bool) (after : List ℕ) → read ≡ overwritten (bytes_of before.files file) (gate + 1) framed → at (wrote file gate (1 ∷ []) done after ∷ synced file true read ∷ moment)
  after_gate moment read done after is image (old, there, others, torn) =
      let same = after_sync before.first old moment file read there in
      record { old = before.files; stood = inr refl; part = second_torn gate framed (bytes_of before.files file) (bytes_of old file) (bytes_of image file) (same ∙ is) torn }

  after_second_sync : (moment : List Happening) (middle read : List ℕ) → middle ≡ overwritten (bytes_of before.files file) (gate + 1) framed → read ≡ overwritten middle gate (1 ∷ []) → at (synced file true read ∷ moment)
  after_second_sync moment middle read is is2 image there =
      let same = after_sync before.first image moment file read there in
      record { old = before.files; stood = inr refl; part = second_part gate framed (bytes_of before.files file) middle (bytes_of image file) is (same ∙ is2) }

  module _ (now : Seen) where
    pub moments_1 : (done : Bool) (after : List ℕ) → now.happened ≡ wrote file (gate + 1) framed done after ∷ before.happened → RestsThroughout holds before now
    moments_1 done after is = record { more = wrote file (gate + 1) framed done after ∷ []; is = is; moments = (after_first done after, begins) }

    -- where the sync failed, the images are those before it
    pub moments_2 : (h1 : List Happening) (done done2 : Bool) (after read : List ℕ) → h1 ≡ wrote file (gate + 1) framed done after ∷ before.happened → now.happened ≡ synced file done2 read ∷ h1 → done2 ≡ false → RestsThroughout holds before now
    moments_2 h1 done done2 after read is told failed =
        let is2 : now.happened ≡ synced file false read ∷ h1 = told ∙ ap (λ (b : Bool). synced file b read ∷ h1) failed in
        record { more = synced file false read ∷ wrote file (gate + 1) framed done after ∷ []; is = is2 ∙ ap (λ (h : List Happening). synced file false read ∷ h) is; moments = (after_first done after, (after_first done after, begins)) }

    pub moments_3 : (h1 h2 : List Happening) (done done2 done3 : Bool) (after read after3 : List ℕ) → h1 ≡ wrote file (gate + 1) framed done after ∷ before.happened → h2 ≡ synced file done2 read ∷ h1 → done2 ≡ true → now.happened ≡ wrote file gate (1 ∷ []) done3 after3 ∷ h2
        → read ≡ overwritten (bytes_of before.files file) (gate + 1) framed → RestsThroughout holds before now
    moments_3 h1 h2 done done2 done3 after read after3 is told did is3 same =
        let is2 : h2 ≡ synced file true read ∷ h1 = told ∙ ap (λ (b : Bool). synced file b read ∷ h1) did in
        record {
          more = wrote file gate (1 ∷ []) done3 after3 ∷ synced file true read ∷ wrote file (gate + 1) framed done after ∷ [];
          is = is3 ∙ ap (λ (h : List Happening). wrote file gate (1 ∷ []) done3 after3 ∷ h) is2 ∙ ap (λ (h : List Happening). wrote file gate (1 ∷ []) done3 after3 ∷ synced file true read ∷ h) is;
          moments = (after_gate (wrote file (gate + 1) framed done after ∷ before.happened) read done3 after3 same, (after_first_sync (wrote file (gate + 1) framed done after ∷ before.happened) read same, (after_first done after, begins)));
        }

    pub moments_4 : (h1 h2 h3 : List Happening) (done done2 done3 done4 : Bool) (after read after3 read4 : List ℕ) → h1 ≡ wrote file (gate + 1) framed done after ∷ before.happened → h2 ≡ synced file done2 read ∷ h1 → done2 ≡ true
        → h3 ≡ wrote file gate (1 ∷ []) done3 after3 ∷ h2 → now.happened ≡ synced file done4 read4 ∷ h3
        → read ≡ overwritten (bytes_of before.files file) (gate + 1) framed → read4 ≡ overwritten read gate (1 ∷ []) → RestsThroughout holds before now
    moments_4 h1 h2 h3 done done2 done3 done4 after read after3 read4 is told did is3 is4 same same4 =
        let is2 : h2 ≡ synced file true read ∷ h1 = told ∙ ap (λ (b : Bool). synced file b read ∷ h1) did in
        let h1' = wrote file (gate + 1) framed done after ∷ before.happened in
        record {
          more = synced file done4 read4 ∷ wrote file gate (1 ∷ []) done3 after3 ∷ synced file true read ∷ wrote file (gate + 1) framed done after ∷ [];
          is = is4 ∙ ap (λ (h : List Happening). synced file done4 read4 ∷ h) (is3 ∙ ap (λ (h : List Happening). wrote file gate (1 ∷ []) done3 after3 ∷ h) (is2 ∙ ap (λ (h : List Happening). synced file true read ∷ h) is));
          moments = (last done4, (after_gate h1' read done3 after3 same, (after_first_sync h1' read same, (after_first done after, begins))));
        }
      where
        last : (done4 : Bool) → at (synced file done4 read4 ∷ wrote file gate (1 ∷ []) done3 after3 ∷ synced file true read ∷ wrote file (gate + 1) framed done after ∷ before.happened)
        last true = after_second_sync (wrote file gate (1 ∷ []) done3 after3 ∷ synced file true read ∷ wrote file (gate + 1) framed done after ∷ before.happened) read read4 same same4
        last false = after_gate (wrote file (gate + 1) framed done after ∷ before.happened) read done3 after3 same

-- the records of each image are those before, or those and the new one
module _ (log : Log) (bodies : List (List ℕ)) (framed : List ℕ) (before now : Seen) (is : IsFramed framed) (room : log.end + length framed ≤ 2 ^ 62) (log_is : IsLog log bodies before.files) (settled : IsSettled (IsLog log bodies) before) where
  either : (image : Files) → IsPartPut (gate_of log) framed log.file before image → HasOrLacks log bodies framed image
  either image put = elim (part_committed log put.old image framed is room put.part bodies (stood put.stood)) [
    | inl lacks ↦ inl (record { spells = lacks; end_is = log_is.end_is })
    | inr has ↦ inr (record { spells = has; end_is = longer_is })
  ]
    where
      stood : IsImage before put.old ⊎ (put.old ≡ before.files) → IsLog log bodies put.old
      stood (inl there) = settled put.old there
      stood (inr same) = subst (λ (files : Files). IsLog log bodies files) (sym same) log_is

      longer_is : log.end + length framed ≡ log.base + length (open_records (bodies ++ body_of framed ∷ []))
      longer_is = omega (arith, log_is.end_is, length-push bodies (body_of framed), length-framed framed is)

  pub has_or_lacks : RestsThroughout (IsPartPut (gate_of log) framed log.file before) before now → RestsThroughout (HasOrLacks log bodies framed) before now
  has_or_lacks rests =
      record {
        more = rests.more;
        is = rests.is;
        moments = throughout_each (λ moment. (image : Files) → MayLeave before.first moment image → IsPartPut (gate_of log) framed log.file before image)
            (λ moment. (image : Files) → MayLeave before.first moment image → HasOrLacks log bodies framed image)
            (λ moment at image there. either image (at image there)) before.happened rests.more rests.moments;
      }
