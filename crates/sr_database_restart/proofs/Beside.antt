-- Calls on one file, and what they leave of the others.
use Rattle.std.proofs.Common.{◌≡◌, ◌≢◌, true, false, List, [], ◌∷◌, ◌++◌, ℕ, ◌∙◌, subst}
use Rattle.sr_database_meaning.proofs.Resting.{rests_end}
use Rattle.sr_logfile_carry.proofs.Files.{stays}
use Rattle.sr_logfile_carry.specs.Inner.Touching.{AreOn, HappenedOn}
use Rattle.sr_site.proofs.Images.{with_same}
use Rattle.sr_site.proofs.Others.{others_on, others_but}
use Rattle.sr_site.specs.Files.{Files, bytes_of, OthersStay}
use Rattle.sr_site.specs.Happenings.{Happening, Throughout, attached, wrote, cut_to, synced, listed, fetched, sent, removed, handed_over}
use Rattle.sr_site.specs.Images.{MayLeave, IsSettled, KeepsOthers, RestsThroughout}
use Rattle.sr_site.specs.Inner.Growing.{throughout_each}
use Rattle.sr_site.specs.Seen.{Seen}
use Rattle.sr_site.specs.declared.file.File.{File}

module _ (file : File) (before : Seen) where
  step_on : (f : File) (old image : Files) → f ≡ file → OthersStay f old image → KeepsOthers file before old → KeepsOthers file before image
  step_on f old image is others kept =
      record { old = kept.old; stood = kept.stood; others = others_on file kept.old old image kept.others (subst (λ (h : File). OthersStay h old image) is others) }

  images_on : (more : List Happening) (image : Files) → AreOn file more → MayLeave before.first (more ++ before.happened) image → KeepsOthers file before image
  images_on [] image on there = record { old = image; stood = there; others = with_same image file }
  images_on (attached name folder done ∷ more) image on there = absurd on.0
  images_on (wrote f place bytes done after ∷ more) image on (old, there, others, torn) = step_on f old image on.0 others (images_on more old on.1 there)
  images_on (cut_to f to done after ∷ more) image on (old, there, others, torn) = step_on f old image on.0 others (images_on more old on.1 there)
  images_on (synced f true after ∷ more) image on (old, there, is) = step_on f old image on.0 (others_but f old image after is) (images_on more old on.1 there)
  images_on (synced f false after ∷ more) image on there = images_on more image on.1 there
  images_on (listed address folder listing ∷ more) image on there = absurd on.0
  images_on (fetched address name limit found ∷ more) image on there = absurd on.0
  images_on (sent address name bytes done ∷ more) image on there = absurd on.0
  images_on (removed address name done ∷ more) image on there = absurd on.0
  images_on (handed_over folders noted ∷ more) image on there = absurd on.0

  moments_on : (more : List Happening) → AreOn file more → Throughout (λ moment. (image : Files) → MayLeave before.first moment image → KeepsOthers file before image) before.happened more
  moments_on [] on = λ image there. images_on [] image tt there
  moments_on (step ∷ more) on = (λ image there. images_on (step ∷ more) image on there, moments_on more on.1)

-- at each moment each image is one that stood before, but for this file
pub beside : (file : File) (before now : Seen) → HappenedOn file before.happened now.happened → RestsThroughout (KeepsOthers file before) before now
beside file before now on = record { more = on.more; is = on.is; moments = moments_on file before on.more on.on }

pub rests_each : (P Q : Files → Type 0) (before now : Seen) → ((image : Files) → P image → Q image) → RestsThroughout P before now → RestsThroughout Q before now
rests_each P Q before now each rests =
    record {
      more = rests.more;
      is = rests.is;
      moments = throughout_each (λ moment. (image : Files) → MayLeave before.first moment image → P image) (λ moment. (image : Files) → MayLeave before.first moment image → Q image)
          (λ moment at image there. each image (at image there)) before.happened rests.more rests.moments;
    }

-- the bytes of another file stay settled
pub stays_settled : (file other : File) (bytes : List ℕ) (before now : Seen) → file ≢ other → now.first ≡ before.first → HappenedOn file before.happened now.happened → IsSettled (λ image. bytes_of image other ≡ bytes) before
    → IsSettled (λ image. bytes_of image other ≡ bytes) now
stays_settled file other bytes before now apart first on settled image there =
    let kept = rests_end (KeepsOthers file before) before now first (beside file before now on) image there in
    stays file other kept.old image apart kept.others ∙ settled kept.old kept.stood
