-- What a crash may leave of files.
use Rattle.std.specs.Prelude.{◌≡◌, true, false, List, [], ◌∷◌, ◌++◌, length}
use Rattle.sr_site.specs.Files.{Files, bytes_of, with_bytes, OthersStay, IsTorn, IsCutInPart}
use Rattle.sr_site.specs.Happenings.{Happening, Throughout, attached, wrote, cut_to, synced, listed, fetched, sent, removed, handed_over}
use Rattle.sr_site.specs.Seen.{Seen}
use Rattle.sr_site.specs.declared.file.File.{File}

-- what a crash may leave of the files that stood at first, after what happened: a write or a cut may be there in part, whether it succeeded
-- or not, until a sync of its file succeeds; from then on that file is as a read gave it
abbrev pub MayLeave : Files → List Happening → Files → Type 0
MayLeave first [] image = image ≡ first
MayLeave first (attached name folder done ∷ before) image = MayLeave first before image
MayLeave first (wrote file place bytes done after ∷ before) image =
    (old : Files) × MayLeave first before old × OthersStay file old image × IsTorn place (length bytes) (bytes_of old file) (bytes_of image file)
MayLeave first (cut_to file to done after ∷ before) image =
    (old : Files) × MayLeave first before old × OthersStay file old image × IsCutInPart to (bytes_of old file) (bytes_of image file)
MayLeave first (synced file true after ∷ before) image = (old : Files) × MayLeave first before old × (image ≡ with_bytes old file after)
MayLeave first (synced file false after ∷ before) image = MayLeave first before image
MayLeave first (listed address folder listing ∷ before) image = MayLeave first before image
MayLeave first (fetched address name limit found ∷ before) image = MayLeave first before image
MayLeave first (sent address name bytes done ∷ before) image = MayLeave first before image
MayLeave first (removed address name done ∷ before) image = MayLeave first before image
MayLeave first (handed_over folders noted ∷ before) image = MayLeave first before image

-- an image of the site: what a crash may leave at this moment
abbrev pub IsImage : Seen → Files → Type 0
IsImage seen image = MayLeave seen.first seen.happened image

-- every crash leaves files for which this holds
abbrev pub IsSettled : (Files → Type 0) → Seen → Type 0
IsSettled holds seen = (image : Files) → IsImage seen image → holds image

-- from the one moment to the other every crash leaves files for which this holds
pub record RestsThroughout (holds : Files → Type 0) (old new : Seen) : Type 0 where
  pub more : List Happening
  pub is : new.happened ≡ more ++ old.happened
  pub moments : Throughout (λ moment. (image : Files) → MayLeave old.first moment image → holds image) old.happened more

-- in all files but one it is as a crash might have left it then
pub record KeepsOthers (file : File) (then : Seen) (image : Files) : Type 0 where
  pub old : Files
  pub stood : IsImage then old
  pub others : OthersStay file old image
