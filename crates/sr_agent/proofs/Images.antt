-- Every site has an image: a crash leaves some files.
use Rattle.std.proofs.Common.{◌≡◌, ℕ, true, false, List, [], ◌∷◌, length, refl, arith}
use Rattle.sr_site.specs.Files.{Files, bytes_of, with_bytes, IsTorn, IsCutInPart}
use Rattle.sr_site.specs.Happenings.{Happening, attached, wrote, cut_to, synced, listed, fetched, sent, removed, handed_over}
use Rattle.sr_site.specs.Images.{MayLeave}
use Rattle.sr_site.specs.declared.file.File.{File}
use Rattle.sr_site.specs.declared.file.File.TheVariants.{Root, Log0, Log1, Snap0, Snap1}

same_file : (file : File) (files : Files) → files ≡ with_bytes files file (bytes_of files file)
same_file Root files = refl
same_file Log0 files = refl
same_file Log1 files = refl
same_file Snap0 files = refl
same_file Snap1 files = refl

torn_same : (place count : ℕ) (bytes : List ℕ) → IsTorn place count bytes bytes
torn_same place count bytes = record { before = refl; behind = refl; longer = omega arith }

cut_same : (to : ℕ) (bytes : List ℕ) → IsCutInPart to bytes bytes
cut_same to bytes = record { before = refl; least = omega arith; most = omega arith }

pub some_image : (first : Files) (happened : List Happening) → (image : Files) × MayLeave first happened image
some_image first [] = (first, refl)
some_image first (attached name folder done ∷ before) = some_image first before
some_image first (wrote file place bytes done after ∷ before) =
    let old = some_image first before in
    (old.0, (old.0, old.1, same_file file old.0, torn_same place (length bytes) (bytes_of old.0 file)))
some_image first (cut_to file to done after ∷ before) =
    let old = some_image first before in
    (old.0, (old.0, old.1, same_file file old.0, cut_same to (bytes_of old.0 file)))
some_image first (synced file true after ∷ before) =
    let old = some_image first before in
    (with_bytes old.0 file after, (old.0, old.1, refl))
some_image first (synced file false after ∷ before) = some_image first before
some_image first (listed address folder listing ∷ before) = some_image first before
some_image first (fetched address name limit found ∷ before) = some_image first before
some_image first (sent address name bytes done ∷ before) = some_image first before
some_image first (removed address name done ∷ before) = some_image first before
some_image first (handed_over folders noted ∷ before) = some_image first before
