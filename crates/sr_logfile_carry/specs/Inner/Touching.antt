-- Calls of the disk on one file.
-- Here is what no contract of the program says by itself.
use Rattle.std.specs.Prelude.{◌≡◌, ⊤, List, [], ◌∷◌, ◌++◌, IsTrue}
use Rattle.sr_site.specs.Causes.{DiskStays}
use Rattle.sr_site.specs.Files.{OthersStay}
use Rattle.sr_site.specs.Happenings.{Happening, attached, wrote, cut_to, synced, listed, fetched, sent, removed, handed_over}
use Rattle.sr_site.specs.Seen.{Seen}
use Rattle.sr_site.specs.declared.file.File.{File}

-- a call of the disk on this file
abbrev pub IsOn : File → Happening → Type 0
IsOn file (attached name folder done) = ⊥
IsOn file (wrote f place bytes done after) = f ≡ file
IsOn file (cut_to f to done after) = f ≡ file
IsOn file (synced f done after) = f ≡ file
IsOn file (listed address folder listing) = ⊥
IsOn file (fetched address name limit found) = ⊥
IsOn file (sent address name bytes done) = ⊥
IsOn file (removed address name done) = ⊥
IsOn file (handed_over folders noted) = ⊥

abbrev pub AreOn : File → List Happening → Type 0
AreOn file [] = ⊤
AreOn file (step ∷ more) = IsOn file step × AreOn file more

-- nothing happened but calls of the disk on this file
pub record HappenedOn (file : File) (before now : List Happening) : Type 0 where
  pub more : List Happening
  pub is : now ≡ more ++ before
  pub on : AreOn file more

-- so it is where the site tells, and no other file changed; and what every call of the disk leaves
pub record OnlyOn (file : File) (before now : Seen) : Type 0 where
  pub stays : DiskStays before now
  pub on : IsTrue before.observable → HappenedOn file before.happened now.happened
  pub others : IsTrue before.observable → OthersStay file before.files now.files
