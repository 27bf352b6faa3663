-- Which files a site was asked to change.
use Rattle.std.specs.Prelude.{◌≡◌, ◌≢◌, ⊤, List, [], ◌∷◌, ◌++◌}
use Rattle.sr_site.specs.Happenings.{Happening, attached, wrote, cut_to, synced, listed, fetched, sent, removed, handed_over}
use Rattle.sr_site.specs.declared.file.File.{File}

-- a call of the disk on this file
abbrev pub IsOn : File → Happening → Type 0
IsOn file (attached name folder done) = ⊥
IsOn file (wrote f place bytes done after) = f ≡ file
IsOn file (cut_to f to done after) = f ≡ file
IsOn file (synced f done after) = f ≡ file
IsOn file (listed address folder listing) = ⊥
IsOn file (fetched address name limit found) = ⊥
IsOn file (sent address name bytes done) = ⊥
IsOn file (removed address name done) = ⊥
IsOn file (handed_over folders noted) = ⊥

abbrev pub AreOn : File → List Happening → Type 0
AreOn file [] = ⊤
AreOn file (step ∷ more) = IsOn file step × AreOn file more

-- nothing happened but calls of the disk on this file
pub record HappenedOn (file : File) (before now : List Happening) : Type 0 where
  pub more : List Happening
  pub is : now ≡ more ++ before
  pub on : AreOn file more

-- a call of the disk on another file
abbrev pub IsOff : File → Happening → Type 0
IsOff file (attached name folder done) = ⊥
IsOff file (wrote f place bytes done after) = f ≢ file
IsOff file (cut_to f to done after) = f ≢ file
IsOff file (synced f done after) = f ≢ file
IsOff file (listed address folder listing) = ⊥
IsOff file (fetched address name limit found) = ⊥
IsOff file (sent address name bytes done) = ⊥
IsOff file (removed address name done) = ⊥
IsOff file (handed_over folders noted) = ⊥

abbrev pub AreOff : File → List Happening → Type 0
AreOff file [] = ⊤
AreOff file (step ∷ more) = IsOff file step × AreOff file more

-- nothing happened but calls of the disk on other files
pub record HappenedOff (file : File) (before now : List Happening) : Type 0 where
  pub more : List Happening
  pub is : now ≡ more ++ before
  pub off : AreOff file more
