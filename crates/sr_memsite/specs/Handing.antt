-- What lies in the folders that a site in memory stands over, by what happened since they were handed to it.
use Rattle.std.specs.Prelude.{◌≡◌, ⊤, true, false, List, [], ◌∷◌, Ok, Err, take}
use Rattle.std.specs.Option.{option_map}
use Rattle.sr_site.specs.Happenings.{Happening, attached, wrote, cut_to, synced, listed, fetched, sent, removed, handed_over}
use Rattle.sr_memsite_mail.specs.Folders.{Folders, place, file_at, after_put, after_remove, files_shown}
use Rattle.sr_memsite.specs.Disks.{Disk}

-- what a site says that is handed these folders
abbrev pub handing : Folders → Happening
handing folders = handed_over (files_shown folders.files) folders.puts

-- a disk at which this was said
abbrev pub handed : Disk → Folders → Disk
handed disk folders = record disk { happened = handing folders ∷ disk.happened }

-- the folders are those that were handed over, with what was put into them and removed from them since. Before any were nothing is said of them
abbrev pub AreAsHappened : List Happening → Folders → Type 0
AreAsHappened [] folders = ⊤
AreAsHappened (attached name folder done ∷ before) folders = AreAsHappened before folders
AreAsHappened (wrote file place bytes done after ∷ before) folders = AreAsHappened before folders
AreAsHappened (cut_to file to done after ∷ before) folders = AreAsHappened before folders
AreAsHappened (synced file done after ∷ before) folders = AreAsHappened before folders
AreAsHappened (listed address names listing ∷ before) folders = AreAsHappened before folders
AreAsHappened (fetched address name limit found ∷ before) folders = AreAsHappened before folders
AreAsHappened (sent address name bytes true ∷ before) folders = (old : Folders) × AreAsHappened before old × (folders ≡ after_put old (place address name) bytes)
AreAsHappened (sent address name bytes false ∷ before) folders = AreAsHappened before folders
AreAsHappened (removed address name true ∷ before) folders = (old : Folders) × AreAsHappened before old × (folders ≡ after_remove old (place address name))
AreAsHappened (removed address name false ∷ before) folders = AreAsHappened before folders
AreAsHappened (handed_over files noted ∷ before) folders = (files_shown folders.files ≡ files) × (folders.puts ≡ noted)

-- what was fetched since then lay there
abbrev pub IsTruthful : List Happening → Type 0
IsTruthful [] = ⊤
IsTruthful (attached name folder done ∷ before) = IsTruthful before
IsTruthful (wrote file place bytes done after ∷ before) = IsTruthful before
IsTruthful (cut_to file to done after ∷ before) = IsTruthful before
IsTruthful (synced file done after ∷ before) = IsTruthful before
IsTruthful (listed address names listing ∷ before) = IsTruthful before
IsTruthful (fetched address name limit (Ok came) ∷ before) =
    ((folders : Folders) × AreAsHappened before folders × (came ≡ option_map (take limit) (file_at folders (place address name)))) × IsTruthful before
IsTruthful (fetched address name limit (Err fault) ∷ before) = IsTruthful before
IsTruthful (sent address name bytes done ∷ before) = IsTruthful before
IsTruthful (removed address name done ∷ before) = IsTruthful before
IsTruthful (handed_over files noted ∷ before) = ⊤
