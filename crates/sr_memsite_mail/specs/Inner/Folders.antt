-- The mail folders in memory: files by their folder and name.
-- Here is what no contract of the program says by itself.
use Rattle.std.specs.Prelude.{ℕ, Bool, true, false, not, ◌&&◌, List, Option, Some, None, map, filter}
use Rattle.std.specs.Ordering.{nat_cmp, is_eq}
use Rattle.std.specs.Cmp.Lexicographic.{slice_cmp}
use Rattle.std.specs.Map.{set_value}
use Rattle.std.specs.BTreeMap.{is_at}
use Rattle.sr_memsite_mail.specs.StoredFile.{StoredFile}
use Rattle.sr_memsite_mail.specs.declared.place.Place.{Place}
use Rattle.sr_memsite_mail.specs.Places.{place_cmp}
use Rattle.sr_memsite_mail.specs.Folders.{Folders, stored_file_at, with_file}

-- the folders with a copy of a file there, if there is such a file
abbrev pub with_copy : Folders → Place → Option StoredFile → Folders
with_copy folders at None = folders
with_copy folders at (Some stored_file) = with_file folders at stored_file.bytes

-- the folders with the file there held back, if there is one
abbrev pub held_if : Folders → Place → Option StoredFile → Folders
held_if folders at None = folders
held_if folders at (Some stored_file) = record folders { files = set_value (is_at (place_cmp at)) folders.files (record stored_file { held = true }) }

abbrev pub held_back : Folders → Place → Folders
held_back folders at = held_if folders at (stored_file_at folders at)

-- a file that is held back no more
abbrev pub let_go : StoredFile → StoredFile
let_go stored_file = record stored_file { held = false }

-- the folders with no file held back
abbrev pub released : Folders → Folders
released folders = record folders { files = map (λ file. (file.0, let_go file.1)) folders.files }

-- the file lies in the folder of this address, and is not held back
abbrev pub is_in : List ℕ → Place × StoredFile → Bool
is_in address file = is_eq (slice_cmp nat_cmp file.0.address address) && not file.1.held

-- the names of the files in a folder that are not held back, in byte order
abbrev pub names_in : List (Place × StoredFile) → List ℕ → List (List ℕ)
names_in files address = map (λ file. file.0.name) (filter (is_in address) files)
