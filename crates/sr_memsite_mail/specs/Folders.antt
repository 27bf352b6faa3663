-- The mail folders in memory: files by their folder and name.
use Rattle.std.specs.Prelude.{ℕ, false, cond, is_some, List, [], ◌∷◌, ◌++◌, Option, Some, None}
use Rattle.std.specs.Map.{lookup, remove_entry}
use Rattle.std.specs.BTreeMap.{is_at, insert_entry}
use Rattle.sr_memsite_mail.specs.StoredFile.{StoredFile}
use Rattle.sr_memsite_mail.specs.declared.place.Place.{Place}
use Rattle.sr_memsite_mail.specs.Places.{place_cmp}

-- the message files of all folders in the order of their places, and every put so far, the oldest first: its address and its name
pub record Folders : Type 0 where
  pub files : List (Place × StoredFile)
  pub puts : List (List ℕ × List ℕ)

-- the file of a name in the folder of an address
abbrev pub place : List ℕ → List ℕ → Place
place address name = record { address = address; name = name }

-- the folders without the file there
abbrev pub without_file : Folders → Place → Folders
without_file folders at = record folders { files = remove_entry (is_at (place_cmp at)) folders.files }

-- the file there, held back or not
abbrev pub stored_file_at : Folders → Place → Option StoredFile
stored_file_at folders at = lookup (is_at (place_cmp at)) folders.files

-- the bytes of a file, if it is there and not held back
abbrev pub shown : Option StoredFile → Option (List ℕ)
shown None = None
shown (Some stored_file) = cond stored_file.held None (Some stored_file.bytes)

-- what a call of the mail finds there
abbrev pub file_at : Folders → Place → Option (List ℕ)
file_at folders at = shown (stored_file_at folders at)

-- a file of these bytes, not held back
abbrev pub laid : List ℕ → StoredFile
laid bytes = record { bytes = bytes; held = false }

-- the folders with a file of these bytes there, in place of one that was there, held back or not
abbrev pub with_file : Folders → Place → List ℕ → Folders
with_file folders at bytes = record folders { files = insert_entry place_cmp folders.files at (laid bytes) }

-- the folders after a put: the file is there, and the put is noted
abbrev pub after_put : Folders → Place → List ℕ → Folders
after_put folders at bytes = record (with_file folders at bytes) { puts = folders.puts ++ (at.address, at.name) ∷ [] }

-- the folders after a removal: a file that is held back stays, since to the mail it is not there
abbrev pub after_remove : Folders → Place → Folders
after_remove folders at = cond (is_some (file_at folders at)) (without_file folders at) folders

-- the files that are not held back, in the order of their places: each address, name and bytes
abbrev pub files_shown : List (Place × StoredFile) → List (List ℕ × List ℕ × List ℕ)
files_shown [] = []
files_shown (file ∷ files) = cond file.1.held (files_shown files) ((file.0.address, file.0.name, file.1.bytes) ∷ files_shown files)
