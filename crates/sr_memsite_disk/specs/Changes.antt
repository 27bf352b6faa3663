-- Changes of a file in memory that are not synced, and what a crash may leave of them.
use Rattle.std.specs.Prelude.{ℕ, Bool, true, false, cond, List, [], ◌∷◌, ◌++◌, Option, Some, None}
use Rattle.sr_site.specs.Files.{Files, bytes_of}
use Rattle.sr_site.specs.Happenings.{Happening, attached, wrote, cut_to, synced, listed, fetched, sent, removed, handed_over}
use Rattle.sr_site.specs.declared.file.File.{File}
use Rattle.sr_site.specs.declared.file.File.TheVariants.{Root, Log0, Log1, Snap0, Snap1}

-- they are one file
abbrev pub same_file : File → File → Bool
same_file Root Root = true
same_file Root Log0 = false
same_file Root Log1 = false
same_file Root Snap0 = false
same_file Root Snap1 = false
same_file Log0 Root = false
same_file Log0 Log0 = true
same_file Log0 Log1 = false
same_file Log0 Snap0 = false
same_file Log0 Snap1 = false
same_file Log1 Root = false
same_file Log1 Log0 = false
same_file Log1 Log1 = true
same_file Log1 Snap0 = false
same_file Log1 Snap1 = false
same_file Snap0 Root = false
same_file Snap0 Log0 = false
same_file Snap0 Log1 = false
same_file Snap0 Snap0 = true
same_file Snap0 Snap1 = false
same_file Snap1 Root = false
same_file Snap1 Log0 = false
same_file Snap1 Log1 = false
same_file Snap1 Snap0 = false
same_file Snap1 Snap1 = true

-- a change of a file: bytes put at a place, or all cut off behind a length
pub data Change : Type 0 where
  write : ℕ → List ℕ → Change
  cut : ℕ → Change

-- a file as its last sync left it, what was changed in it since then, the oldest first, and where it was cut behind the last of these. A cut
-- that another one follows at once counts no more: that one cuts as much
pub record Unsynced : Type 0 where
  pub settled : List ℕ
  pub changes : List Change
  pub last_cut : Option ℕ

-- a file all of which is durable
abbrev pub settled_at : List ℕ → Unsynced
settled_at bytes = record { settled = bytes; changes = []; last_cut = None }

-- the last cut as a change
abbrev pub cuts : Option ℕ → List Change
cuts None = []
cuts (Some to) = cut to ∷ []

-- all changes since the last sync, the oldest first
abbrev pub all_of : Unsynced → List Change
all_of file = file.changes ++ cuts file.last_cut

-- the file after one more write, and after a cut
abbrev pub with_write : Unsynced → ℕ → List ℕ → Unsynced
with_write file place bytes = record file { changes = all_of file ++ write place bytes ∷ []; last_cut = None }

abbrev pub with_cut : Unsynced → ℕ → Unsynced
with_cut file to = record file { last_cut = Some to }

-- what is not yet synced of a file, by what happened: a call that failed changed nothing
abbrev pub unsynced_of : File → Files → List Happening → Unsynced
unsynced_of file first [] = settled_at (bytes_of first file)
unsynced_of file first (attached name folder done ∷ before) = unsynced_of file first before
unsynced_of file first (wrote other place bytes true after ∷ before) = cond (same_file file other) (with_write (unsynced_of file first before) place bytes) (unsynced_of file first before)
unsynced_of file first (wrote other place bytes false after ∷ before) = unsynced_of file first before
unsynced_of file first (cut_to other to true after ∷ before) = cond (same_file file other) (with_cut (unsynced_of file first before) to) (unsynced_of file first before)
unsynced_of file first (cut_to other to false after ∷ before) = unsynced_of file first before
unsynced_of file first (synced other true after ∷ before) = cond (same_file file other) (settled_at after) (unsynced_of file first before)
unsynced_of file first (synced other false after ∷ before) = unsynced_of file first before
unsynced_of file first (listed address folder listing ∷ before) = unsynced_of file first before
unsynced_of file first (fetched address name limit found ∷ before) = unsynced_of file first before
unsynced_of file first (sent address name bytes done ∷ before) = unsynced_of file first before
unsynced_of file first (removed address name done ∷ before) = unsynced_of file first before
unsynced_of file first (handed_over folders noted ∷ before) = unsynced_of file first before
