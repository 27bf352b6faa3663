-- A file's changes taken back, the newest first.
use Rattle.std.specs.Prelude.{◌≡◌, ℕ, List, [], ◌∷◌, ◌++◌, length, take, drop, Option, Some, None}
use Rattle.sr_memsite_disk.specs.Changes.{Change, write, cuts}
use Rattle.sr_memsite_disk.specs.Store.{Store}
use Rattle.sr_memsite_disk.specs.declared.written.Written.{Written}

-- the bytes that count of a file that was cut, and those that do not
abbrev pub content : Option ℕ → List ℕ → List ℕ
content None bytes = bytes
content (Some to) bytes = take to bytes

abbrev pub off : Option ℕ → List ℕ → List ℕ
off None bytes = []
off (Some to) bytes = drop to bytes

-- what a write keeps of the bytes that it goes over, and of those that were cut off before it
pub record Keeps (cut : Option ℕ) (file : List ℕ) (place : ℕ) (bytes : List ℕ) (written : Written) : Type 0 where
  pub cut_is : written.cut ≡ cut
  pub off_is : written.off.items ≡ off cut file
  pub place_is : written.place ≡ place
  pub over_is : written.over.items ≡ take (length bytes) (drop place (content cut file))
  pub new_is : written.new.items ≡ bytes

-- a file without the write
abbrev pub undone_by : Written → List ℕ → List ℕ
undone_by written bytes = ((take written.place bytes ++ written.over.items) ++ drop (length written.new.items) (drop written.place bytes)) ++ written.off.items

-- a file without any of these writes, the oldest first
abbrev pub undone : List ℕ → List Written → List ℕ
undone bytes [] = bytes
undone bytes (written ∷ later) = undone_by written (undone bytes later)

-- the changes that a write stands for: the cut before it, and itself
abbrev pub changes_by : Written → List Change
changes_by written = cuts written.cut ++ write written.place written.new.items ∷ []

abbrev pub shown : List Written → List Change
shown [] = []
shown (written ∷ later) = changes_by written ++ shown later

-- a file by its bytes, the cut since its last write, and its writes since the last sync
abbrev pub stored : List ℕ → Option ℕ → List Written → Store
stored bytes cut writes = record { bytes = content cut bytes; unsynced = record { settled = undone bytes writes; changes = shown writes; last_cut = cut } }
