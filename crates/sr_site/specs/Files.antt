-- The five files: bytes overwritten, and what is torn or cut in part.
use Rattle.std.specs.Prelude.{◌≡◌, ◌≤◌, ℕ, ◌+◌, List, ◌++◌, length, take, drop, min}
use Rattle.sr_site.specs.declared.file.File.{File}
use Rattle.sr_site.specs.declared.file.File.TheVariants.{Root, Log0, Log1, Snap0, Snap1}

-- the bytes of the five files
pub record Files : Type 0 where
  pub root : List ℕ
  pub log0 : List ℕ
  pub log1 : List ℕ
  pub snap0 : List ℕ
  pub snap1 : List ℕ

-- the bytes of one
abbrev pub bytes_of : Files → File → List ℕ
bytes_of files Root = files.root
bytes_of files Log0 = files.log0
bytes_of files Log1 = files.log1
bytes_of files Snap0 = files.snap0
bytes_of files Snap1 = files.snap1

-- the files with other bytes in one of them
abbrev pub with_bytes : Files → File → List ℕ → Files
with_bytes files Root bytes = record files { root = bytes }
with_bytes files Log0 bytes = record files { log0 = bytes }
with_bytes files Log1 bytes = record files { log1 = bytes }
with_bytes files Snap0 bytes = record files { snap0 = bytes }
with_bytes files Snap1 bytes = record files { snap1 = bytes }

-- a file after some bytes were put at a place in it
abbrev pub overwritten : List ℕ → ℕ → List ℕ → List ℕ
overwritten old place bytes = take place old ++ bytes ++ drop (place + length bytes) old

-- at most this one file differs
abbrev pub OthersStay : File → Files → Files → Type 0
OthersStay file old new = new ≡ with_bytes old file (bytes_of new file)

-- a write that failed may have happened in part: the bytes before its range stand, and those behind it
pub record IsTorn (place count : ℕ) (old new : List ℕ) : Type 0 where
  pub before : take place new ≡ take place old
  pub behind : drop (place + count) new ≡ drop (place + count) old
  pub longer : length old ≤ length new

-- a cut that failed may have happened in part: the bytes that were to stay stand, and the file is no longer than it was
pub record IsCutInPart (to : ℕ) (old new : List ℕ) : Type 0 where
  pub before : take to new ≡ take to old
  pub least : min to (length old) ≤ length new
  pub most : length new ≤ length old
