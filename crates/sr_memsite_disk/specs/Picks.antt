-- A crash by drawn numbers: of each change, what is left.
use Rattle.std.specs.Prelude.{ℕ, ◌+◌, ◌-◌, ◌/◌, ◌%◌, ◌==◌, nat_lt, cond, List, [], ◌∷◌, ◌++◌, length, take, drop, replicate, get_or}
use Rattle.sr_site.specs.Files.{Files, overwritten}
use Rattle.sr_site.specs.Happenings.{Happening}
use Rattle.sr_site.specs.declared.file.File.TheVariants.{Root, Log0, Log1, Snap0, Snap1}
use Rattle.sr_memsite_disk.specs.Changes.{Change, write, cut, Unsynced, all_of, unsynced_of}
use Rattle.sr_memsite_disk.specs.declared.tear.Tear.{Tear}
use Rattle.sr_memsite_disk.specs.declared.tear.Tear.TheVariants.{Lost, Whole, Prefix, Back, Filled}

-- what a digit of a pick makes of a change
abbrev pub tears : List Tear
tears = Lost ∷ Whole ∷ Prefix ∷ Back ∷ Filled 0 ∷ Filled 1 ∷ Filled 85 ∷ Filled 255 ∷ []

-- what a pick makes of the next change: at 1 it is whole, else it goes by the last digit of the pick, less 2, in base eight
abbrev pub tear_of : ℕ → Tear
tear_of pick = cond (pick == 1) Whole (get_or tears ((pick - 2) % 8) Lost)

-- the pick for the changes behind it
abbrev pub next_pick : ℕ → ℕ
next_pick pick = cond (pick == 1) 1 (2 + (pick - 2) / 8)

abbrev pub half : List ℕ → ℕ
half bytes = length bytes / 2

-- what is there of bytes: none, all, the first half alone, the second half behind zeros, or as many others
abbrev pub part : Tear → List ℕ → List ℕ
part Lost bytes = []
part Whole bytes = bytes
part Prefix bytes = take (half bytes) bytes
part Back bytes = replicate (half bytes) 0 ++ drop (half bytes) bytes
part (Filled byte) bytes = replicate (length bytes) byte

-- a cut that is lost leaves all bytes, a whole one none
abbrev pub turned : Tear → Tear
turned Lost = Whole
turned Whole = Lost
turned Prefix = Prefix
turned Back = Back
turned (Filled byte) = Filled byte

-- a file with what is there of a change. A write behind the file's end, where those before it are lost, is lost too
abbrev pub torn : Tear → Change → List ℕ → List ℕ
torn tear (write place bytes) file = cond (nat_lt (length file) place) file (overwritten file place (part tear bytes))
torn tear (cut to) file = take to file ++ part (turned tear) (drop to file)

-- a file on the way through a crash, and the pick for the changes that are left
pub record Crash : Type 0 where
  pub file : List ℕ
  pub pick : ℕ

abbrev pub next : Crash → Change → Crash
next crash change = record { file = torn (tear_of crash.pick) change crash.file; pick = next_pick crash.pick }

abbrev pub crashed : Crash → List Change → Crash
crashed crash [] = crash
crashed crash (change ∷ changes) = crashed (next crash change) changes

-- what a crash makes of a file, by the pick that is left to it
abbrev pub crash_of : ℕ → Unsynced → Crash
crash_of pick file = crashed (record { file = file.settled; pick = pick }) (all_of file)

-- the files as a read gives them: nothing of what happened is lost
unfoldable pub standing : Files → List Happening → Files
standing first happened = record {
  root = (crash_of 1 (unsynced_of Root first happened)).file;
  log0 = (crash_of 1 (unsynced_of Log0 first happened)).file;
  log1 = (crash_of 1 (unsynced_of Log1 first happened)).file;
  snap0 = (crash_of 1 (unsynced_of Snap0 first happened)).file;
  snap1 = (crash_of 1 (unsynced_of Snap1 first happened)).file;
}
