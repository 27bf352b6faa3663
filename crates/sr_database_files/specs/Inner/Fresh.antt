-- Where a database is made.
-- Here is what no contract of the program says by itself.
use Rattle.std.specs.Prelude.{◌≡◌, ◌⊎◌, ℕ, List, [], ◌∷◌}
use Rattle.sr_book.specs.Entries.{Name}
use Rattle.sr_logfile.specs.Inner.Records.{fresh_bytes}
use Rattle.sr_site.specs.Files.{Files}
use Rattle.sr_database_meaning.specs.Inner.Snapshots.{fresh_snapshot}

-- both generations are those of a database without entries, with this snapshot
pub record AreNewOf (snapshot : List ℕ) (files : Files) : Type 0 where
  pub snap0 : files.snap0 ≡ snapshot
  pub snap1 : files.snap1 ≡ snapshot
  pub log0 : files.log0 ≡ fresh_bytes 0
  pub log1 : files.log1 ≡ fresh_bytes 0

-- they are those of a database of this publisher
abbrev pub AreNew : Name → Files → Type 0
AreNew publisher files = AreNewOf (fresh_snapshot publisher) files

-- both generations are those of a database without entries, and the root names the even one
pub record AreNamed (snapshot : List ℕ) (files : Files) : Type 0 where
  pub new : AreNewOf snapshot files
  pub root_is : files.root ≡ 0 ∷ []

-- the root has no byte, or both generations are new
abbrev pub IsNoneOrNewOf : List ℕ → Files → Type 0
IsNoneOrNewOf snapshot files = (files.root ≡ []) ⊎ AreNewOf snapshot files
