-- A site in memory that keeps what is put and fetched.
-- Here is what no contract of the program says by itself.
use Rattle.std.specs.Prelude.{IsTrue}
use Rattle.sr_memsite.specs.Inner.Meaning.{disk_of}
use Rattle.sr_memsite.specs.declared.site.MemorySite.{MemorySite}
use Rattle.world_lives_kept.specs.Inner.Kept.{AreKept}
use Rattle.world_lives_kept.specs.declared.kept.KeptMail.{KeptMail}

pub record Watched : Type 0 where
  pub site : MemorySite
  pub kept : KeptMail

-- what it kept, unless there was no memory, is what happened
abbrev pub IsWatched : MemorySite → KeptMail → Type 0
IsWatched site kept = IsTrue kept.whole → AreKept kept.put kept.fetched (disk_of site).happened
