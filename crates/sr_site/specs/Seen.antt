-- A site, as contracts see it.
use Rattle.std.specs.Prelude.{ℕ, Bool, List}
use Rattle.sr_site.specs.Files.{Files}
use Rattle.sr_site.specs.Happenings.{Happening}

-- what a site means: whether it tells what it holds, the bytes that a read gives of its files, the files that stood at the beginning, what
-- happened since then, the newest first, and how many calls of each device have failed
pub record Seen : Type 0 where
  pub observable : Bool
  pub files : Files
  pub first : Files
  pub happened : List Happening
  pub disk_faults : ℕ
  pub mail_faults : ℕ
