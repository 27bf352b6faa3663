-- The disk in memory: its files, and what was done to them.
-- Here is what no contract of the program says by itself.
use Rattle.std.specs.Prelude.{◌≡◌, ℕ, ◌∷◌}
use Rattle.sr_site.specs.Files.{bytes_of}
use Rattle.sr_site.specs.Happenings.{Happening}
use Rattle.sr_site.specs.Images.{MayLeave}
use Rattle.sr_site.specs.declared.file.File.{File}
use Rattle.sr_memsite_disk.specs.Changes.{unsynced_of}
use Rattle.sr_memsite_disk.specs.Inner.Picks.{outcome}
use Rattle.sr_memsite.specs.Disks.{Disk, files_in, begun_with}

-- one thing more happened
abbrev pub with_happening : Disk → Happening → Disk
with_happening disk step = record disk { happened = step ∷ disk.happened }

-- a crash put one image in place, and all begins anew: which one, says the pick, change by change. At 0 each file is as its last sync left
-- it, at 1 as it stood
pub record HasCrashed (pick : ℕ) (old new : Disk) : Type 0 where
  pub begun : new ≡ begun_with (files_in new)
  pub image : MayLeave old.first old.happened (files_in new)
  pub chosen : (file : File) → bytes_of (files_in new) file ≡ outcome pick (λ file. unsynced_of file old.first old.happened) file
  pub lost : pick ≡ 0 → (file : File) → bytes_of (files_in new) file ≡ (unsynced_of file old.first old.happened).settled
  pub whole : pick ≡ 1 → files_in new ≡ files_in old
