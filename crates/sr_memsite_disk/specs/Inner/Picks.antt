-- A crash by drawn numbers: of each change, what is left.
-- Here is what no contract of the program says by itself.
use Rattle.std.specs.Prelude.{ℕ, List}
use Rattle.sr_site.specs.declared.file.File.{File}
use Rattle.sr_site.specs.declared.file.File.TheVariants.{Root, Log0, Log1, Snap0, Snap1}
use Rattle.sr_memsite_disk.specs.Changes.{Unsynced}
use Rattle.sr_memsite_disk.specs.Picks.{crash_of}

-- the pick that is left to a file: the root comes first, and each takes a digit a change
abbrev pub pick_of : ℕ → (File → Unsynced) → File → ℕ
pick_of pick each Root = pick
pick_of pick each Log0 = (crash_of pick (each Root)).pick
pick_of pick each Log1 = (crash_of (crash_of pick (each Root)).pick (each Log0)).pick
pick_of pick each Snap0 = (crash_of (crash_of (crash_of pick (each Root)).pick (each Log0)).pick (each Log1)).pick
pick_of pick each Snap1 = (crash_of (crash_of (crash_of (crash_of pick (each Root)).pick (each Log0)).pick (each Log1)).pick (each Snap0)).pick

-- what a crash makes of one of the five files
abbrev pub outcome : ℕ → (File → Unsynced) → File → List ℕ
outcome pick each file = (crash_of (pick_of pick each file) (each file)).file
