-- The two generations of a database, and the one that its root names.
use Rattle.std.specs.Prelude.{ℕ, ◌%◌, ◌==◌, List, [], ◌∷◌, Option, Some, None, if◌then◌else◌, drop}
use Rattle.sr_site.specs.declared.file.File.{File}
use Rattle.sr_site.specs.declared.file.File.TheVariants.{Log0, Log1, Snap0, Snap1, Root}

-- a snapshot and a log that belong together
pub data Generation : Type 0 where
  even : Generation
  odd : Generation

abbrev pub snapshot_of : Generation → File
snapshot_of even = Snap0
snapshot_of odd = Snap1

abbrev pub log_of : Generation → File
log_of even = Log0
log_of odd = Log1

-- the generation that a root's first byte names: each value names one
abbrev pub generation_in : List ℕ → Option Generation
generation_in [] = None
generation_in (byte ∷ rest) = Some (if (byte % 2) == 0 then even else odd)

abbrev pub other_of : Generation → Generation
other_of even = odd
other_of odd = even

-- the first byte of a root that a restart writes
abbrev pub byte_of : Generation → ℕ
byte_of even = 0
byte_of odd = 1

-- a root with that byte in its first place, and behind it what stood there
abbrev pub named : Generation → List ℕ → List ℕ
named generation root = byte_of generation ∷ drop 1 root

-- the generation of a snapshot or a log; the root is of none, and counts as even
abbrev pub generation_of : File → Generation
generation_of Root = even
generation_of Log0 = even
generation_of Log1 = odd
generation_of Snap0 = even
generation_of Snap1 = odd
