-- A file in memory: its bytes, and what of them is not synced.
use Rattle.std.specs.Prelude.{ℕ, List}
use Rattle.sr_memsite_disk.specs.Changes.{Unsynced}

-- a file: its bytes as a read gives them, and what is not yet synced of it
pub record Store : Type 0 where
  pub bytes : List ℕ
  pub unsynced : Unsynced
