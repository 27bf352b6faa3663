-- A file in memory: its bytes, and what of them is not synced.
-- Here is what no contract of the program says by itself.
use Rattle.std.specs.Prelude.{ℕ, List, take}
use Rattle.sr_site.specs.Files.{overwritten}
use Rattle.sr_memsite_disk.specs.Changes.{settled_at, with_write, with_cut}
use Rattle.sr_memsite_disk.specs.Store.{Store}

-- a file after a write, a cut and a sync
abbrev pub after_write : Store → ℕ → List ℕ → Store
after_write store place bytes = record { bytes = overwritten store.bytes place bytes; unsynced = with_write store.unsynced place bytes }

abbrev pub after_cut : Store → ℕ → Store
after_cut store to = record { bytes = take to store.bytes; unsynced = with_cut store.unsynced to }

abbrev pub settled_on : List ℕ → Store
settled_on bytes = record { bytes = bytes; unsynced = settled_at bytes }
