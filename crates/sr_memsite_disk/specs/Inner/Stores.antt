-- The five files in memory.
-- Here is what no contract of the program says by itself.
use Rattle.std.specs.Prelude.{◌≡◌, ℕ, List}
use Rattle.sr_site.specs.Files.{Files}
use Rattle.sr_site.specs.Happenings.{Happening}
use Rattle.sr_site.specs.declared.file.File.{File}
use Rattle.sr_site.specs.declared.file.File.TheVariants.{Root, Log0, Log1, Snap0, Snap1}
use Rattle.sr_memsite_disk.specs.Changes.{Unsynced, unsynced_of}
use Rattle.sr_memsite_disk.specs.Picks.{crash_of}
use Rattle.sr_memsite_disk.specs.Inner.Picks.{outcome}
use Rattle.sr_memsite_disk.specs.Store.{Store}
use Rattle.sr_memsite_disk.specs.Inner.Store.{settled_on}
use Rattle.sr_memsite_disk.specs.Stores.{Stores}

abbrev pub store_of : Stores → File → Store
store_of stores Root = stores.root
store_of stores Log0 = stores.log0
store_of stores Log1 = stores.log1
store_of stores Snap0 = stores.snap0
store_of stores Snap1 = stores.snap1

-- the files as a read gives them
abbrev pub files_of : Stores → Files
files_of stores = record { root = stores.root.bytes; log0 = stores.log0.bytes; log1 = stores.log1.bytes; snap0 = stores.snap0.bytes; snap1 = stores.snap1.bytes }

-- the five with another in the place of one
abbrev pub with_store : Stores → File → Store → Stores
with_store stores Root store = record stores { root = store }
with_store stores Log0 store = record stores { log0 = store }
with_store stores Log1 store = record stores { log1 = store }
with_store stores Snap0 store = record stores { snap0 = store }
with_store stores Snap1 store = record stores { snap1 = store }

-- files with which all begins anew
abbrev pub stores_of : Files → Stores
stores_of files = record { root = settled_on files.root; log0 = settled_on files.log0; log1 = settled_on files.log1; snap0 = settled_on files.snap0; snap1 = settled_on files.snap1 }

-- what is not yet synced of each
abbrev pub unsynced : Stores → File → Unsynced
unsynced stores file = (store_of stores file).unsynced

-- what a crash makes of them
abbrev pub outcomes : ℕ → Stores → Files
outcomes pick stores = record {
  root = outcome pick (unsynced stores) Root;
  log0 = outcome pick (unsynced stores) Log0;
  log1 = outcome pick (unsynced stores) Log1;
  snap0 = outcome pick (unsynced stores) Snap0;
  snap1 = outcome pick (unsynced stores) Snap1;
}

-- a file stands for what is not yet synced of it: where nothing of that is lost it is as it stands
pub record IsBacked (u : Unsynced) (store : Store) : Type 0 where
  pub same : store.unsynced ≡ u
  pub whole : (crash_of 1 store.unsynced).file ≡ store.bytes

-- the files stand for what happened
abbrev pub AreBacked : Stores → Files → List Happening → Type 0
AreBacked stores first happened = (file : File) → IsBacked (unsynced_of file first happened) (store_of stores file)
