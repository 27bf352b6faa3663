-- The five files in memory.
use Rattle.std.specs.Prelude.{[]}
use Rattle.sr_site.specs.Files.{Files}
use Rattle.sr_memsite_disk.specs.Store.{Store}

-- the five files
pub record Stores : Type 0 where
  pub root : Store
  pub log0 : Store
  pub log1 : Store
  pub snap0 : Store
  pub snap1 : Store

-- no file has a byte
abbrev pub no_bytes : Files
no_bytes = record { root = []; log0 = []; log1 = []; snap0 = []; snap1 = [] }
