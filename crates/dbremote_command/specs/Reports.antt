-- What is written of the lines of a run.
use Rattle.std.specs.Prelude.{◌≡◌, ◌⊎◌, ⊤, ℕ, List, ◌++◌}
use Rattle.sr_database_files.specs.declared.fault.DatabaseFault.{DatabaseFault}
use Rattle.sr_database_files.specs.declared.fault.DatabaseFault.TheVariants.{Missing, Exists, Damaged, Disk, Full, Long, Memory}
use Rattle.sr_site.specs.Causes.{Rose}
use Rattle.sr_site.specs.Streams.{Output}
use Rattle.sr_session.specs.Said.{WrotePrefix}
use Rattle.dbremote_command.specs.declared.fault.Fault.{Fault}
use Rattle.dbremote_command.specs.declared.fault.Fault.TheVariants.{Words, Database, Source, TooLong, Script, Statement, Sink, Mail}

-- the line of a database's fault has numbers
abbrev pub HasPlaces : DatabaseFault → Type 0
HasPlaces Missing = ⊥
HasPlaces Exists = ⊥
HasPlaces (Damaged file at) = ⊤
HasPlaces Disk = ⊥
HasPlaces (Full end need) = ⊤
HasPlaces (Long size limit) = ⊤
HasPlaces Memory = ⊥

-- the line of the fault has numbers or names, and takes memory; every other line is the same each time
abbrev pub HasNumbers : Fault → Type 0
HasNumbers Words = ⊥
HasNumbers (Database fault) = HasPlaces fault
HasNumbers Source = ⊥
HasNumbers TooLong = ⊥
HasNumbers (Script at) = ⊤
HasNumbers (Statement number fault) = ⊤
HasNumbers Sink = ⊥
HasNumbers Mail = ⊥

-- a text was written whole, or a prefix of it where the sink failed
pub record Wrote (text : List ℕ) (old new : Output) : Type 0 where
  pub prefix : WrotePrefix text old.taken new.taken
  pub whole : (new.taken ≡ old.taken ++ text) ⊎ Rose old.faults new.faults
