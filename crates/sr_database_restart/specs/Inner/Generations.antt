-- The generation that is not in force.
-- Here is what no contract of the program says by itself.
use Rattle.std.specs.Prelude.{◌≡◌}
use Rattle.sr_database_meaning.specs.Generations.{Generation, snapshot_of, log_of, byte_of, generation_of}
use Rattle.sr_database_restart.specs.declared.generations.Other.{Other}
use Rattle.sr_site.specs.declared.file.File.{File}

-- one of the two logs
abbrev pub IsLogFile : File → Type 0
IsLogFile file = file ≡ log_of (generation_of file)

-- the files of a generation, and the byte that names it
abbrev pub parts_of : Generation → Other
parts_of generation = record { snapshot = snapshot_of generation; log = log_of generation; byte = byte_of generation }
