-- What `show` does.
-- Here is what no contract of the program says by itself.
use Rattle.std.specs.Prelude.{◌≡◌, ℕ, List}
use Rattle.sr_database_files.specs.declared.fault.DatabaseFault.TheVariants as store
use Rattle.sr_site.specs.Streams.{Output}
use Rattle.dbremote_command.specs.Streams.{SaidPart}
use Rattle.dbremote_command.specs.declared.fault.Fault.{Fault}
use Rattle.dbremote_command.specs.declared.fault.Fault.TheVariants.{Words, Database, Source, TooLong, Script, Statement, Sink, Mail}

-- why the lines of a database are not printed whole
abbrev pub TellCause : List ℕ → Output → Output → Fault → Type 0
TellCause lines old new Words = ⊥
TellCause lines old new (Database fault) = (fault ≡ store.Memory) × (new ≡ old)
TellCause lines old new Source = ⊥
TellCause lines old new TooLong = ⊥
TellCause lines old new (Script at) = ⊥
TellCause lines old new (Statement number fault) = ⊥
TellCause lines old new Sink = SaidPart lines old new
TellCause lines old new Mail = ⊥
