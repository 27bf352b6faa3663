-- What `sql` does.
-- Here is what no contract of the program says by itself.
use Rattle.std.specs.Prelude.{◌≡◌, ℕ, ◌<◌, List, length, IsTrue}
use Rattle.sr_database_files.specs.declared.fault.DatabaseFault.TheVariants as store
use Rattle.sr_site.specs.Causes.{Rose}
use Rattle.sr_site.specs.Streams.{Input}
use Rattle.dbremote_command.specs.Limits.{most_script}
use Rattle.dbremote_command.specs.declared.fault.Fault.{Fault}
use Rattle.dbremote_command.specs.declared.fault.Fault.TheVariants.{Words, Database, Source, TooLong, Script, Statement, Sink, Mail}
use Rattle.dbremote_command.specs.Running.{BreaksAt, IsNoScript}

-- why bytes are not answered with a script
abbrev pub BytesCause : List ℕ → Fault → Type 0
BytesCause text Words = ⊥
BytesCause text (Database fault) = fault ≡ store.Memory
BytesCause text Source = ⊥
BytesCause text TooLong = ⊥
BytesCause text (Script at) = BreaksAt text at
BytesCause text (Statement number fault) = ⊥
BytesCause text Sink = ⊥
BytesCause text Mail = ⊥

-- why no script is read: only where the source refused did its count change
abbrev pub ReadCause : Input → Input → Fault → Type 0
ReadCause old new Words = ⊥
ReadCause old new (Database fault) = (fault ≡ store.Memory) × (new.faults ≡ old.faults)
ReadCause old new Source = Rose old.faults new.faults
ReadCause old new TooLong = (IsTrue old.observable → most_script < length old.left) × (new.faults ≡ old.faults)
ReadCause old new (Script at) = IsNoScript old new at
ReadCause old new (Statement number fault) = ⊥
ReadCause old new Sink = ⊥
ReadCause old new Mail = ⊥
