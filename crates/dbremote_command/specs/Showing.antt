-- What `show` does.
use Rattle.std.specs.Prelude.{◌≡◌, ℕ, List, [], ◌++◌, IsTrue}
use Rattle.sr_database.specs.Views.{View}
use Rattle.dbremote_command.specs.Shown.{shown}
use Rattle.sr_site.specs.Seen.{Seen}
use Rattle.sr_site.specs.Streams.{Output}
use Rattle.dbremote_command.specs.Running.{IsOpened, OpenedCause}
use Rattle.dbremote_command.specs.Streams.{SaidPart}
use Rattle.dbremote_command.specs.declared.fault.Fault.{Fault}
use Rattle.dbremote_command.specs.declared.fault.Fault.TheVariants.{Words, Database, Source, TooLong, Script, Statement, Sink, Mail}

-- a database was opened, nothing else happened, and what it is was printed
pub record HasShown (name : List ℕ) (before now : Seen) (old new : Output) : Type 0 where
  pub view : View
  pub is : IsOpened name [] view before now
  pub still : view.pending ≡ []
  pub said : IsTrue old.observable → new.taken ≡ old.taken ++ shown view
  pub steady : new.faults ≡ old.faults

-- the sink failed before all of it was printed
pub record ShownInPart (name : List ℕ) (before now : Seen) (old new : Output) : Type 0 where
  pub view : View
  pub is : IsOpened name [] view before now
  pub still : view.pending ≡ []
  pub part : SaidPart (shown view) old new

-- why a fault ends it, and what was written before the fault's line
abbrev pub ShowCause : List ℕ → Seen → Seen → Output → Output → Fault → Type 0
ShowCause name before now old new Words = ⊥
ShowCause name before now old new (Database fault) = OpenedCause before now fault × (new ≡ old)
ShowCause name before now old new Source = ⊥
ShowCause name before now old new TooLong = ⊥
ShowCause name before now old new (Script at) = ⊥
ShowCause name before now old new (Statement number fault) = ⊥
ShowCause name before now old new Sink = ShownInPart name before now old new
ShowCause name before now old new Mail = ⊥
