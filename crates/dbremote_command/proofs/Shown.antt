-- How `show` ends, from how its steps do.
use Rattle.std.proofs.Common.{◌≡◌, ℕ, List, [], ◌++◌, sym, subst}
use Rattle.std.specs.Prelude.{IsTrue}
use Rattle.sr_database.specs.Views.{View}
use Rattle.sr_database_files.specs.declared.fault.DatabaseFault.{DatabaseFault}
use Rattle.sr_database_files.specs.declared.fault.DatabaseFault.TheVariants as store
use Rattle.dbremote_command.specs.Shown.{shown}
use Rattle.sr_site.specs.Seen.{Seen}
use Rattle.sr_site.specs.Streams.{Output}
use Rattle.dbremote_command.specs.Running.{IsOpened, OpenedCause}
use Rattle.dbremote_command.specs.Showing.{HasShown, ShowCause}
use Rattle.dbremote_command.specs.Inner.Showing.{TellCause}
use Rattle.dbremote_command.specs.declared.fault.Fault.{Fault}
use Rattle.dbremote_command.specs.declared.fault.Fault.TheVariants.{Words, Database, Source, TooLong, Script, Statement, Sink, Mail}

wanting : (before now : Seen) (fault : DatabaseFault) → now.disk_faults ≡ before.disk_faults → fault ≡ store.Memory → OpenedCause before now fault
wanting before now fault steady is = subst (OpenedCause before now) (sym is) steady

pub show_cause : (name : List ℕ) (before now : Seen) (old new : Output) (view : View) (fault : Fault) → IsOpened name [] view before now → view.pending ≡ []
    → TellCause (shown view) old new fault → ShowCause name before now old new fault
show_cause name before now old new view Words opened still cause = cause
show_cause name before now old new view (Database fault) opened still cause = (wanting before now fault opened.steady cause.0, cause.1)
show_cause name before now old new view Source opened still cause = cause
show_cause name before now old new view TooLong opened still cause = cause
show_cause name before now old new view (Script at) opened still cause = cause
show_cause name before now old new view (Statement number fault) opened still cause = cause
show_cause name before now old new view Mail opened still cause = cause
show_cause name before now old new view Sink opened still cause = record { view = view; is = opened; still = still; part = cause }

module _ (name : List ℕ) (before now : Seen) (old new : Output) (view : View) (opened : IsOpened name [] view before now) (still : view.pending ≡ []) where
  pub has_shown : (IsTrue old.observable → new.taken ≡ old.taken ++ shown view) → new.faults ≡ old.faults → HasShown name before now old new
  has_shown said steady = record { view = view; is = opened; still = still; said = said; steady = steady }
