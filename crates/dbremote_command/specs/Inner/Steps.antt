-- What one step of a run promises to the next.
use Rattle.std.specs.Prelude.{◌≡◌, ℕ, List, Ok, Err}
use Rattle.sr_ast.specs.declared.stmt.Stmt.{Stmt}
use Rattle.sr_database.specs.Views.{View}
use Rattle.sr_session.specs.Runs.{RanScript}
use Rattle.sr_session.specs.declared.fault.SessionFault.{SessionFault}
use Rattle.sr_site.specs.Seen.{Seen}
use Rattle.sr_site.specs.Streams.{Output}
use Rattle.dbremote_command.specs.Running.{fault_of}
use Rattle.dbremote_command.specs.declared.fault.Fault.{Fault}

-- a script ran to its last statement
pub record RanToEnd (old new : View) (before now : Seen) (written written' : Output) (statements : List Stmt) : Type 0 where
  pub count : ℕ
  pub ran : RanScript old new before now written written' statements (Ok count)

-- a script ran until this fault ended it
pub record RanToFault (old new : View) (before now : Seen) (written written' : Output) (statements : List Stmt) (fault : Fault) : Type 0 where
  pub why : SessionFault
  pub fault_is : fault ≡ fault_of why
  pub ran : RanScript old new before now written written' statements (Err why)
