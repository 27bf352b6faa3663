-- What a run of a script does.
use Rattle.std.specs.Prelude.{◌≡◌, ℕ, List, [], ◌++◌, length, map, IsTrue, Result}
use Rattle.sr_book.specs.Entries.{Name}
use Rattle.sr_ast.specs.declared.stmt.Stmt.{Stmt}
use Rattle.sr_database_history.specs.Recorded.{Recorded}
use Rattle.sr_database.specs.Databases.{IsDatabase}
use Rattle.sr_database.specs.Views.{View, committed}
use Rattle.sr_session_script.specs.Acts.{ScriptAct, commits, entries_of, text_from}
use Rattle.sr_session_script.specs.Scripts.{ran}
use Rattle.sr_site.specs.Seen.{Seen}
use Rattle.sr_site.specs.Streams.{Output, OutputStays}
use Rattle.sr_session.specs.Due.{WroteInTime}
use Rattle.sr_session.specs.Ends.{EndsAs, SinkEnd, Wrote}
use Rattle.sr_session.specs.Reached.{Reached}
use Rattle.sr_session.specs.Reports.{Endures}
use Rattle.sr_session.specs.declared.fault.SessionFault.{SessionFault}

-- of the acts of a script on the state that the database's history comes to, these were done and no other; behind them the disk refused the
-- commit of an entry, if there is one. The lines of what was done were written, and no other: so each line that tells of an entry tells of
-- one that was committed, and stands whatever a crash leaves, also where a fault ended the script. They were written in time: behind a write that
-- failed no statement was begun. Nothing is pending
pub record RanScript (old new : View) (before now : Seen) (written written' : Output) (statements : List Stmt) (result : Result ℕ SessionFault) : Type 0 where
  pub acts : List ScriptAct
  pub broken : List Recorded
  pub reached : Reached old new before now acts broken
  pub ends : EndsAs (ran (committed old) statements) (length statements) new acts broken result
  pub lines : IsTrue written.observable → Wrote (text_from old.log.end acts) written.taken written'.taken result
  pub reported : IsTrue before.observable → (publisher : Name) (es : List Recorded) → IsDatabase old publisher es before → Endures publisher (es ++ entries_of acts) now
  pub in_time : IsTrue written.observable → WroteInTime (committed old) old.log.end statements (acts ++ map commits broken) written.taken written'.taken
  pub sink : SinkEnd written written' result
  pub pending : new.pending ≡ []
  pub stays : OutputStays written written'
