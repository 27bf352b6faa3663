-- A script on the way, and where it ended before its last lines were written.
use Rattle.std.specs.Prelude.{◌≡◌, ◌+◌, ⊤, ℕ, List, [], ◌++◌, length, map, Option, IsTrue, Result, Ok, Err}
use Rattle.std.specs.List.{AllByRecursion}
use Rattle.sr_ast.specs.declared.stmt.Passthrough.{Passthrough}
use Rattle.sr_ast.specs.declared.stmt.Stmt.{Stmt}
use Rattle.sr_ast.specs.NormalForms.{IsNormal}
use Rattle.sr_database_history.specs.Recorded.{Recorded}
use Rattle.sr_database.specs.Views.{View, committed}
use Rattle.sr_session_script.specs.Acts.{ScriptAct, commits, text_from}
use Rattle.sr_session_script.specs.Scripts.{ran, ran_from, led}
use Rattle.sr_session_script.specs.Works.{at_beginning}
use Rattle.sr_site.specs.Seen.{Seen}
use Rattle.sr_site.specs.Streams.{Output, OutputStays}
use Rattle.sr_session.specs.Due.{said_from, due, WroteInTime}
use Rattle.sr_session.specs.Ends.{EndsAs, SinkEnd}
use Rattle.sr_session.specs.Reached.{Reached}
use Rattle.sr_session.specs.Inner.Ready.{AreUsers, IsReady, work_of}
use Rattle.sr_session.specs.Said.{WrotePrefix, Said}
use Rattle.sr_session.specs.declared.fault.SessionFault.{SessionFault}
use Rattle.sr_session.specs.declared.fault.SessionFault.TheVariants.{Statement, Store, Sink, Memory}

-- some statements are done and these are left: what the script does is what was done, and then what these do, and so for any others. Its
-- lines were written as they were due, or are kept
pub record Under (old view : View) (first seen : Seen) (written taken : Output) (lines : List ℕ) (region : Option Passthrough) (all left : List Stmt) : Type 0 where
  pub done : ℕ
  pub count : done + length left ≡ length all
  pub firsts : List Stmt
  pub all_are : all ≡ firsts ++ left
  pub acts : List ScriptAct
  pub reached : Reached old view first seen acts []
  pub ready : IsReady view seen
  pub users : AreUsers (committed view) region
  pub going : (more : List Stmt) → ran (committed old) (firsts ++ more) ≡ led acts (ran_from done (work_of view region) more)
  pub whole : List ℕ
  pub due_are : (more : List Stmt) → due [] (said_from old.log.end (at_beginning (committed old)) (firsts ++ more)) ≡ whole ++ due lines (said_from view.log.end (work_of view region) more)
  pub wrote : IsTrue written.observable → taken.taken ≡ written.taken ++ whole
  pub said : IsTrue written.observable → Said (text_from old.log.end acts) lines written.taken taken.taken
  pub sink : taken.faults ≡ written.faults
  pub stays : OutputStays written taken
  pub normal : AllByRecursion IsNormal left

-- the number of statements, where it ended with the last
abbrev pub counted : ℕ → Result (Unit {0}) SessionFault → Result ℕ SessionFault
counted count (Ok done) = Ok count
counted count (Err fault) = Err fault

-- the lines of what was done were written, or are kept; where the sink failed, a prefix of them was written
abbrev pub Keeps : List ℕ → List ℕ → List ℕ → List ℕ → Result (Unit {0}) SessionFault → Type 0
Keeps text old new kept (Ok done) = Said text kept old new
Keeps text old new kept (Err (Statement number fault)) = Said text kept old new
Keeps text old new kept (Err (Store fault)) = Said text kept old new
Keeps text old new kept (Err Sink) = WrotePrefix text old new
Keeps text old new kept (Err Memory) = Said text kept old new

-- a script ended, with lines that may be kept still
pub record Ran (old new : View) (before now : Seen) (written written' : Output) (kept : List ℕ) (statements : List Stmt) (result : Result (Unit {0}) SessionFault) : Type 0 where
  pub acts : List ScriptAct
  pub broken : List Recorded
  pub reached : Reached old new before now acts broken
  pub ends : EndsAs (ran (committed old) statements) (length statements) new acts broken (counted (length statements) result)
  pub lines : IsTrue written.observable → Keeps (text_from old.log.end acts) written.taken written'.taken kept result
  pub in_time : IsTrue written.observable → WroteInTime (committed old) old.log.end statements (acts ++ map commits broken) written.taken written'.taken
  pub sink : SinkEnd written written' (counted (length statements) result)
  pub stays : OutputStays written written'

-- all statements are done, or the script ended at one
abbrev pub RanStatements : View → View → Seen → Seen → Output → Output → List ℕ → Option Passthrough → List Stmt → Result (Unit {0}) SessionFault → Type 0
RanStatements old new before now written written' kept region statements (Ok done) = Under old new before now written written' kept region statements []
RanStatements old new before now written written' kept region statements (Err fault) = Ran old new before now written written' kept statements (Err fault)

-- any end but that of a sink
abbrev pub IsNoSink : Result (Unit {0}) SessionFault → Type 0
IsNoSink (Ok done) = ⊤
IsNoSink (Err (Statement number fault)) = ⊤
IsNoSink (Err (Store fault)) = ⊤
IsNoSink (Err Sink) = ⊥
IsNoSink (Err Memory) = ⊤
