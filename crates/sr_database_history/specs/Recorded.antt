-- Entries of a log as they are meant: in place of a text they carry the statement that it prints.
use Rattle.std.specs.Prelude.{⊤, Bool, List, map, IsTrue}
use Rattle.std.specs.List.{AllByRecursion}
use Rattle.sr_base.specs.declared.offset.Offset.{Offset}
use Rattle.sr_base.specs.declared.value.Value.{Value as Cell}
use Rattle.sr_ast.specs.Layout.{printed}
use Rattle.sr_ast.specs.Statements.{is_ddl, is_carried}
use Rattle.sr_ast.specs.declared.stmt.Stmt.{Stmt}
use Rattle.sr_book.specs.Entries.{Name}
use Rattle.sr_book.specs.declared.note.Note.{Note}
use Rattle.sr_ast.specs.NormalForms.{IsNormal}
use Rattle.sr_logform.specs.declared.change.Change.{Change}
use Rattle.sr_logform.specs.declared.entry.Entry.{Entry}
use Rattle.sr_logform.specs.declared.entry.Entry.TheVariants as entries
use Rattle.sr_logform.specs.declared.op.Op.{Op}
use Rattle.sr_logform.specs.declared.op.Op.TheVariants as ops
use Rattle.sr_logform.specs.declared.outcome.Clash.{Clash}
use Rattle.sr_logform.specs.declared.outcome.Outcome.{Outcome}
use Rattle.sr_logform.specs.declared.outcome.Outcome.TheVariants as outcomes

-- ---- what is recorded

-- an op that was taken, with what became of it
pub data Done : Type 0 where
  -- an op that is no Exec, with its changes
  plain : Op → List Change → Done
  -- an Exec of the text that this statement prints, with its changes
  ran : Stmt → List Change → Done
  -- a Set that met another value: what the triggers inserted, and the row of its key before and after
  conflict : Op → List Change → List Cell → List Cell → Done
  -- an op that was skipped
  clash : Op → Clash → Done

-- an entry of a log
pub data Recorded : Type 0 where
  -- a transaction of this database's own: its changes
  own : List Change → Recorded
  -- a transaction that was taken: the partner, its offset in the partner's log, and its ops
  taken : Name → Offset → List Done → Recorded
  -- a statement that changed the catalog
  ddl : Stmt → Recorded
  -- a partner's view of some tables, row by row
  sync : Name → List (Name × List (List Cell)) → Recorded
  -- a statement that is passed on to some users, whether it is for them only, and its changes here
  pass : List Name → Bool → Stmt → List Change → Recorded
  -- a change of a partner's book
  note : Name → Note → Recorded

-- ---- the entry that stands in the log

-- an op and its outcome
abbrev pub done_of : Done → Op × Outcome
done_of (plain op changes) = (op, outcomes.Plain changes)
done_of (ran statement changes) = (ops.Exec (printed statement), outcomes.Plain changes)
done_of (conflict op inserts before after) = (op, outcomes.Conflict inserts before after)
done_of (clash op why) = (op, outcomes.Clash why)

-- the entry: each statement is printed
abbrev pub entry_of : Recorded → Entry
entry_of (own changes) = entries.Own changes
entry_of (taken user at dones) = entries.From user at (map done_of dones)
entry_of (ddl statement) = entries.Ddl (printed statement)
entry_of (sync user tables) = entries.Sync user tables
entry_of (pass users only statement changes) = entries.Pass users only (printed statement) changes
entry_of (note user what) = entries.Note user what

-- ---- which are meant

-- an op that is no Exec
abbrev pub IsNoExec : Op → Type 0
IsNoExec (ops.Insert table values) = ⊤
IsNoExec (ops.Remove table key) = ⊤
IsNoExec (ops.Set table key columns) = ⊤
IsNoExec (ops.Clear table) = ⊤
IsNoExec (ops.Exec text) = ⊥

-- an op that is a Set
abbrev pub IsSet : Op → Type 0
IsSet (ops.Insert table values) = ⊥
IsSet (ops.Remove table key) = ⊥
IsSet (ops.Set table key columns) = ⊤
IsSet (ops.Clear table) = ⊥
IsSet (ops.Exec text) = ⊥

-- a statement in normal form that changes the catalog
abbrev pub IsDdl : Stmt → Type 0
IsDdl statement = IsNormal statement × IsTrue (is_ddl statement)

-- a statement in normal form that passthrough carries
abbrev pub IsCarried : Stmt → Type 0
IsCarried statement = IsNormal statement × IsTrue (is_carried statement)

-- what was done is no Exec, or runs a statement that passthrough carries; a conflict stands beside a Set alone
abbrev pub IsLawfulDone : Done → Type 0
IsLawfulDone (plain op changes) = IsNoExec op
IsLawfulDone (ran statement changes) = IsCarried statement
IsLawfulDone (conflict op inserts before after) = IsSet op
IsLawfulDone (clash op why) = ⊤

-- each statement is in normal form: of a Ddl one that changes the catalog, of a Pass one that passthrough carries
abbrev pub IsRecorded : Recorded → Type 0
IsRecorded (own changes) = ⊤
IsRecorded (taken user at dones) = AllByRecursion IsLawfulDone dones
IsRecorded (ddl statement) = IsDdl statement
IsRecorded (sync user tables) = ⊤
IsRecorded (pass users only statement changes) = IsCarried statement
IsRecorded (note user what) = ⊤
