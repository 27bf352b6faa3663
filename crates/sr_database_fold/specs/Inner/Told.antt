-- What is told of changes, statements, ops and entries, each in one word: it fits, and this is what it leaves; or it does not fit.
use Rattle.std.specs.Prelude.{◌≡◌, ◌↔◌, ℕ, Bool, IsTrue, List, [], ◌∷◌, ◌++◌}
use Rattle.sr_base.specs.declared.value.Value.{Value as Cell}
use Rattle.sr_ast.specs.declared.stmt.Stmt.{Stmt}
use Rattle.sr_book.specs.Entries.{Name}
use Rattle.sr_exec_dml.specs.Applying.{applied_in, applied}
use Rattle.sr_exec_dml.specs.FittingChanges.{IsFitChange, ChangesFit}
use Rattle.sr_exec_dml.specs.Statements.{table_named}
use Rattle.sr_database_history.specs.Fitting.{IsAccepted}
use Rattle.sr_database_history.specs.Folds.{State, with_statement, after_done, after_dones, next}
use Rattle.sr_logform.specs.declared.change.Change.{Change}
use Rattle.sr_logform.specs.declared.entry.Entry.{Entry}
use Rattle.sr_logform.specs.declared.op.Op.{Op}
use Rattle.sr_logform.specs.declared.outcome.Outcome.{Outcome}
use Rattle.sr_rows.specs.Marks.{RowMap}
use Rattle.sr_catalog_schema.specs.Catalogs.{Lists}
use Rattle.sr_database_fold.specs.Inner.Answers.{Tells, TellsOne}
use Rattle.sr_database_fold.specs.Inner.Deeds.{DoesFit, DoFit}
use Rattle.sr_database_fold.specs.Inner.Movements.{change_of}
use Rattle.sr_database_fold.specs.Inner.Parts.{RunsHere, RunsToo, after_run, IsPassedOn, ConflictFits}
use Rattle.sr_database_fold.specs.Inner.Readings.{FitsAs}

-- one change: it fits, and these are the rows with it
unfoldable pub ChangeTold : Lists → RowMap → Change → RowMap → Bool → Type 0
ChangeTold catalog rows c new told = Tells (IsFitChange catalog rows c) (new ≡ applied_in (table_named catalog c.table) c rows) told

-- changes, one after the other
unfoldable pub ChangesTold : Lists → RowMap → List Change → RowMap → Bool → Type 0
ChangesTold catalog rows changes new told = Tells (ChangesFit catalog rows changes) (new ≡ applied catalog changes rows) told

-- the conflict of a Set of a table's row under a key
unfoldable pub ConflictTold : Lists → RowMap → Name → List (Name × Cell) → List Change → List Cell → List Cell → RowMap → Bool → Type 0
ConflictTold catalog rows table key inserts before after new told =
    Tells (ConflictFits catalog rows table key inserts before after) (new ≡ applied catalog (inserts ++ change_of table before after ∷ []) rows) told

-- a statement: it is accepted, and this is the state behind it
unfoldable pub StatementTold : State → Stmt → State → Bool → Type 0
StatementTold s statement after told = Tells (IsAccepted s statement) (after ≡ with_statement statement s) told

-- a text that runs here, with its changes
unfoldable pub RunTold : State → List ℕ → List Change → State → Bool → Type 0
RunTold s text changes after told = TellsOne (RunsHere s text changes) (after_run s changes) after told

-- a text that is passed on and runs here, with its changes
unfoldable pub PassRunTold : State → List ℕ → List Change → State → Bool → Type 0
PassRunTold s text changes after told = TellsOne (RunsToo s text changes) (after_run s changes) after told

-- a text that is passed on alone, with its changes: nothing comes of it here
unfoldable pub PassedTold : List ℕ → List Change → Bool → Type 0
PassedTold text changes told = IsTrue told ↔ ((statement : Stmt) × IsPassedOn text changes statement)

-- an op that was taken, with its outcome
unfoldable pub OpTold : State → Op → Outcome → State → Bool → Type 0
OpTold s op outcome after told = TellsOne (DoesFit s op outcome) (λ d. after_done d s) after told

-- the ops of a transaction, one after the other
unfoldable pub OpsTold : State → List (Op × Outcome) → State → Bool → Type 0
OpsTold s ops after told = TellsOne (DoFit s ops) (λ dones. after_dones dones s) after told

-- an entry
unfoldable pub EntryTold : State → Entry → State → Bool → Type 0
EntryTold s entry after told = TellsOne (FitsAs s entry) (next s) after told
