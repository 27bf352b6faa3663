-- What is known to fit, and the state that it comes to, each in one word.
use Rattle.std.specs.Prelude.{◌≡◌, ℕ, Bool, List, None, Ok}
use Rattle.std.specs.List.{AllByRecursion}
use Rattle.sr_ast.specs.declared.query.Dml.{Dml}
use Rattle.sr_ast.specs.declared.query.Dml.TheVariants as dml
use Rattle.sr_book.specs.Entries.{Name}
use Rattle.sr_exec_dml.specs.declared.changes.Changes.{Changes}
use Rattle.sr_exec_dml.specs.Applying.{applied}
use Rattle.sr_exec_dml.specs.Statements.{done}
use Rattle.sr_database_history.specs.Folds.{State, after_done, after_dones, next}
use Rattle.sr_database_history.specs.Recorded.{Done, Recorded, IsNoExec}
use Rattle.sr_logform.specs.declared.change.Change.{Change}
use Rattle.sr_logform.specs.declared.entry.Entry.{Entry}
use Rattle.sr_logform.specs.declared.entry.Entry.TheVariants as entries
use Rattle.sr_logform.specs.declared.op.Op.{Op}
use Rattle.sr_logform.specs.declared.outcome.Outcome.{Outcome}
use Rattle.sr_rows.specs.Marks.{RowMap}
use Rattle.sr_catalog_schema.specs.Catalogs.{Lists}
use Rattle.sr_database_fold.specs.Inner.Deeds.{DoesFit, DoFit}
use Rattle.sr_database_fold.specs.Inner.Readings.{FitsAs}

-- the entry is that of a recorded one which fits the state
unfoldable pub EntryFits : State → Entry → Type 0
EntryFits s entry = (r : Recorded) × FitsAs s entry r

-- so of a Pass, whoever its users are
unfoldable pub PassFits : State → Bool → List ℕ → List Change → Type 0
PassFits s only text changes = (users : List Name) × EntryFits s (entries.Pass users only text changes)

-- whichever one it is that of, this is the state behind it
unfoldable pub EntryReaches : State → Entry → State → Type 0
EntryReaches s entry after = (r : Recorded) → FitsAs s entry r → after ≡ next s r

-- the op and its outcome are those of a done thing which fits the state
unfoldable pub OpFits : State → Op → Outcome → Type 0
OpFits s op outcome = (d : Done) × DoesFit s op outcome d

-- whichever one it is, this is the state behind it
unfoldable pub OpReaches : State → Op → Outcome → State → Type 0
OpReaches s op outcome after = (d : Done) → DoesFit s op outcome d → after ≡ after_done d s

-- so of ops, one after the other
unfoldable pub OpsFit : State → List (Op × Outcome) → Type 0
OpsFit s ops = (dones : List Done) × DoFit s ops dones

unfoldable pub OpsReach : State → List (Op × Outcome) → State → Type 0
OpsReach s ops after = (dones : List Done) → DoFit s ops dones → after ≡ after_dones dones s

-- none of the ops runs a statement
unfoldable pub NoneRuns : List (Op × Outcome) → Type 0
NoneRuns ops = AllByRecursion (λ p. IsNoExec p.0) ops

-- a statement that is not refused made these of the rows
unfoldable pub IsExecuted : Lists → RowMap → Dml → RowMap → Type 0
IsExecuted catalog rows statement new = (changes : Changes) × (done catalog rows statement ≡ Ok changes) × (new ≡ applied catalog changes.list rows)

-- the DELETE of all rows of a table
abbrev pub deletion_of : Name → Dml
deletion_of name = dml.Delete (record { table = name; condition = None })
