-- Which entry fits which state, and which histories may stand in a log.
use Rattle.std.specs.Prelude.{◌≡◌, ⊤, ℕ, ◌+◌, ◌≤◌, Bool, true, false, cond, List, [], ◌∷◌, length, map, Option, Some, None, IsSome, IsTrue, Result, Ok, Err, slice_get, bytes_eq}
use Rattle.std.specs.List.{AllByRecursion}
use Rattle.sr_base.specs.declared.value.Value.{Value as Cell}
use Rattle.sr_base.specs.Values.{farthest_offset}
use Rattle.sr_ast.specs.Statements.{is_ddl}
use Rattle.sr_ast.specs.declared.stmt.Stmt.{Stmt}
use Rattle.sr_ast.specs.declared.stmt.Stmt.TheVariants as stmt
use Rattle.sr_book.specs.Entries.{Name}
use Rattle.sr_catalog_change.specs.Changes.{refusal}
use Rattle.sr_base_dates.specs.Fitting.{fitted}
use Rattle.sr_exec_fits.specs.Rows.{IsRow}
use Rattle.sr_exec_dml.specs.FittingChanges.{ChangesFit}
use Rattle.sr_exec_dml.specs.declared.changes.Changes.{Changes}
use Rattle.sr_exec_dml.specs.Statements.{done, table_named}
use Rattle.sr_exec_where.specs.Keys.{key_of}
use Rattle.sr_logform.specs.declared.change.Change.{Change}
use Rattle.sr_logform.specs.declared.op.Op.{Op}
use Rattle.sr_logform.specs.declared.op.Op.TheVariants as ops
use Rattle.sr_logform.specs.Entries.{IsEntry}
use Rattle.sr_logform.specs.Limits.{longest_body}
use Rattle.sr_catalog_schema.specs.Catalogs.{Lists}
use Rattle.sr_catalog_schema.specs.declared.fault.DmlFault.{DmlFault}
use Rattle.sr_catalog_schema.specs.Members.{user_name}
use Rattle.sr_catalog_schema.specs.Names.{named}
use Rattle.sr_catalog_schema.specs.declared.table.Column.{Column}
use Rattle.sr_catalog_schema.specs.declared.table.Table.{Table}
use Rattle.sr_database_history.specs.Recorded.{Done, plain, ran, conflict, clash, Recorded, own, taken, ddl, sync, pass, note, entry_of, IsRecorded}
use Rattle.sr_database_history.specs.Folds.{State, fresh, done_changes, after_done, next, size}

-- ---- parts of an entry

-- the user is granted
abbrev pub Knows : State → Name → Type 0
Knows s user = IsSome (named user_name user s.catalog.users)

-- there are changes, and no refusal
abbrev pub HasChanges : Result Changes DmlFault → Type 0
HasChanges (Ok changes) = ⊤
HasChanges (Err fault) = ⊥

-- an INSERT, UPDATE or DELETE is not refused by the rows that it meets
abbrev pub RowsAllow : State → Stmt → Type 0
RowsAllow s (stmt.Dml d) = HasChanges (done s.catalog s.rows d)
RowsAllow s statement = ⊤

-- the statement is accepted: the catalog does not refuse it, nor do the rows
pub record IsAccepted (s : State) (statement : Stmt) : Type 0 where
  pub catalog : refusal s.catalog statement ≡ None
  pub rows : RowsAllow s statement

-- a change that inserts
abbrev pub IsInsertion : Change → Type 0
IsInsertion c = c.before ≡ None

-- the value that is named for a column, fitted to it
abbrev pub fitted_in : List (Name × Cell) → Option Column → Option Cell
fitted_in [] column = None
fitted_in (v ∷ values) None = None
fitted_in (v ∷ values) (Some column) = cond (bytes_eq v.0 column.name) (fitted v.1 column.kind) (fitted_in values (Some column))

-- values, where each is there
abbrev pub all_there : List (Option Cell) → List Cell → Type 0
all_there [] [] = ⊤
all_there [] (v ∷ key) = ⊥
all_there (o ∷ os) [] = ⊥
all_there (o ∷ os) (v ∷ key) = (o ≡ Some v) × all_there os key

-- the named columns are the table's key, and with their values fitted this is the key
pub record IsNamedKey (table : Table) (columns : List (Name × Cell)) (key : List Cell) : Type 0 where
  pub count : length columns ≡ length table.key
  pub values : all_there (map (λ place. fitted_in columns (slice_get table.columns place)) table.key) key

-- both rows of a conflict fit the table of the Set, and stand under the key that the Set names
pub record AreNamedRows (catalog : Lists) (name : Name) (columns : List (Name × Cell)) (before after : List Cell) : Type 0 where
  pub table : Table
  pub named : table_named catalog name ≡ Some table
  pub fits_before : IsRow table.columns before
  pub fits_after : IsRow table.columns after
  pub key : List Cell
  pub meant : IsNamedKey table columns key
  pub key_before : key_of table.key before ≡ key
  pub key_after : key_of table.key after ≡ key

-- the rows of a conflict are those of its op
abbrev pub AreRowsOf : Lists → Op → List Cell → List Cell → Type 0
AreRowsOf catalog (ops.Insert table values) before after = ⊥
AreRowsOf catalog (ops.Remove table key) before after = ⊥
AreRowsOf catalog (ops.Set table key columns) before after = AreNamedRows catalog table key before after
AreRowsOf catalog (ops.Clear table) before after = ⊥
AreRowsOf catalog (ops.Exec text) before after = ⊥

-- ---- what was done

-- what an outcome asks of the state besides the changes that it makes: the statement of an Exec is accepted; triggers insert, and a
-- conflict's rows are those of its op
abbrev pub OutcomeFits : State → Done → Type 0
OutcomeFits s (plain op changes) = ⊤
OutcomeFits s (ran statement changes) = IsAccepted s statement
OutcomeFits s (conflict op inserts before after) = AllByRecursion IsInsertion inserts × AreRowsOf s.catalog op before after
OutcomeFits s (clash op why) = ⊤

-- its changes fit: each row before is the one that is held, both rows stand under one key, and the row after fits its table
pub record DoneFits (s : State) (d : Done) : Type 0 where
  pub changes : ChangesFit s.catalog s.rows (done_changes d)
  pub outcome : OutcomeFits s d

-- each fits the state that those before it leave
abbrev pub DonesFit : State → List Done → Type 0
DonesFit s [] = ⊤
DonesFit s (d ∷ dones) = DoneFits s d × DonesFit (after_done d s) dones

-- ---- entries

-- the statement of a Pass is accepted where it ran here
abbrev pub IsAcceptedPass : State → Bool → Stmt → Type 0
IsAcceptedPass s true statement = ⊤
IsAcceptedPass s false statement = IsAccepted s statement

-- the changes of a Pass are those of a statement on rows that ran here: there are none where it is for the users only, and none of a statement
-- on the catalog
abbrev pub MayHaveChanges : Bool → Stmt → List Change → Type 0
MayHaveChanges true statement changes = changes ≡ []
MayHaveChanges false statement changes = IsTrue (is_ddl statement) → changes ≡ []

-- what an entry asks of the state: its changes fit, its statement is accepted, its users are granted; and a Pass has no changes where nothing can
-- have made them
unfoldable pub FitsState : State → Recorded → Type 0
FitsState s (own changes) = ChangesFit s.catalog s.rows changes
FitsState s (taken user at dones) = Knows s user × DonesFit s dones
FitsState s (ddl statement) = IsAccepted s statement
FitsState s (sync user tables) = Knows s user
FitsState s (pass users only statement changes) = AllByRecursion (Knows s) users × ChangesFit s.catalog s.rows changes × IsAcceptedPass s only statement
    × MayHaveChanges only statement changes
FitsState s (note user what) = Knows s user

-- an entry may stand in the log in this state and behind this offset: it is meant, has a spelling that is no longer than its kind may
-- be, ends at 2^62 at most, and fits the state
pub record Fits (s : State) (place : ℕ) (r : Recorded) : Type 0 where
  pub meant : IsRecorded r
  pub spelled : IsEntry (entry_of r)
  pub short : size r ≤ longest_body (entry_of r)
  pub ends : place + (size r + 5) ≤ farthest_offset
  pub state : FitsState s r

-- each entry fits the state and the offset that those before it leave
abbrev pub stored_from : State → ℕ → List Recorded → Type 0
stored_from s place [] = ⊤
stored_from s place (r ∷ rs) = Fits s place r × stored_from (next s r) (place + (size r + 5)) rs

-- the history of a database of this publisher may stand in its log
abbrev pub Stored : Name → List Recorded → Type 0
Stored publisher rs = stored_from (fresh publisher) 0 rs
