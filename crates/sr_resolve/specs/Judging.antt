-- What becomes of an op: its outcome on a catalog and rows, by who sent it. Of the cases of each op, the first that fits.
use Rattle.std.specs.Prelude.{◌≡◌, ℕ, Bool, true, false, not, cond, nat_lt, is_some, List, [], ◌∷◌, map, length, Option, Some, None, Result, Ok, Err}
use Rattle.std.specs.List.{list_any}
use Rattle.sr_ast.specs.Statements.{is_carried}
use Rattle.sr_ast.specs.declared.stmt.Stmt.{Stmt}
use Rattle.sr_ast.specs.declared.stmt.Stmt.TheVariants as stmt
use Rattle.sr_base.specs.Fields.{list_spelling}
use Rattle.sr_base.specs.declared.value.Value.{Value as Cell}
use Rattle.sr_book.specs.Entries.{Name}
use Rattle.sr_catalog_change.specs.Changes.{refusal}
use Rattle.sr_eval.specs.Comparisons.{is_null}
use Rattle.sr_exec_dml.specs.Holding.{with_change}
use Rattle.sr_exec_where.specs.Keys.{key_of}
use Rattle.sr_exec_dml.specs.Statements.{table_named, done}
use Rattle.sr_exec_dml.specs.declared.changes.Changes.{Changes}
use Rattle.sr_resolve_triggers.specs.Actions.{insertion}
use Rattle.sr_resolve_triggers.specs.Firing.{fired}
use Rattle.sr_resolve_triggers.specs.Bindings.{UpdateConflict}
use Rattle.sr_resolve_triggers.specs.declared.fired.Fired.{Fired}
use Rattle.sr_logform.specs.Limits.{short_body}
use Rattle.sr_logform.specs.Outcomes.{change_spelling}
use Rattle.sr_logform.specs.declared.change.Change.{Change}
use Rattle.sr_logform.specs.declared.op.Op.{Op}
use Rattle.sr_logform.specs.declared.op.Op.TheVariants as op
use Rattle.sr_logform.specs.declared.outcome.Clash.{Clash as Why}
use Rattle.sr_logform.specs.declared.outcome.Clash.TheVariants.{Duplicate, NoRow, NoTable, NoColumn, BadValue, Null, Trigger, Statement}
use Rattle.sr_logform.specs.declared.outcome.Outcome.{Outcome}
use Rattle.sr_logform.specs.declared.outcome.Outcome.TheVariants.{Plain, Conflict, Clash}
use Rattle.sr_parse.specs.Prints.{Prints}
use Rattle.sr_rows.specs.Marks.{RowMap, rows_of_table}
use Rattle.sr_rows.specs.Walks.{Entry, table_rows}
use Rattle.sr_catalog_schema.specs.Catalogs.{Lists}
use Rattle.sr_catalog_schema.specs.declared.fault.DdlFault.{DdlFault}
use Rattle.sr_catalog_schema.specs.declared.fault.DmlFault.{DmlFault}
use Rattle.sr_catalog_schema.specs.declared.table.Table.{Table}
use Rattle.sr_resolve.specs.Named.{Values, Updates, names_key, fitted_key, names_other, filled_row, has_null, is_no_target, new_values, sets_null, with_news, differing, old_row}

-- ---- cases

-- a clash where it is so, or else what comes next
abbrev pub clash_if : Bool → Why → Outcome → Outcome
clash_if it_is why next = cond it_is (Clash why) next

-- a clash where there is nothing, or else what comes of what is there
abbrev pub clash_unless : {A : Type 0} → Option A → Why → (A → Outcome) → Outcome
clash_unless None why next = Clash why
clash_unless (Some x) why next = next x

-- ---- Insert: the row is put, and columns that are not named hold NULL

-- a row is put where its key is not held
abbrev pub put_in : RowMap → Table → List Cell → Outcome
put_in rows table row =
    clash_if (is_some (rows_of_table rows table.name (key_of table.key row))) Duplicate (Plain (insertion table row ∷ []))

-- and where no NOT NULL column is without a value
abbrev pub filled_in : RowMap → Table → List Cell → Outcome
filled_in rows table row = clash_if (has_null table.columns row) Null (put_in rows table row)

unfoldable pub judged_insert : RowMap → Values → Table → Outcome
judged_insert rows values table =
    clash_if (names_other table values) NoColumn
    (clash_unless (filled_row values table.columns) BadValue (filled_in rows table))

-- ---- Remove: the row of the key goes

-- the change that a row makes which goes
abbrev pub removal : List ℕ → List Cell → Change
removal table row = record { table = table; before = Some row; after = None }

-- the row goes that is held under a key
abbrev pub removed_at : RowMap → Table → List Cell → Outcome
removed_at rows table place =
    clash_if (list_any is_null place) Null
    (clash_unless (rows_of_table rows table.name place) NoRow (λ row. Plain (removal table.name row ∷ [])))

unfoldable pub judged_remove : RowMap → Values → Table → Outcome
judged_remove rows key table =
    clash_if (not (names_key table key)) NoColumn
    (clash_unless (fitted_key table key) BadValue (removed_at rows table))

-- ---- Set: the row of the key gets the new values

-- what is before a conflict is resolved
abbrev pub ground_of : Lists → RowMap → Updates → Table → List Cell → UpdateConflict
ground_of catalog rows updates table stored =
    record { catalog = catalog; rows = rows; table = table; stored = stored; remote = old_row updates table.columns }

-- what the triggers leave; a clash where one of them fails
abbrev pub resolved : List Cell → Option Fired → Outcome
resolved stored None = Clash Trigger
resolved stored (Some f) = Conflict f.inserts stored f.new

-- no change where nothing differs
abbrev pub changed : List ℕ → List Cell → List Cell → Outcome
changed table stored new = Plain (with_change table (Some stored) (Some new) [])

-- one of two, by whether no column differs
abbrev pub where_met : List Name → Outcome → Outcome → Outcome
where_met [] met conflict = met
where_met (name ∷ names) met conflict = conflict

-- an update of a row that is stored: from above it is made; from below it is made where each stored value is equal to its old value, and
-- else it is a conflict, which fires triggers
unfoldable pub judged_update : Lists → RowMap → Bool → Updates → Table → List Cell → List Cell → Outcome
judged_update catalog rows above updates table stored new =
    cond above (changed table.name stored new)
    (where_met (differing updates table.columns stored) (changed table.name stored new)
    (resolved stored (fired (ground_of catalog rows updates table stored) (differing updates table.columns stored) new)))

-- an update of the row that is held under a key, with new values that fit
abbrev pub updated_at : Lists → RowMap → Bool → Updates → Table → List Cell → List (Option Cell) → Outcome
updated_at catalog rows above updates table place news =
    clash_if (list_any is_null place) Null
    (clash_if (sets_null table.columns news) Null
    (clash_unless (rows_of_table rows table.name place) NoRow (λ stored.
    judged_update catalog rows above updates table stored (with_news news stored))))

-- with new values that may not fit
abbrev pub set_at : Lists → RowMap → Bool → Updates → Table → List Cell → Outcome
set_at catalog rows above updates table place =
    clash_unless (new_values above updates table.columns) BadValue (updated_at catalog rows above updates table place)

unfoldable pub judged_set : Lists → RowMap → Bool → Values → Updates → Table → Outcome
judged_set catalog rows above key updates table =
    clash_if (not (names_key table key)) NoColumn
    (clash_if (list_any (is_no_target table) updates) NoColumn
    (clash_unless (fitted_key table key) BadValue (set_at catalog rows above updates table)))

-- ---- Clear: from above every row of the table goes, by ascending key

unfoldable pub judged_clear : RowMap → Bool → Table → Outcome
judged_clear rows false table = Clash Statement
judged_clear rows true table = Plain (map (λ (e : Entry). removal table.name e.1) (table_rows rows table.name))

-- ---- Exec: from above the statement runs that the text prints, if there is one and passthrough carries it

-- whether a list of changes spells more than 4 MiB
abbrev pub is_too_long : List Change → Bool
is_too_long changes = nat_lt short_body (length (list_spelling change_spelling changes))

-- the changes of a statement on rows
abbrev pub ran_dml : Result Changes DmlFault → Outcome
ran_dml (Err fault) = Clash Statement
ran_dml (Ok changes) = clash_if (is_too_long changes.list) Statement (Plain changes.list)

-- a statement on the catalog changes no row
abbrev pub ran_ddl : Option DdlFault → Outcome
ran_ddl None = Plain []
ran_ddl (Some fault) = Clash Statement

abbrev pub ran_stmt : Lists → RowMap → Stmt → Outcome
ran_stmt catalog rows (stmt.Dml d) = ran_dml (done catalog rows d)
ran_stmt catalog rows s = ran_ddl (refusal catalog s)

abbrev pub executed : Lists → RowMap → Stmt → Outcome
executed catalog rows s = clash_if (not (is_carried s)) Statement (ran_stmt catalog rows s)

unfoldable pub judged_exec : Lists → RowMap → Bool → Option Stmt → Outcome
judged_exec catalog rows false statement = Clash Statement
judged_exec catalog rows true statement = clash_unless statement Statement (executed catalog rows)

-- ---- any op

-- the outcome of an op that came from above or from below; where it is an Exec, its text prints the statement, or none
abbrev pub judged : Lists → RowMap → Bool → Op → Option Stmt → Outcome
judged catalog rows above (op.Insert table values) statement = clash_unless (table_named catalog table) NoTable (judged_insert rows values)
judged catalog rows above (op.Remove table key) statement = clash_unless (table_named catalog table) NoTable (judged_remove rows key)
judged catalog rows above (op.Set table key columns) statement = clash_unless (table_named catalog table) NoTable (judged_set catalog rows above key columns)
judged catalog rows above (op.Clear table) statement = clash_unless (table_named catalog table) NoTable (judged_clear rows above)
judged catalog rows above (op.Exec text) statement = judged_exec catalog rows above statement

-- the statement in normal form that a text prints, if there is one
abbrev pub IsPrintedBy : Option Stmt → List ℕ → Type 0
IsPrintedBy None text = (s : Stmt) → ¬ (Prints s text)
IsPrintedBy (Some s) text = Prints s text

-- the statement that an op carries, if it carries one
abbrev pub IsStatementOf : Option Stmt → Op → Type 0
IsStatementOf statement (op.Insert table values) = statement ≡ None
IsStatementOf statement (op.Remove table key) = statement ≡ None
IsStatementOf statement (op.Set table key columns) = statement ≡ None
IsStatementOf statement (op.Clear table) = statement ≡ None
IsStatementOf statement (op.Exec text) = IsPrintedBy statement text

-- the outcome is that of the op, with the statement that it carries
pub record IsJudged (catalog : Lists) (rows : RowMap) (above : Bool) (op : Op) (outcome : Outcome) : Type 0 where
  pub statement : Option Stmt
  pub carried : IsStatementOf statement op
  pub outcome_is : outcome ≡ judged catalog rows above op statement
