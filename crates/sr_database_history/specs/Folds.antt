-- What a history comes to: catalog, rows, books and ends. Outcomes are those that stand in the log; nothing is judged again.
use Rattle.std.specs.Prelude.{ℕ, ◌+◌, Bool, true, false, List, [], ◌∷◌, ◌++◌, length, map, Some}
use Rattle.std.specs.FinMap as map_of
use Rattle.sr_base.specs.declared.value.Value.{Value as Cell}
use Rattle.sr_ast.specs.declared.stmt.Stmt.{Stmt}
use Rattle.sr_ast.specs.declared.stmt.Stmt.TheVariants as stmt
use Rattle.sr_book.specs.declared.book.Book.{Book}
use Rattle.sr_book.specs.Entries.{Name, Sight, local, from_user, noted}
use Rattle.sr_book.specs.Histories.{book_of}
use Rattle.sr_catalog_change.specs.Changes.{next as catalog_after}
use Rattle.sr_exec_dml.specs.Applying.{applied}
use Rattle.sr_logform.specs.declared.change.Change.{Change}
use Rattle.sr_logform.specs.declared.op.Op.{Op}
use Rattle.sr_logform.specs.declared.op.Op.TheVariants as ops
use Rattle.sr_logform.specs.Entries.{entry_spelling}
use Rattle.sr_rows.specs.Marks.{RowMap}
use Rattle.sr_rows.specs.Steps.{without_table}
use Rattle.sr_catalog_schema.specs.Catalogs.{Lists, nothing_but}
use Rattle.sr_database_history.specs.Recorded.{Done, plain, ran, conflict, clash, done_of}
use Rattle.sr_database_history.specs.Recorded.{Recorded, own, taken, ddl, sync, pass, note, entry_of}

-- ---- catalog and rows

pub record State : Type 0 where
  pub catalog : Lists
  pub rows : RowMap

-- before any entry: nothing but the publisher
abbrev pub fresh : Name → State
fresh publisher = record { catalog = nothing_but publisher; rows = map_of.empty }

-- with changes applied
abbrev pub with_changes : List Change → State → State
with_changes changes s = record { catalog = s.catalog; rows = applied s.catalog changes s.rows }

-- the rows that a statement on the catalog leaves: DROP TABLE takes those of its table away
abbrev pub rows_left : Stmt → RowMap → RowMap
rows_left (stmt.DropTable name) rows = without_table rows name
rows_left _ rows = rows

-- with a statement applied to the catalog. A statement on rows changes nothing here: its changes stand in the log
unfoldable pub with_statement : Stmt → State → State
with_statement statement s = record { catalog = catalog_after s.catalog statement; rows = rows_left statement s.rows }

-- the table that an op names; none is named by an Exec
abbrev pub table_in : Op → Name
table_in (ops.Insert table values) = table
table_in (ops.Remove table key) = table
table_in (ops.Set table key columns) = table
table_in (ops.Clear table) = table
table_in (ops.Exec text) = []

-- the change of a row of an op's table, whose rows before and after may be equal
abbrev pub row_change : Op → List Cell → List Cell → Change
row_change op before after = record { table = table_in op; before = Some before; after = Some after }

-- the changes of what was done: of a conflict the triggers' inserts and then that of the op's row, of a clash none
abbrev pub done_changes : Done → List Change
done_changes (plain op changes) = changes
done_changes (ran statement changes) = changes
done_changes (conflict op inserts before after) = inserts ++ row_change op before after ∷ []
done_changes (clash op why) = []

-- after an op that was taken: with its changes, and with the statement of an Exec that ran
abbrev pub after_done : Done → State → State
after_done (plain op changes) s = with_changes (done_changes (plain op changes)) s
after_done (ran statement changes) s = with_statement statement (with_changes (done_changes (ran statement changes)) s)
after_done (conflict op inserts before after) s = with_changes (done_changes (conflict op inserts before after)) s
after_done (clash op why) s = s

-- after the ops of a transaction, one after the other
abbrev pub after_dones : List Done → State → State
after_dones [] s = s
after_dones (d ∷ dones) s = after_dones dones (after_done d s)

-- after a passed statement: nothing where it is for the users only
abbrev pub after_pass : Bool → Stmt → List Change → State → State
after_pass true statement changes s = s
after_pass false statement changes s = with_statement statement (with_changes changes s)

-- the state after an entry
unfoldable pub next : State → Recorded → State
next s (own changes) = with_changes changes s
next s (taken user at dones) = after_dones dones s
next s (ddl statement) = with_statement statement s
next s (sync user tables) = s
next s (pass users only statement changes) = after_pass only statement changes s
next s (note user what) = s

-- the state after entries that go on from one
abbrev pub state_from : State → List Recorded → State
state_from s [] = s
state_from s (r ∷ rs) = state_from (next s r) rs

-- the state after a history
abbrev pub state_of : Name → List Recorded → State
state_of publisher rs = state_from (fresh publisher) rs

-- ---- ends

-- the length of an entry's body, in bytes
unfoldable pub size : Recorded → ℕ
size r = length (entry_spelling (entry_of r))

-- the end of entries that go on from an offset: each ends the length of its body and five bytes later
abbrev pub end_from : ℕ → List Recorded → ℕ
end_from place [] = place
end_from place (r ∷ rs) = end_from (place + (size r + 5)) rs

-- the end of a history
abbrev pub end_of : List Recorded → ℕ
end_of rs = end_from 0 rs

-- ---- books

-- what a book sees of an entry: of a taken transaction its ops, without what became of them
abbrev pub sees : Recorded → Sight (List Op)
sees (own changes) = local
sees (taken user at dones) = from_user user at.0 (map (λ d. (done_of d).0) dones)
sees (ddl statement) = local
sees (sync user tables) = local
sees (pass users only statement changes) = local
sees (note user what) = noted user what

-- the book of a user after a history
abbrev pub books_of : Name → List Recorded → Book
books_of user rs = book_of sees user rs
