-- What a history gives a user: the views of him before and after each change are compared.
use Rattle.std.specs.Prelude.{ℕ, ◌+◌, Bool, true, false, cond, List, [], ◌∷◌, ◌++◌, flat_map, Option, Some, None, bytes_eq}
use Rattle.sr_base.specs.declared.value.Value.{Value as Cell}
use Rattle.sr_ast.specs.Layout.{printed}
use Rattle.sr_book.specs.Entries.{Name}
use Rattle.sr_exec_where.specs.Keys.{key_of}
use Rattle.sr_exec_dml.specs.Statements.{table_named}
use Rattle.sr_database_history.specs.Folds.{State, fresh, with_changes, done_changes, after_done, next, size}
use Rattle.sr_database_history.specs.Recorded.{Done, plain, ran, conflict, clash, Recorded, own, taken, ddl, sync, pass, note}
use Rattle.sr_logform.specs.declared.change.Change.{Change}
use Rattle.sr_logform.specs.declared.op.Op.{Op}
use Rattle.sr_logform.specs.declared.op.Op.TheVariants.{Insert, Remove, Set, Clear, Exec}
use Rattle.sr_exec_fits.specs.Rows.{is_row}
use Rattle.sr_publish.specs.SubscribedTables.{SubscribedTable, subscribed_table_of}
use Rattle.sr_publish.specs.Views.{view}
use Rattle.sr_catalog_schema.specs.Catalogs.{Lists}
use Rattle.sr_catalog_schema.specs.Firsts.{has}
use Rattle.sr_catalog_schema.specs.declared.table.Table.{Table}
use Rattle.sr_scan.specs.Ops.{present_columns, told_of, told_back, key_changed}

-- ---- changes

-- what the user sees in a state of the row under a key
abbrev pub view_in : State → Name → Name → List Cell → Option (List Cell)
view_in s user table key = view s.catalog s.rows user table key

-- what a change gives: his view of its key before and after; nothing of a table that he has not
abbrev pub change_given : Option SubscribedTable → State → Name → Change → List Op
change_given None s user c = []
change_given (Some subscribed_table) s user c = told_of subscribed_table (key_changed subscribed_table.table c) (view_in s user c.table (key_changed subscribed_table.table c))
    (view_in (with_changes (c ∷ []) s) user c.table (key_changed subscribed_table.table c))

-- what changes give, each in the state that those before it leave
abbrev pub changes_given : State → Name → List Change → List Op
changes_given s user [] = []
changes_given s user (c ∷ changes) = change_given (subscribed_table_of s.catalog user c.table) s user c ++ changes_given (with_changes (c ∷ []) s) user changes

-- ---- what was taken from a partner

-- to another partner: its changes
abbrev pub done_given : State → Name → Done → List Op
done_given s user d = changes_given s user (done_changes d)

-- the row of a key, to the origin of the op, in the state behind it
abbrev pub key_given : Option Table → State → Name → Name → List Cell → List Op
key_given None s user table before = []
key_given (Some t) s user table before = told_back t (subscribed_table_of s.catalog user table) (key_of t.key before) before (view_in s user table (key_of t.key before))

abbrev pub row_given : State → Name → Op → List Cell → List Op
row_given s user (Insert table values) before = []
row_given s user (Remove table key) before = []
row_given s user (Set table key columns) before = key_given (table_named s.catalog table) s user table before
row_given s user (Clear table) before = []
row_given s user (Exec text) before = []

-- to its origin: of an op that met another value what the triggers inserted, and then the row of its key; of any other op nothing
abbrev pub done_given_back : State → Name → Done → List Op
done_given_back s user (plain op changes) = []
done_given_back s user (ran statement changes) = []
done_given_back s user (conflict op inserts before after) = changes_given s user inserts ++ row_given (after_done (conflict op inserts before after) s) user op before
done_given_back s user (clash op why) = []

abbrev pub done_given_to : Bool → State → Name → Done → List Op
done_given_to true s user d = done_given_back s user d
done_given_to false s user d = done_given s user d

-- what ops give, each in the state that those before it leave; a statement that ran changes the catalog for those behind it
abbrev pub dones_given : Bool → State → Name → List Done → List Op
dones_given is_origin s user [] = []
dones_given is_origin s user (d ∷ dones) = done_given_to is_origin s user d ++ dones_given is_origin (after_done d s) user dones

-- ---- SYNCHRONIZE

-- a row of a view, where it is one: it has a fitting value for each column of the article by which the user has the table
abbrev pub row_synced : Option SubscribedTable → Name → List Cell → List Op
row_synced None table row = []
row_synced (Some s) table row = cond (is_row s.columns row) (Insert table (present_columns s.columns row) ∷ []) []

-- a table is cleared, and then each row is inserted
abbrev pub table_synced : Lists → Name → Name × List (List Cell) → List Op
table_synced c user p = Clear p.0 ∷ flat_map (row_synced (subscribed_table_of c user p.0) p.0) p.1

-- ---- entries

-- a statement that is for others only changes nothing here
abbrev pub pass_given : Bool → State → Name → List Change → List Op
pass_given true s user changes = []
pass_given false s user changes = changes_given s user changes

-- what an entry gives a user
unfoldable pub gives : State → Recorded → Name → List Op
gives s (own changes) user = changes_given s user changes
gives s (taken from at dones) user = dones_given (bytes_eq from user) s user dones
gives s (ddl statement) user = []
gives s (sync to tables) user = cond (bytes_eq to user) (flat_map (table_synced s.catalog user) tables) []
gives s (pass users only statement changes) user = cond (has users user) (Exec (printed statement) ∷ []) (pass_given only s user changes)
gives s (note about what) user = []

-- ---- histories

-- the transaction that ends at an offset, before others; one without ops is none
abbrev pub with_transaction : ℕ → List Op → List (ℕ × List Op) → List (ℕ × List Op)
with_transaction end [] rest = rest
with_transaction end (op ∷ ops) rest = (end, op ∷ ops) ∷ rest

-- what entries give that go on from a state and an offset
abbrev pub given_from : State → ℕ → List Recorded → Name → List (ℕ × List Op)
given_from s place [] user = []
given_from s place (r ∷ rs) user = with_transaction (place + (size r + 5)) (gives s r user) (given_from (next s r) (place + (size r + 5)) rs user)

-- what a history gives a user: transactions with the offsets at which their entries end
abbrev pub given_of : Name → List Recorded → Name → List (ℕ × List Op)
given_of publisher rs user = given_from (fresh publisher) 0 rs user
