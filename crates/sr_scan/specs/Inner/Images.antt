-- What an entry gives a user, by its own images and the catalog alone.
use Rattle.std.specs.Prelude.{Bool, true, false, ◌&&◌, cond, nat_eq, List, [], ◌∷◌, ◌++◌, length, map, flat_map, Option, Some, None, slice_get, bytes_eq}
use Rattle.std.specs.Ordering.{eq_by_cmp}
use Rattle.sr_base.specs.Order.{key_cmp}
use Rattle.sr_base.specs.declared.value.Value.{Value as Cell}
use Rattle.sr_ast.specs.declared.stmt.Stmt.{Stmt}
use Rattle.sr_book.specs.Entries.{Name}
use Rattle.sr_catalog_change.specs.Changes.{refusal, next}
use Rattle.sr_exec_where.specs.Keys.{key_of}
use Rattle.sr_exec_dml.specs.Statements.{table_named}
use Rattle.sr_exec_where.specs.Inner.Fixing.{with_value}
use Rattle.sr_database_history.specs.Fitting.{fitted_in}
use Rattle.sr_logform.specs.declared.change.Change.{Change}
use Rattle.sr_logform.specs.declared.entry.Entry.{Entry}
use Rattle.sr_logform.specs.declared.entry.Entry.TheVariants.{Own, From, Ddl, Sync, Pass, Note}
use Rattle.sr_logform.specs.declared.op.Op.{Op}
use Rattle.sr_logform.specs.declared.op.Op.TheVariants.{Insert, Remove, Set, Clear, Exec}
use Rattle.sr_logform.specs.declared.outcome.Outcome.{Outcome}
use Rattle.sr_logform.specs.declared.outcome.Outcome.TheVariants.{Plain, Conflict, Clash}
use Rattle.sr_exec_fits.specs.Rows.{is_row}
use Rattle.sr_publish.specs.SubscribedTables.{SubscribedTable, subscribed_table_of}
use Rattle.sr_publish.specs.Views.{shown_row}
use Rattle.sr_catalog_schema.specs.Catalogs.{Lists}
use Rattle.sr_catalog_schema.specs.Firsts.{has}
use Rattle.sr_catalog_schema.specs.declared.fault.DdlFault.{DdlFault}
use Rattle.sr_catalog_schema.specs.declared.table.Table.{Table}
use Rattle.sr_scan.specs.Ops.{told_of, told_back, key_of_rows}
use Rattle.sr_scan.specs.Given.{table_synced}

-- what a user has of each table
abbrev pub SubscribedTables : Type 0
SubscribedTables = Name → Option SubscribedTable

-- ---- changes

-- a row that is there fits the table
abbrev pub fits_if : Table → Option (List Cell) → Bool
fits_if t None = true
fits_if t (Some row) = is_row t.columns row

-- what two rows give, one in place of the other: what the user sees of them. Nothing where one of them does not fit the table
abbrev pub images_told : SubscribedTable → Option (List Cell) → Option (List Cell) → List Op
images_told s before after = cond (fits_if s.table before && fits_if s.table after)
    (told_of s (key_of_rows s.table before after) (shown_row (Some s) before) (shown_row (Some s) after)) []

-- what a change gives; nothing of a table that the user has not
abbrev pub change_told : Option SubscribedTable → Change → List Op
change_told None c = []
change_told (Some s) c = images_told s c.before c.after

abbrev pub changes_told : SubscribedTables → List Change → List Op
changes_told subscribed_tables changes = flat_map (λ c. change_told (subscribed_tables c.table) c) changes

-- ---- conflicts

abbrev pub all_of : List (Option Cell) → Option (List Cell)
all_of [] = Some []
all_of (v ∷ values) = with_value v (all_of values)

-- the key that columns name, with their values fitted: they are as many as the key has, and each of those is among them
abbrev pub key_meant : Table → List (Name × Cell) → Option (List Cell)
key_meant t columns = cond (nat_eq (length columns) (length t.key)) (all_of (map (λ place. fitted_in columns (slice_get t.columns place)) t.key)) None

-- a row stands under a key
abbrev pub stands_under : Table → Option (List Cell) → List Cell → Bool
stands_under t None row = false
stands_under t (Some key) row = eq_by_cmp key_cmp key (key_of t.key row)

-- two rows fit the table and stand under the key that columns name
abbrev pub are_rows_of : Table → List (Name × Cell) → List Cell → List Cell → Bool
are_rows_of t columns before after = is_row t.columns before && (is_row t.columns after
    && (stands_under t (key_meant t columns) before && stands_under t (key_meant t columns) after))

-- the change of the op's row, whose rows may be equal
abbrev pub row_changed : Name → List Cell → List Cell → Change
row_changed table before after = record { table = table; before = Some before; after = Some after }

-- to the origin of the op what the triggers inserted and then the row of its key, to another user all changes
abbrev pub rows_told : Bool → SubscribedTables → Table → Name → List Change → List Cell → List Cell → List Op
rows_told true subscribed_tables t table inserts before after =
    changes_told subscribed_tables inserts ++ told_back t (subscribed_tables table) (key_of t.key before) before (shown_row (subscribed_tables table) (Some after))
rows_told false subscribed_tables t table inserts before after = changes_told subscribed_tables (inserts ++ row_changed table before after ∷ [])

-- nothing where the table is not there or the rows are not those of the op
abbrev pub conflict_told : Bool → SubscribedTables → Option Table → Name → List (Name × Cell) → List Change → List Cell → List Cell → List Op
conflict_told is_origin subscribed_tables None table key inserts before after = []
conflict_told is_origin subscribed_tables (Some t) table key inserts before after =
    cond (are_rows_of t key before after) (rows_told is_origin subscribed_tables t table inserts before after) []

-- nothing where the op is no Set
abbrev pub met_told : Bool → Lists → Name → Op → List Change → List Cell → List Cell → List Op
met_told is_origin c user (Insert table values) inserts before after = []
met_told is_origin c user (Remove table key) inserts before after = []
met_told is_origin c user (Set table key columns) inserts before after =
    conflict_told is_origin (subscribed_table_of c user) (table_named c table) table key inserts before after
met_told is_origin c user (Clear table) inserts before after = []
met_told is_origin c user (Exec text) inserts before after = []

-- what an op gives that was taken, with what became of it
abbrev pub op_told : Bool → Lists → Name → Op → Outcome → List Op
op_told is_origin c user op (Plain changes) = cond is_origin [] (changes_told (subscribed_table_of c user) changes)
op_told is_origin c user op (Conflict inserts before after) = met_told is_origin c user op inserts before after
op_told is_origin c user op (Clash why) = []

-- ---- the catalog goes on

-- a statement that the catalog refuses changes nothing
abbrev pub unless_refused : Option DdlFault → Lists → Lists → Lists
unless_refused None before after = after
unless_refused (Some fault) before after = before

-- the catalog behind a statement, if there is one
abbrev pub catalog_behind : Lists → Option Stmt → Lists
catalog_behind c None = c
catalog_behind c (Some statement) = unless_refused (refusal c statement) c (next c statement)

-- behind several, one after the other
abbrev pub catalog_after : Lists → List (Option Stmt) → Lists
catalog_after c [] = c
catalog_after c (m ∷ meant) = catalog_after (catalog_behind c m) meant

-- what ops give, each by the catalog behind the statements of those before it
abbrev pub ops_told : Bool → Lists → Name → List (Op × Outcome) → List (Option Stmt) → List Op
ops_told is_origin c user [] meant = []
ops_told is_origin c user (p ∷ ops) [] = []
ops_told is_origin c user (p ∷ ops) (m ∷ meant) = op_told is_origin c user p.0 p.1 ++ ops_told is_origin (catalog_behind c m) user ops meant

-- ---- entries

-- what an entry gives a user, with the statements that its texts are
unfoldable pub told : Lists → Entry → List (Option Stmt) → Name → List Op
told c (Own changes) meant user = changes_told (subscribed_table_of c user) changes
told c (From from at ops) meant user = ops_told (bytes_eq from user) c user ops meant
told c (Ddl text) meant user = []
told c (Sync to tables) meant user = cond (bytes_eq to user) (flat_map (table_synced c user) tables) []
told c (Pass users only text changes) meant user =
    cond (has users user) (Exec text ∷ []) (cond only [] (changes_told (subscribed_table_of c user) changes))
told c (Note about what) meant user = []
