-- A key of a table that a database below has not touched, since what the one above gave it began to tell all of it.
use Rattle.std.specs.Prelude.{◌≡◌, ◌⊎◌, ◌<◌, ◌≤◌, ⊤, ℕ, true, false, List, [], ◌∷◌, ◌++◌, map, Option, Some, None}
use Rattle.std.specs.List.{AllByRecursion}
use Rattle.sr_ast.specs.declared.stmt.Stmt.TheVariants as stmt
use Rattle.sr_base.specs.declared.offset.Offset.{Offset}
use Rattle.sr_base.specs.declared.value.Value.{Value as Cell}
use Rattle.sr_book.specs.Entries.{Name}
use Rattle.sr_book.specs.Histories.{taken_end}
use Rattle.sr_exec_where.specs.Keys.{key_of}
use Rattle.sr_exec_dml.specs.Statements.{table_named}
use Rattle.sr_database_history.specs.Folds.{State, after_done, end_of, next, sees, state_of}
use Rattle.sr_database_history.specs.Recorded.{Done, plain, ran, conflict, clash, Recorded, taken, ddl, sync, pass}
use Rattle.sr_logform.specs.declared.op.Op.{Op}
use Rattle.sr_logform.specs.declared.op.Op.TheVariants.{Insert, Remove, Set, Clear, Exec}
use Rattle.sr_world_model.specs.Worlds.{World, history}
use Rattle.sr_publish.specs.SubscribedTables.{SubscribedTable, subscribed_table_of}
use Rattle.sr_resolve.specs.Named.{filled_row, fitted_key}
use Rattle.sr_resolve.specs.Taking.{is_above}
use Rattle.sr_rows.specs.Marks.{rows_of_table}
use Rattle.sr_scan.specs.Given.{view_in}
use Rattle.sr_catalog_schema.specs.Firsts.{has}
use Rattle.sr_catalog_schema.specs.Members.{key_names}
use Rattle.sr_catalog_schema.specs.declared.table.Table.{Table}
use Rattle.sr_world_untouched.specs.Agreeing.{HasColumns, HasShown}

-- each entry, in the state that those before it leave
abbrev pub EachFrom : (State → Recorded → Type 0) → State → List Recorded → Type 0
EachFrom P s [] = ⊤
EachFrom P s (r ∷ rs) = P s r × EachFrom P (next s r) rs

-- ---- above

-- an op names a key of a table
abbrev pub NamesKey : Table → List Cell → Op → Type 0
NamesKey t key (Insert table values) = (table ≡ t.name) × ((row : List Cell) × (filled_row values t.columns ≡ Some row) × (key_of t.key row ≡ key))
NamesKey t key (Remove table named) = (table ≡ t.name) × (fitted_key t named ≡ Some key)
NamesKey t key (Set table named updates) = (table ≡ t.name) × (fitted_key t named ≡ Some key)
NamesKey t key (Clear table) = ⊥
NamesKey t key (Exec text) = ⊥

-- what was done with an op that came from below touches the key: it names it, or cleared a table, or ran a statement
abbrev pub Touches : Table → List Cell → Done → Type 0
Touches t key (plain (Clear table) changes) = ⊤
Touches t key (plain op changes) = NamesKey t key op
Touches t key (ran statement changes) = ⊤
Touches t key (conflict op inserts before after) = NamesKey t key op
Touches t key (clash op why) = NamesKey t key op

-- the user has this subscribed table of the table, in a state and behind each op that was taken
abbrev pub HasSubscribedTable : Name → SubscribedTable → State → Type 0
HasSubscribedTable user subscribed_table s = subscribed_table_of s.catalog user subscribed_table.table.name ≡ Some subscribed_table

abbrev pub KeepsSubscribedTable : Name → SubscribedTable → State → List Done → Type 0
KeepsSubscribedTable user subscribed_table s [] = HasSubscribedTable user subscribed_table s
KeepsSubscribedTable user subscribed_table s (d ∷ dones) = HasSubscribedTable user subscribed_table s × KeepsSubscribedTable user subscribed_table (after_done d s) dones

abbrev pub SubscribedTableStays : Name → SubscribedTable → State → Recorded → Type 0
SubscribedTableStays user subscribed_table s (taken from at dones) = KeepsSubscribedTable user subscribed_table s dones
SubscribedTableStays user subscribed_table s r = HasSubscribedTable user subscribed_table s × HasSubscribedTable user subscribed_table (next s r)

-- no statement is passed on to the user
abbrev pub PassesNone : Name → Recorded → Type 0
PassesNone user (pass users only statement changes) = has users user ≡ false
PassesNone user r = ⊤

-- of what was taken from the user nothing touches the key
abbrev pub TakesNone : Name → Table → List Cell → Recorded → Type 0
TakesNone user t key (taken from at dones) = from ≡ user → AllByRecursion (λ d. Touches t key d → ⊥) dones
TakesNone user t key r = ⊤

-- an entry above
pub record KeepsAbove (user : Name) (subscribed_table : SubscribedTable) (key : List Cell) (s : State) (r : Recorded) : Type 0 where
  pub passes_none : PassesNone user r
  pub takes_none : TakesNone user subscribed_table.table key r
  pub subscribed_table_stays : SubscribedTableStays user subscribed_table s r

-- ---- below

-- an entry below that was taken from the one above
abbrev pub IsTakenFrom : Name → Recorded → Type 0
IsTakenFrom user (taken from at dones) = from ≡ user
IsTakenFrom user r = ⊥

-- any other entry leaves the row; each leaves the table
pub record KeepsBelow (above : Name) (t : Table) (key : List Cell) (s : State) (r : Recorded) : Type 0 where
  pub row : IsTakenFrom above r ⊎ (rows_of_table (next s r).rows t.name key ≡ rows_of_table s.rows t.name key)
  pub table : (table_named s.catalog t.name ≡ Some t) × (table_named (next s r).catalog t.name ≡ Some t)

-- ---- how it begins

-- the last entry of these is a START of a subscription of the user
abbrev pub Starts : Name → Recorded → Type 0
Starts user (ddl (stmt.StartSubscription rule)) = rule.user ≡ user
Starts user (pass users false (stmt.StartSubscription rule) changes) = rule.user ≡ user
Starts user r = ⊥

-- the first of what the database below has of it: it takes this offset from above
pub record BeginsTaking (above : Name) (at : ℕ) (new : List Recorded) : Type 0 where
  pub offset : Offset
  pub dones : List Done
  pub more : List Recorded
  pub is : new ≡ taken above offset dones ∷ more
  pub at_is : offset.0 ≡ at

-- by a Sync that has the table: with it all that follows begins
pub record BySync (user above table : Name) (before since old new : List Recorded) : Type 0 where
  pub tables : List (Name × List (List Cell))
  pub rest : List Recorded
  pub is : since ≡ sync user tables ∷ rest
  pub among : has (map (λ p. p.0) tables) table ≡ true
  pub takes : BeginsTaking above (end_of (before ++ sync user tables ∷ [])) new

-- by a START behind which the view has no row there; what was taken until then lies before it, and no row was held then
pub record ByStart (user above table : Name) (key : List Cell) (before since old new : List Recorded) : Type 0 where
  pub earlier : List Recorded
  pub start : Recorded
  pub is : before ≡ earlier ++ start ∷ []
  pub starts : Starts user start
  pub unseen : view_in (state_of above before) user table key ≡ None
  pub at : ℕ
  pub past : end_of before < at
  pub until : taken_end sees above old ≤ end_of before
  pub takes : BeginsTaking above at new
  pub none : rows_of_table (state_of user old).rows table key ≡ None

-- a key of a table is untouched below: of the history above up to what was taken, the entries from the beginning on leave it to the one below, and of that below
-- those from the beginning's take on
pub record IsUntouched (w : World Recorded) (user above : Name) (key : List Cell) (subscribed_table : SubscribedTable) (below : Table) : Type 0 where
  pub from_above : is_above (state_of user (history w user)) above ≡ true
  pub before : List Recorded
  pub since : List Recorded
  pub later : List Recorded
  pub parts : history w above ≡ before ++ (since ++ later)
  pub ends : end_of (before ++ since) ≡ taken_end sees above (history w user)
  pub old : List Recorded
  pub new : List Recorded
  pub parts_below : history w user ≡ old ++ new
  pub begins : BySync user above subscribed_table.table.name before since old new ⊎ ByStart user above subscribed_table.table.name key before since old new
  pub keeps_above : EachFrom (KeepsAbove user subscribed_table key) (state_of above before) since
  pub keeps_below : EachFrom (KeepsBelow above below key) (state_of user old) new
  pub name : below.name ≡ subscribed_table.table.name
  pub columns : HasColumns subscribed_table.columns below
  pub key_columns : key_names below ≡ key_names subscribed_table.table

-- ---- what is so then

-- both have no row there, or the row below has, column by column, what the view shows
abbrev pub Agrees : Table → SubscribedTable → Option (List Cell) → Option (List Cell) → Type 0
Agrees below subscribed_table None None = ⊤
Agrees below subscribed_table None (Some row) = ⊥
Agrees below subscribed_table (Some shown) None = ⊥
Agrees below subscribed_table (Some shown) (Some row) = HasShown below.columns subscribed_table.columns shown row

-- what is held below is the view above, up to what was taken
abbrev pub AgreesAt : (w : World Recorded) → (user above : Name) → (key : List Cell) → (subscribed_table : SubscribedTable) → (below : Table) → IsUntouched w user above key subscribed_table below → Type 0
AgreesAt w user above key subscribed_table below u =
    Agrees below subscribed_table (view_in (state_of above (u.before ++ u.since)) user subscribed_table.table.name key) (rows_of_table (state_of user (history w user)).rows below.name key)

-- at each key that is untouched
abbrev pub KeysAgree : World Recorded → Type 0
KeysAgree w = (user above : Name) (key : List Cell) (subscribed_table : SubscribedTable) (below : Table) (u : IsUntouched w user above key subscribed_table below) → AgreesAt w user above key subscribed_table below u
