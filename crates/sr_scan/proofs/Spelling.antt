-- What an entry of a stored history gives has a spelling, op by op, and is not too much.
use Rattle.std.proofs.Common.{◌≡◌, ◌≤◌, ◌+◌, ℕ, Bool, true, false, ◌&&◌, cond, List, [], ◌∷◌, ◌++◌, length, map, flat_map, Option, Some, None, IfSome, bytes_eq, refl, sym, subst, arith, length-append}
use Rattle.std.specs.List.{AllByRecursion}
use Rattle.sr_base.specs.Fields.{IsName, IsListOf}
use Rattle.sr_base.specs.Values.{IsValue}
use Rattle.sr_base.specs.declared.value.Value.{Value as Cell}
use Rattle.sr_ast.specs.Layout.{printed}
use Rattle.sr_ast.specs.declared.stmt.Stmt.{Stmt}
use Rattle.sr_book.specs.Entries.{Name}
use Rattle.sr_exec_where.specs.Keys.{key_of}
use Rattle.sr_exec_dml.specs.Statements.{table_named}
use Rattle.sr_database_history.specs.Fitting.{DonesFit, FitsState, Fits, Stored}
use Rattle.sr_database_history.specs.Folds.{State, fresh, after_done, state_of, end_of}
use Rattle.sr_database_history.specs.Recorded.{Done, done_of, IsLawfulDone, Recorded, own, taken, ddl, sync, pass, note, entry_of, IsRecorded}
use Rattle.sr_database_history.proofs.Bounds.{short}
use Rattle.sr_database_history.proofs.Joined.{stored_from-more}
use Rattle.sr_logform.proofs.Counting.{entry_long}
use Rattle.sr_database_history.proofs.Kept.{stored_holds}
use Rattle.sr_logform.specs.Entries.{IsEntry}
use Rattle.sr_logform.specs.Limits.{longest_body}
use Rattle.sr_logform.specs.Inner.Limits.{op_count, judged_ops, outcome_ops, table_ops, total}
use Rattle.sr_logform.specs.Ops.{IsOp, OpHas}
use Rattle.sr_logform.specs.Outcomes.{IsChange, IsOutcome, OutcomeHas}
use Rattle.sr_logform.specs.declared.change.Change.{Change}
use Rattle.sr_logform.specs.declared.entry.Entry.{Entry}
use Rattle.sr_logform.specs.declared.entry.Entry.TheVariants as entries
use Rattle.sr_logform.specs.declared.op.Op.{Op}
use Rattle.sr_logform.specs.declared.op.Op.TheVariants.{Insert, Remove, Set, Clear, Exec}
use Rattle.sr_logform.specs.declared.outcome.Outcome.{Outcome}
use Rattle.sr_logform.specs.declared.outcome.Outcome.TheVariants.{Plain, Conflict, Clash}
use Rattle.sr_exec_fits.specs.Rows.{is_row}
use Rattle.sr_publish.specs.SubscribedTables.{SubscribedTable, subscribed_table_of}
use Rattle.sr_publish.specs.Views.{shown, shown_row}
use Rattle.sr_catalog_schema.specs.Catalogs.{Lists}
use Rattle.sr_catalog_schema.specs.Firsts.{has}
use Rattle.sr_catalog_schema.specs.Members.{key_names}
use Rattle.sr_catalog_schema.specs.declared.table.Table.{Table}
use Rattle.sr_scan.specs.Given.{row_synced, table_synced, gives}
use Rattle.sr_scan.specs.Inner.Images.{SubscribedTables, fits_if, change_told, changes_told, are_rows_of, row_changed, rows_told, conflict_told, met_told, op_told, catalog_behind, ops_told, told}
use Rattle.sr_scan.specs.Inner.Laws.{HaveSpellings}
use Rattle.sr_scan.specs.Inner.Meanings.{meant_done, meant_by}
use Rattle.sr_scan.specs.Ops.{present_columns, columns_told, outside_key, update_of, told_of, told_back, key_of_rows}
use Rattle.sr_scan.proofs.Applying.{name_of_table}
use Rattle.sr_scan.proofs.Agreeing.{done_behind, told_same}
use Rattle.sr_scan.proofs.Sames.{changes_told-append}
use Rattle.sr_scan.proofs.Spelled.{Values, insert_fits, images_fit, back_fits}
use Rattle.sr_scan.proofs.Strict.{IsGood, done_good, stored_good, table_strict, subscribed_table_proper, subscribed_table_named}
use Rattle.sr_publish.proofs.Orderly.{table_has_key}

-- ---- lists of ops

both : (xs ys : List Op) → AllByRecursion IsOp xs → AllByRecursion IsOp ys → AllByRecursion IsOp (xs ++ ys)
both [] ys a b = b
both (x ∷ xs) ys a b = (a.0, both xs ys a.1 b)

values_if : (o : Option (List Cell)) → IfSome o (IsListOf IsValue) → IfSome o Values
values_if None h = tt
values_if (Some row) h = h.1

-- ---- changes

module _ (c : Lists) (user : Name) (good : IsGood c) where
  abbrev subscribed_tables : SubscribedTables
  subscribed_tables = subscribed_table_of c user

  change_ops : (table : Name) (before after : Option (List Cell)) → IsName table → IfSome before Values → IfSome after Values
      → (o : Option SubscribedTable) → subscribed_tables table ≡ o → AllByRecursion IsOp (change_told o (record { table = table; before = before; after = after }))
  change_ops table before after n b a None e = tt
  change_ops table before after n b a (Some s) e = images_fit s (subscribed_table_proper c user table s good e) (subst IsName (subscribed_table_named c user table s e) n) before after b a

  changes_ops : (changes : List Change) → AllByRecursion IsChange changes → AllByRecursion IsOp (changes_told subscribed_tables changes)
  changes_ops [] all = tt
  changes_ops (x ∷ changes) all = both (change_told (subscribed_tables x.table) x) (changes_told subscribed_tables changes)
      (change_ops x.table x.before x.after all.0.table (values_if x.before all.0.before) (values_if x.after all.0.after) (subscribed_tables x.table) refl)
      (changes_ops changes all.1)

  back_ops : (table : Name) (t : Table) (before after : List Cell) → IsName table → table_named c table ≡ Some t → Values before → Values after
      → AllByRecursion IsOp (told_back t (subscribed_tables table) (key_of t.key before) before (shown_row (subscribed_tables table) (Some after)))
  back_ops table t before after n named b a =
      back_fits t (table_strict c table t good named) (table_has_key c table t good.made named) (subst IsName (name_of_table c table t named) n) before b
      (subscribed_tables table) (λ s e. subscribed_table_proper c user table s good e) after a

  rows_ops : (is_origin : Bool) (table : Name) (t : Table) (inserts : List Change) (before after : List Cell) → IsName table → table_named c table ≡ Some t
      → AllByRecursion IsChange inserts → Values before → Values after → AllByRecursion IsOp (rows_told is_origin subscribed_tables t table inserts before after)
  rows_ops true table t inserts before after n named all b a = both (changes_told subscribed_tables inserts) _ (changes_ops inserts all) (back_ops table t before after n named b a)
  rows_ops false table t inserts before after n named all b a =
      subst (AllByRecursion IsOp) (sym (changes_told-append subscribed_tables inserts (row_changed table before after ∷ [])))
      (both (changes_told subscribed_tables inserts) (changes_told subscribed_tables (row_changed table before after ∷ [])) (changes_ops inserts all)
      (both (change_told (subscribed_tables table) (row_changed table before after)) [] (change_ops table (Some before) (Some after) n b a (subscribed_tables table) refl) tt))

  conflict_ops : (is_origin : Bool) (table : Name) (columns : List (Name × Cell)) (inserts : List Change) (before after : List Cell) → IsName table
      → AllByRecursion IsChange inserts → Values before → Values after → (o : Option Table) → table_named c table ≡ o
      → AllByRecursion IsOp (conflict_told is_origin subscribed_tables o table columns inserts before after)
  conflict_ops is_origin table columns inserts before after n all b a None e = tt
  conflict_ops is_origin table columns inserts before after n all b a (Some t) e = go (are_rows_of t columns before after) where
    go : (f : Bool) → AllByRecursion IsOp (cond f (rows_told is_origin subscribed_tables t table inserts before after) [])
    go true = rows_ops is_origin table t inserts before after n e all b a
    go false = tt

  op_ops : (is_origin : Bool) (op : Op) (outcome : Outcome) → IsOp op → IsOutcome outcome → AllByRecursion IsOp (op_told is_origin c user op outcome)
  unfolding OpHas OutcomeHas
  op_ops true op (Plain changes) o u = tt
  op_ops false op (Plain changes) o u = changes_ops changes u.1
  op_ops is_origin (Insert table values) (Conflict inserts before after) o u = tt
  op_ops is_origin (Remove table key) (Conflict inserts before after) o u = tt
  op_ops is_origin (Set table key columns) (Conflict inserts before after) o u =
      conflict_ops is_origin table key inserts before after o.0 u.0.1 u.1.1 u.2.1 (table_named c table) refl
  op_ops is_origin (Clear table) (Conflict inserts before after) o u = tt
  op_ops is_origin (Exec text) (Conflict inserts before after) o u = tt
  op_ops is_origin op (Clash why) o u = tt

  -- ---- SYNCHRONIZE

  sync_rows : (table : Name) (rows : List (List Cell)) → IsName table → AllByRecursion (IsListOf IsValue) rows → (o : Option SubscribedTable) → subscribed_tables table ≡ o
      → AllByRecursion IsOp (flat_map (row_synced o table) rows)
  sync_rows table [] n all o e = tt
  sync_rows table (row ∷ rows) n all None e = sync_rows table rows n all.1 None e
  sync_rows table (row ∷ rows) n all (Some s) e = both (row_synced (Some s) table row) (flat_map (row_synced (Some s) table) rows)
      (go (is_row s.columns row) refl) (sync_rows table rows n all.1 (Some s) e) where
        go : (f : Bool) → is_row s.columns row ≡ f → AllByRecursion IsOp (cond f (Insert table (present_columns s.columns row) ∷ []) [])
        go true f = (insert_fits s (subscribed_table_proper c user table s good e) table row n all.0.1 f, tt)
        go false f = tt

  sync_tables : (tables : List (Name × List (List Cell))) → AllByRecursion (λ p. IsName p.0 × IsListOf (IsListOf IsValue) p.1) tables
      → AllByRecursion IsOp (flat_map (table_synced c user) tables)
  unfolding OpHas
  sync_tables [] all = tt
  sync_tables (p ∷ tables) all = both (table_synced c user p) (flat_map (table_synced c user) tables)
      (all.0.0, sync_rows p.0 p.1 all.0.0 all.0.1.1 (subscribed_tables p.0) refl) (sync_tables tables all.1)

-- ---- what was taken

dones_ops : (is_origin : Bool) (s : State) (user : Name) (dones : List Done) → IsGood s.catalog → AllByRecursion IsLawfulDone dones → DonesFit s dones
    → AllByRecursion (λ p. IsOp p.0 × IsOutcome p.1) (map done_of dones) → AllByRecursion IsOp (ops_told is_origin s.catalog user (map done_of dones) (map meant_done dones))
dones_ops is_origin s user [] good n f all = tt
dones_ops is_origin s user (d ∷ dones) good n f all =
    both (op_told is_origin s.catalog user (done_of d).0 (done_of d).1) (ops_told is_origin (catalog_behind s.catalog (meant_done d)) user (map done_of dones) (map meant_done dones))
    (op_ops s.catalog user good is_origin (done_of d).0 (done_of d).1 all.0.0 all.0.1)
    (subst (λ (c : Lists). AllByRecursion IsOp (ops_told is_origin c user (map done_of dones) (map meant_done dones))) (sym (done_behind s d f.0))
    (dones_ops is_origin (after_done d s) user dones (done_good s d n.0 f.0 good) n.1 f.1 all.1))

entry_ops : (s : State) (r : Recorded) (user : Name) → IsGood s.catalog → IsRecorded r → IsEntry (entry_of r) → FitsState s r → AllByRecursion IsOp (told s.catalog (entry_of r) (meant_by r) user)
unfolding told IsEntry FitsState OpHas
entry_ops s (own changes) user good n e f = changes_ops s.catalog user good changes e.items.1
entry_ops s (taken from at dones) user good n e f = dones_ops (bytes_eq from user) s user dones good n f.1 e.2.items.1
entry_ops s (ddl statement) user good n e f = tt
entry_ops s (sync to tables) user good n e f = go (bytes_eq to user) where
  go : (b : Bool) → AllByRecursion IsOp (cond b (flat_map (table_synced s.catalog user) tables) [])
  go true = sync_tables s.catalog user good tables e.1.1
  go false = tt
entry_ops s (pass users only statement changes) user good n e f = go (has users user) only where
  go : (b o : Bool) → AllByRecursion IsOp (cond b (Exec (printed statement) ∷ []) (cond o [] (changes_told (subscribed_table_of s.catalog user) changes)))
  go true o = (e.0.2, tt)
  go false true = tt
  go false false = changes_ops s.catalog user good changes e.1.1
entry_ops s (note about what) user good n e f = tt

-- ---- how many

at_most : (n : ℕ) (xs ys : List Op) (m : ℕ) → length xs ≤ n → length ys ≤ m → length (xs ++ ys) ≤ n + m
at_most n xs ys m a b = let e = length-append xs ys in omega arith

update_one : (t : Table) (key : List Cell) (updates : List (Name × Cell × Cell)) → length (update_of t key updates) ≤ 1
update_one t key [] = omega arith
update_one t key (u ∷ updates) = omega arith

told_one : (s : SubscribedTable) (key : List Cell) (before after : Option (List Cell)) → length (told_of s key before after) ≤ 1
told_one s key None None = omega arith
told_one s key None (Some row) = omega arith
told_one s key (Some row) None = omega arith
told_one s key (Some before) (Some after) = update_one s.table key (columns_told s before after)

cond_one : (b : Bool) (xs : List Op) (n : ℕ) → length xs ≤ n → length (cond b xs []) ≤ n
cond_one true xs n h = h
cond_one false xs n h = omega arith

change_one : (o : Option SubscribedTable) (x : Change) → length (change_told o x) ≤ 1
change_one None x = omega arith
change_one (Some s) x = cond_one (fits_if s.table x.before && fits_if s.table x.after)
    (told_of s (key_of_rows s.table x.before x.after) (shown_row (Some s) x.before) (shown_row (Some s) x.after)) 1
    (told_one s (key_of_rows s.table x.before x.after) (shown_row (Some s) x.before) (shown_row (Some s) x.after))

back_one : (t : Table) (o : Option SubscribedTable) (key before : List Cell) (after : Option (List Cell)) → length (told_back t o key before after) ≤ 1
back_one t o key before None = omega arith
back_one t None key before (Some row) = omega arith
back_one t (Some s) key before (Some row) = update_one t key (outside_key (key_names t) s.columns (shown s before) row)

changes_few : (look : SubscribedTables) (changes : List Change) → length (changes_told look changes) ≤ length changes
changes_few look [] = omega arith
changes_few look (x ∷ changes) =
    let h = at_most 1 (change_told (look x.table) x) (changes_told look changes) (length changes) (change_one (look x.table) x) (changes_few look changes) in
    omega arith

more_one : (xs : List Change) (x : Change) → length (xs ++ x ∷ []) ≡ length xs + 1
more_one xs x = length-append xs (x ∷ [])

rows_few : (is_origin : Bool) (look : SubscribedTables) (t : Table) (table : Name) (inserts : List Change) (before after : List Cell)
    → length (rows_told is_origin look t table inserts before after) ≤ length inserts + 1
rows_few true look t table inserts before after =
    at_most (length inserts) (changes_told look inserts) (told_back t (look table) (key_of t.key before) before (shown_row (look table) (Some after))) 1
    (changes_few look inserts) (back_one t (look table) (key_of t.key before) before (shown_row (look table) (Some after)))
rows_few false look t table inserts before after =
    let a = changes_few look (inserts ++ row_changed table before after ∷ []) in
    let b = more_one inserts (row_changed table before after) in
    omega arith

conflict_few : (is_origin : Bool) (look : SubscribedTables) (o : Option Table) (table : Name) (key : List (Name × Cell)) (inserts : List Change) (before after : List Cell)
    → length (conflict_told is_origin look o table key inserts before after) ≤ length inserts + 1
conflict_few is_origin look None table key inserts before after = omega arith
conflict_few is_origin look (Some t) table key inserts before after =
    cond_one (are_rows_of t key before after) (rows_told is_origin look t table inserts before after) (length inserts + 1)
    (rows_few is_origin look t table inserts before after)

met_few : (is_origin : Bool) (c : Lists) (user : Name) (op : Op) (inserts : List Change) (before after : List Cell)
    → length (met_told is_origin c user op inserts before after) ≤ length inserts + 1
met_few is_origin c user (Insert table values) inserts before after = omega arith
met_few is_origin c user (Remove table key) inserts before after = omega arith
met_few is_origin c user (Set table key columns) inserts before after =
    conflict_few is_origin (subscribed_table_of c user) (table_named c table) table key inserts before after
met_few is_origin c user (Clear table) inserts before after = omega arith
met_few is_origin c user (Exec text) inserts before after = omega arith

plain_few : (is_origin : Bool) (look : SubscribedTables) (changes : List Change) → length (cond is_origin [] (changes_told look changes)) ≤ length changes
plain_few true look changes = omega arith
plain_few false look changes = changes_few look changes

op_few : (is_origin : Bool) (c : Lists) (user : Name) (op : Op) (outcome : Outcome) → length (op_told is_origin c user op outcome) ≤ outcome_ops outcome
op_few is_origin c user op (Plain changes) = plain_few is_origin (subscribed_table_of c user) changes
op_few is_origin c user op (Conflict inserts before after) = let h = met_few is_origin c user op inserts before after in omega arith
op_few is_origin c user op (Clash why) = omega arith

ops_few : (is_origin : Bool) (c : Lists) (user : Name) (judged : List (Op × Outcome)) (meant : List (Option Stmt))
    → length (ops_told is_origin c user judged meant) ≤ total judged_ops judged
ops_few is_origin c user [] meant = omega arith
ops_few is_origin c user (p ∷ judged) [] = omega arith
ops_few is_origin c user (p ∷ judged) (m ∷ meant) =
    let h = at_most (outcome_ops p.1) (op_told is_origin c user p.0 p.1) (ops_told is_origin (catalog_behind c m) user judged meant) (total judged_ops judged)
    (op_few is_origin c user p.0 p.1) (ops_few is_origin (catalog_behind c m) user judged meant) in
    omega arith

row_one : (o : Option SubscribedTable) (table : Name) (row : List Cell) → length (row_synced o table row) ≤ 1
row_one None table row = omega arith
row_one (Some s) table row = cond_one (is_row s.columns row) (Insert table (present_columns s.columns row) ∷ []) 1 (omega arith)

rows_one : (o : Option SubscribedTable) (table : Name) (rows : List (List Cell)) → length (flat_map (row_synced o table) rows) ≤ length rows
rows_one o table [] = omega arith
rows_one o table (row ∷ rows) =
    let h = at_most 1 (row_synced o table row) (flat_map (row_synced o table) rows) (length rows) (row_one o table row) (rows_one o table rows) in
    omega arith

tables_few : (c : Lists) (user : Name) (tables : List (Name × List (List Cell))) → length (flat_map (table_synced c user) tables) ≤ total table_ops tables
tables_few c user [] = omega arith
tables_few c user (p ∷ tables) =
    let rows = rows_one (subscribed_table_of c user p.0) p.0 p.1 in
    let h = at_most (1 + length p.1) (table_synced c user p) (flat_map (table_synced c user) tables) (total table_ops tables) (omega arith) (tables_few c user tables) in
    omega arith

pass_few : (b only : Bool) (text : List ℕ) (look : SubscribedTables) (changes : List Change)
    → length (cond b (Exec text ∷ []) (cond only [] (changes_told look changes))) ≤ 1 + length changes
pass_few true only text look changes = omega arith
pass_few false only text look changes = let h = plain_few only look changes in omega arith

entry_few : (c : Lists) (e : Entry) (meant : List (Option Stmt)) (user : Name) → length (told c e meant user) ≤ op_count e
unfolding told
entry_few c (entries.Own changes) meant user = changes_few (subscribed_table_of c user) changes
entry_few c (entries.From from at judged) meant user = ops_few (bytes_eq from user) c user judged meant
entry_few c (entries.Ddl text) meant user = omega arith
entry_few c (entries.Sync to tables) meant user =
    cond_one (bytes_eq to user) (flat_map (table_synced c user) tables) (total table_ops tables) (tables_few c user tables)
entry_few c (entries.Pass users only text changes) meant user = pass_few (has users user) only text (subscribed_table_of c user) changes
entry_few c (entries.Note about what) meant user = omega arith

longest : (e : Entry) → longest_body e ≤ 67108864
longest (entries.Own changes) = omega arith
longest (entries.From from at judged) = omega arith
longest (entries.Ddl text) = omega arith
longest (entries.Sync to tables) = omega arith
longest (entries.Pass users only text changes) = omega arith
longest (entries.Note about what) = omega arith

-- ---- the law

pub spelled_told : (s : State) (place : ℕ) (r : Recorded) (user : Name) → IsGood s.catalog → Fits s place r → HaveSpellings (told s.catalog (entry_of r) (meant_by r) user)
spelled_told s place r user good fits = record {
  each = entry_ops s r user good fits.meant fits.spelled fits.state;
  few =
      let one = entry_few s.catalog (entry_of r) (meant_by r) user in
      let two = entry_long (entry_of r) in
      let three = short s place r fits in
      let four = longest (entry_of r) in
      omega arith;
}

pub spelled : (publisher user : Name) (rs : List Recorded) (r : Recorded) → Stored publisher (rs ++ r ∷ []) → HaveSpellings (gives (state_of publisher rs) r user)
spelled publisher user rs r stored =
    let parts = (stored_from-more (fresh publisher) 0 rs r).0 stored in
    let s = state_of publisher rs in
    subst HaveSpellings (told_same s (end_of rs) r user (stored_holds publisher rs parts.0) parts.1)
    (spelled_told s (end_of rs) r user (stored_good publisher rs parts.0) parts.1)
