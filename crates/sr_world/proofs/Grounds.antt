-- What the entries of the sample are made of: ops, outcomes, tables, rows, and what becomes of ops in them.
use Rattle.std.proofs.Common.{◌≡◌, ◌≢◌, ◌<◌, ◌≤◌, ◌^◌, ℕ, Bool, true, false, List, [], ◌∷◌, Option, Some, None, is_some, map}
use Rattle.std.proofs.Common.{refl, sym, ap, ◌∙◌, arith}
use Rattle.std.proofs.lemmas.List.{nil_from_length}
use Rattle.std.specs.Prelude.{pos}
use Rattle.std.specs.FinMap as map_of
use Rattle.std.specs.FinMap.{get, get-insert, entries-insert, len-entries, len-empty, put}
use Rattle.sr_base.specs.Fields.{IsName}
use Rattle.sr_base.specs.Values.{offset_from}
use Rattle.sr_base.specs.declared.value.Value.{Value as Cell}
use Rattle.sr_base.specs.declared.value.Value.TheVariants.{Int}
use Rattle.sr_book.specs.Entries.{Name}
use Rattle.sr_resolve_triggers.specs.Actions.{insertion}
use Rattle.sr_database_history.specs.Fitting.{Knows, FitsState}
use Rattle.sr_database_history.specs.Folds.{State, next, size}
use Rattle.sr_database_history.specs.Recorded.{Done, plain}
use Rattle.sr_database_history.specs.Recorded.{Recorded, own, taken}
use Rattle.sr_database_history.specs.Inner.Sample.{cons, r1, table_t, table_u, column_id, column_n, inserted, integer}
use Rattle.sr_logform.specs.Entries.{entry_spelling, IsEntry}
use Rattle.sr_logform.specs.Ops.{OpHas, IsOp}
use Rattle.sr_logform.specs.Outcomes.{note_spelling, OutcomeHas, IsOutcome, IsNote}
use Rattle.sr_logform.specs.declared.change.Change.{Change}
use Rattle.sr_logform.specs.declared.op.Op.{Op}
use Rattle.sr_logform.specs.declared.op.Op.TheVariants.{Clear}
use Rattle.sr_logform.specs.declared.outcome.Clash.TheVariants.{Duplicate, NoRow}
use Rattle.sr_logform.specs.declared.outcome.Outcome.TheVariants.{Plain, Conflict}
use Rattle.sr_resolve.specs.Judging.{clash_if, clash_unless, judged_update, removal}
use Rattle.sr_resolve.specs.Named.{with_news}
use Rattle.sr_resolve.specs.Taking.{done_by, done_judged}
use Rattle.sr_rows.specs.Marks.{Place, RowMap, place_cmp}
use Rattle.sr_rows.specs.Inner.Marks.{place_cmp_total}
use Rattle.sr_rows.specs.Walks.{Entry, of_table}
use Rattle.sr_catalog_schema.specs.declared.publication.Publication.{Publication}
use Rattle.sr_catalog_schema.specs.declared.subscription.Subscription.{Subscription}
use Rattle.sr_catalog_schema.specs.declared.table.Table.{Table}
use Rattle.sr_catalog_schema.specs.declared.user.User.{User}
use Rattle.sr_catalog_script_laws.specs.Inner.Scripts.{user_at as user_of}
use Rattle.sr_world.specs.Inner.Sample.{r2, name_p, name_q}
use Rattle.sr_world.specs.Inner.Sample.{first_row, updated, insert, insert_slim, slim_row, run_u, set, sent_to}
use Rattle.sr_world.proofs.Lines.{Line, IsLine}
use Rattle.sr_world.proofs.Lines.{note_line}
use Rattle.sr_exec_dml.specs.FittingChanges.{FitsAt, IsFitChange}
use Rattle.sr_exec_dml.specs.Statements.{table_named}
use Rattle.sr_database_history.specs.Recorded.{IsNoExec}
use Rattle.sr_logform.specs.Outcomes.{IsChange}
use Rattle.sr_resolve.specs.Judging.{IsStatementOf}
use Rattle.sr_resolve.specs.Taking.{is_above}
use Rattle.sr_catalog_schema.specs.Catalogs.{Lists, unset}
use Rattle.sr_world.proofs.Named.{text_u, int_ok, row_ok, slim_ok, new_ok, update_ok}
use Rattle.sr_catalog_ddl.specs.Tables.{column_of}

-- ---- ops and outcomes

pub set_ok : (a b : ℕ) → a < 2147483648 → b < 2147483648 → IsOp (set a b)
unfolding OpHas
set_ok a b small less = (
  refl,
  record { items = (omega arith, ((refl, int_ok 1 (omega arith)), tt)); filled = λ h. cc; distinct = (tt, tt) },
  record { items = (omega arith, ((refl, int_ok a small, int_ok b less), tt)); filled = λ h. cc; distinct = (tt, tt) },
)

pub insert_ok : IsOp insert
unfolding OpHas
insert_ok = (
  refl,
  record {
    items = (omega arith, ((refl, (int_ok 1 (omega arith), λ h. cc)), ((refl, (int_ok 5 (omega arith), λ h. cc)), tt)));
    filled = λ h. cc;
    distinct = ((λ h. cc, tt), (tt, tt));
  },
)

pub clear_ok : IsOp (Clear table_t)
unfolding OpHas
clear_ok = refl

pub run_ok : IsOp run_u
unfolding OpHas
run_ok = text_u

pub slim_op_ok : IsOp insert_slim
unfolding OpHas
slim_op_ok = (refl, record { items = (omega arith, ((refl, (int_ok 1 (omega arith), λ h. cc)), tt)); filled = λ h. cc; distinct = (tt, tt) })

pub new_outcome : IsOutcome (Plain (inserted (first_row 5) ∷ []))
unfolding OutcomeHas
new_outcome = (omega arith, (new_ok (first_row 5) (row_ok 5 (omega arith)), tt))

pub no_outcome : IsOutcome (Plain [])
unfolding OutcomeHas
no_outcome = (omega arith, tt)

pub slim_outcome : IsOutcome (Plain (inserted slim_row ∷ []))
unfolding OutcomeHas
slim_outcome = (omega arith, (new_ok slim_row slim_ok, tt))

pub update_outcome : (a b : ℕ) → a < 2147483648 → b < 2147483648 → a ≢ b → IsOutcome (Plain (updated a b ∷ []))
unfolding OutcomeHas
update_outcome a b small less unlike = (omega arith, (update_ok a b small less unlike, tt))

pub conflict_outcome : IsOutcome (Conflict [] (first_row 7) (first_row 6))
unfolding OutcomeHas
conflict_outcome = ((omega arith, tt), row_ok 7 (omega arith), row_ok 6 (omega arith))

-- ---- catalogs, rows and states

abbrev pub the_t : Table
the_t = record {
  name = table_t;
  columns = column_of (integer column_id true) ∷ column_of (integer column_n false) ∷ [];
  key = 0 ∷ [];
}

abbrev pub the_u : Table
the_u = record { name = table_u; columns = column_of (integer column_id true) ∷ []; key = 0 ∷ [] }

abbrev pub the_slim : Table
the_slim = record { name = table_t; columns = column_of (integer column_id true) ∷ []; key = 0 ∷ [] }

abbrev pub the_p : Publication
the_p = record { name = name_p; articles = record { table = table_t; columns = column_id ∷ column_n ∷ []; condition = None; by = None } ∷ [] }

abbrev pub the_q : Publication
the_q = record { name = name_q; articles = record { table = table_t; columns = column_id ∷ []; condition = None; by = None } ∷ [] }

abbrev pub user_at : Bool → Name → User
user_at above name = user_of name above name

abbrev pub to : Name → Name → Bool → Subscription
to publication user started = record { publication = publication; value = None; user = user; started = started }

abbrev pub state_at : Name → List User → List Table → List Publication → List Subscription → RowMap → State
state_at publisher users tables publications subscriptions rows = record {
  catalog = record {
    publisher = publisher;
    users = users;
    tables = tables;
    publications = publications;
    triggers = [];
    subscriptions = subscriptions;
    options = unset;
  };
  rows = rows;
}

abbrev pub here : Place
here = (table_t, Int (pos 1) ∷ [])

-- the row is new, and then another one stands in its place
abbrev pub new_row : List Cell → RowMap
new_row row = map_of.insert map_of.empty here row

abbrev pub next_row : RowMap → ℕ → RowMap
next_row rows n = map_of.insert (map_of.remove rows here) here (first_row n)

pub held_next : (rows : RowMap) (n : ℕ) → get (next_row rows n) here ≡ Some (first_row n)
held_next rows n = get-insert place_cmp_total (map_of.remove rows here) here (first_row n) here

pub held_new : get (new_row (first_row 5)) here ≡ Some (first_row 5)
held_new = get-insert place_cmp_total map_of.empty here (first_row 5) here

-- all entries of rows
abbrev pub entries_of : RowMap → List (Place × List Cell)
entries_of rows = map_of.entries rows

pub entries_empty : entries_of map_of.empty ≡ []
entries_empty = nil_from_length (entries_of map_of.empty) (sym (len-entries map_of.empty) ∙ len-empty place_cmp (List Cell))

pub entries_new : (row : List Cell) → entries_of (new_row row) ≡ (here, row) ∷ []
entries_new row = entries-insert place_cmp_total map_of.empty here row ∙ ap (put place_cmp here row) entries_empty

-- changes of the row that fit: it comes where none is held, and goes on from the one that is held
pub new_fits : (catalog : Lists) (rows : RowMap) → table_named catalog table_t ≡ Some the_t → get rows here ≡ None
    → IsFitChange catalog rows (inserted (first_row 5))
new_fits catalog rows there held =
    record { table = the_t; named = there; key = Int (pos 1) ∷ []; held = held; fits = (refl, refl) }

pub next_fits : (catalog : Lists) (rows : RowMap) (a b : ℕ) → table_named catalog table_t ≡ Some the_t → get rows here ≡ Some (first_row a)
    → FitsAt the_t (Int (pos 1) ∷ []) (Some (first_row b)) → IsFitChange catalog rows (updated a b)
next_fits catalog rows a b there held fits = record { table = the_t; named = there; key = Int (pos 1) ∷ []; held = held; fits = fits }

-- ---- what becomes of ops

-- a table is cleared of all its rows
abbrev pub where_cleared : Table → List (Place × List Cell) → Done
where_cleared table held = done_by (Clear table_t) None (Plain (map (λ (e : Entry). removal table.name e.1) (of_table table.name held)))

abbrev pub where_new : Op → Table → List Cell → Option (List Cell) → Done
where_new op table row held = done_by op None (clash_if (is_some held) Duplicate (Plain (insertion table row ∷ [])))

abbrev pub where_set : State → Bool → ℕ → ℕ → Option (List Cell) → Done
where_set s above a b held = done_by (set a b) None (clash_unless held NoRow (λ stored.
    judged_update s.catalog s.rows above ((column_n, Int (pos a), Int (pos b)) ∷ []) the_t stored (with_news (None ∷ Some (Int (pos b)) ∷ []) stored)))

-- ---- lines

-- a line that gives nothing
abbrev pub still : Recorded → ℕ → State → Line
still r k s = record { entry = r; long = k; after = s; to_one = []; to_other = [] }

-- an own transaction of one change
pub own_line : (s after : State) (c : Change) (k : ℕ) (to_one : List Op) → size (own (c ∷ [])) ≡ k → next s (own (c ∷ [])) ≡ after → k ≤ 4194304
    → IsChange c → IsFitChange s.catalog s.rows c
    → IsLine s (record { entry = own (c ∷ []); long = k; after = after; to_one = to_one; to_other = [] })
unfolding IsEntry FitsState
own_line s after c k to_one long left short is fits = record {
  size_is = long;
  leaves = left;
  short = short;
  meant = tt;
  spelled = record { items = (omega arith, (is, tt)); filled = λ h. cc };
  fits = (fits, tt);
  says_so = tt;
}

-- a transaction of one op from above, which is done by one change
pub taken_line : (s after : State) (at : ℕ) (op : Op) (c : Change) (k : ℕ) → size (taken cons (offset_from at) (plain op (c ∷ []) ∷ [])) ≡ k
    → next s (taken cons (offset_from at) (plain op (c ∷ []) ∷ [])) ≡ after → k ≤ 67108864 → IsNoExec op → at < 2 ^ 64 → IsOp op → IsOutcome (Plain (c ∷ []))
    → Knows s cons → IsFitChange s.catalog s.rows c → IsStatementOf None op → done_judged s (is_above s cons) op None ≡ plain op (c ∷ [])
    → IsLine s (still (taken cons (offset_from at) (plain op (c ∷ []) ∷ [])) k after)
unfolding IsEntry FitsState
taken_line s after at op c k long left short no_exec small is outcome knows fits carried judged = record {
  size_is = long;
  leaves = left;
  short = short;
  meant = (no_exec, tt);
  spelled = (refl, small, record { items = (omega arith, ((is, outcome), tt)); filled = λ h. cc });
  fits = (knows, (record { changes = (fits, tt); outcome = tt }, tt));
  says_so = (record { statement = None; carried = carried; done_is = sym judged }, tt);
}

-- notes of messages sent
pub sent_line : (s : State) (user : Name) (end confirm k : ℕ) → size (sent_to user end confirm) ≡ k → k ≤ 4194304
    → end < 2 ^ 64 → confirm < 2 ^ 64 → IsName user → Knows s user → IsLine s (still (sent_to user end confirm) k s)
unfolding IsNote
sent_line s user end confirm k long short small less name knows = note_line s user _ k long short name (small, omega arith, less) knows

pub sent_r1 : size (sent_to r1 366 0) ≡ 25
unfolding size entry_spelling note_spelling
sent_r1 = refl

pub sent_r2 : size (sent_to r2 510 0) ≡ 25
unfolding size entry_spelling note_spelling
sent_r2 = refl

pub sent_more : size (sent_to r1 612 0) ≡ 25
unfolding size entry_spelling note_spelling
sent_more = refl

pub sent_back : size (sent_to r1 801 389) ≡ 25
unfolding size entry_spelling note_spelling
sent_back = refl

pub sent_nothing : size (sent_to cons 0 0) ≡ 27
unfolding size entry_spelling note_spelling
sent_nothing = refl

pub sent_up : size (sent_to cons 389 612) ≡ 27
unfolding size entry_spelling note_spelling
sent_up = refl
