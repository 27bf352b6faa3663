-- What a history comes to is a beginning.
use Rattle.std.proofs.Common.{◌≡◌, ◌<◌, ◌^◌, ◌+◌, ℕ, Bool, true, false, cond, not, List, [], ◌∷◌, ◌++◌, map, Option, Some, None, refl, sym, ap, subst, ◌∙◌, bytes_eq, nat_lt, if◌then◌else◌, max, IfSome, IsUtf8, arith}
use Rattle.std.specs.FinMap.{get, insert, remove, get-empty, get-insert, get-remove}
use Rattle.std.specs.List.{AllByRecursion}
use Rattle.std.specs.Ordering.{eq_by_cmp}
use Rattle.sr_ast.specs.Layout.{printed}
use Rattle.sr_ast.specs.NormalForms.{IsNormal}
use Rattle.sr_ast.specs.declared.stmt.Stmt.{Stmt}
use Rattle.sr_ast.specs.declared.stmt.Stmt.TheVariants as stmt
use Rattle.sr_base.specs.Fields.{IsListOf, IsName}
use Rattle.sr_base.specs.Order.{name_cmp}
use Rattle.sr_base.specs.Values.{IsValue}
use Rattle.sr_base.specs.declared.value.Value.{Value as Cell}
use Rattle.sr_book.specs.Books.{counted, new_book, with_note, with_taken}
use Rattle.sr_book.specs.Entries.{Name, booked}
use Rattle.sr_book.specs.Histories.{book_from}
use Rattle.sr_book.specs.declared.book.Book.{Book}
use Rattle.sr_book.specs.declared.note.Note.{Note}
use Rattle.sr_book.specs.declared.note.Note.TheVariants.{Confirmed, Asked, Raised, Sent}
use Rattle.sr_catalog_schema.specs.Catalogs.{Lists}
use Rattle.sr_catalog_schema.specs.Members.{user_name}
use Rattle.sr_catalog_schema.specs.declared.table.Table.{Table}
use Rattle.sr_catalog_schema.specs.declared.user.User.{User}
use Rattle.sr_catalog_script_laws.proofs.ReplayNexts.{publisher_next}
use Rattle.sr_catalog_script_laws.proofs.Spelled.{script_normal}
use Rattle.sr_catalog_script_laws.specs.Scripts.{statements}
use Rattle.sr_database_history.proofs.Bounds.{ends_within}
use Rattle.sr_database_history.proofs.Kept.{stored_holds}
use Rattle.sr_database_history.proofs.Tables.{left_at}
use Rattle.sr_database_history.specs.Fitting.{Stored, stored_from}
use Rattle.sr_database_history.specs.Folds.{State, after_done, after_dones, after_pass, books_of, fresh, next, row_change, rows_left, sees, size, state_from, state_of, with_changes, with_statement}
use Rattle.sr_database_history.specs.Recorded.{Done, plain, ran, conflict, clash, done_of}
use Rattle.sr_database_history.specs.Recorded.{Recorded, own, taken, ddl, sync, pass, note, entry_of}
use Rattle.sr_exec_dml.specs.Applying.{applied, applied_in, place_of, with_row, without_row}
use Rattle.sr_exec_dml.specs.Statements.{table_named}
use Rattle.sr_logform.specs.Entries.{IsEntry}
use Rattle.sr_logform.specs.Ops.{IsOp}
use Rattle.sr_logform.specs.Outcomes.{IsChange, IsNote, IsOutcome, OutcomeHas}
use Rattle.sr_logform.specs.declared.change.Change.{Change}
use Rattle.sr_rows.specs.Inner.Marks.{place_cmp_total}
use Rattle.sr_rows.specs.Marks.{Place, RowMap, place_cmp, rows_of_table}
use Rattle.sr_rows.specs.Steps.{without_table}
use Rattle.sr_snapshot.proofs.Printable.{printed_utf8}
use Rattle.sr_snapshot.specs.Beginnings.{IsBeginning, IsBook, beginning_behind}

-- ---- rows: each cell is a value

abbrev HaveValues : RowMap → Type 0
HaveValues rows = (name : List ℕ) (key row : List Cell) → rows_of_table rows name key ≡ Some row → AllByRecursion IsValue row

no_values : (publisher : Name) → HaveValues (fresh publisher).rows
no_values publisher name key row is = let none : None ≡ Some row = sym (get-empty place_cmp (name, key)) ∙ is in absurd (cc)

removed : (rows : RowMap) (p : Place) → HaveValues rows → HaveValues (remove rows p)
removed rows p all name key row is = by (eq_by_cmp place_cmp (name, key) p) (sym (get-remove place_cmp_total rows p (name, key)) ∙ is)
  where
    by : (b : Bool) → cond b None (get rows (name, key)) ≡ Some row → AllByRecursion IsValue row
    by true gone = absurd (cc)
    by false there = all name key row there

inserted : (rows : RowMap) (p : Place) (new : List Cell) → AllByRecursion IsValue new → HaveValues rows → HaveValues (insert rows p new)
inserted rows p new values all name key row is = by (eq_by_cmp place_cmp (name, key) p) (sym (get-insert place_cmp_total rows p new (name, key)) ∙ is)
  where
    by : (b : Bool) → cond b (Some new) (get rows (name, key)) ≡ Some row → AllByRecursion IsValue row
    by true here = let same : new ≡ row = cc in subst (λ (r : List Cell). AllByRecursion IsValue r) same values
    by false there = all name key row there

left : (rows : RowMap) (gone : List ℕ) → HaveValues rows → HaveValues (without_table rows gone)
left rows gone all name key row is = by (eq_by_cmp name_cmp gone name) (sym (left_at rows gone (name, key)) ∙ is)
  where
    by : (b : Bool) → cond (not b) (get rows (name, key)) None ≡ Some row → AllByRecursion IsValue row
    by true none = absurd (cc)
    by false there = all name key row there

-- the row that a change leaves has values
abbrev GivesValues : Change → Type 0
GivesValues c = IfSome c.after (IsListOf IsValue)

change_values : (o : Option Table) (c : Change) (rows : RowMap) → GivesValues c → HaveValues rows → HaveValues (applied_in o c rows)
change_values None c rows gives all = all
change_values (Some t) c rows gives all = put c.after gives (off c.before)
  where
    off : (before : Option (List Cell)) → HaveValues (without_row t before rows)
    off None = all
    off (Some row) = removed rows (place_of t row) all

    put : (after : Option (List Cell)) → IfSome after (IsListOf IsValue) → HaveValues (without_row t c.before rows) → HaveValues (with_row t after (without_row t c.before rows))
    put None values left_over = left_over
    put (Some row) values left_over = inserted (without_row t c.before rows) (place_of t row) row values.1 left_over

changes_values : (c : Lists) (changes : List Change) (rows : RowMap) → AllByRecursion GivesValues changes → HaveValues rows → HaveValues (applied c changes rows)
changes_values c [] rows gives all = all
changes_values c (change ∷ changes) rows gives all =
    changes_values c changes (applied_in (table_named c change.table) change rows) gives.1 (change_values (table_named c change.table) change rows gives.0 all)

give : (changes : List Change) → AllByRecursion IsChange changes → AllByRecursion GivesValues changes
give [] are = tt
give (change ∷ changes) are = (are.0.after, give changes are.1)

give_more : (changes : List Change) (change : Change) → AllByRecursion IsChange changes → GivesValues change → AllByRecursion GivesValues (changes ++ change ∷ [])
give_more [] change are gives = (gives, tt)
give_more (first ∷ changes) change are gives = (are.0.after, give_more changes change are.1 gives)

statement_values : (s : State) (statement : Stmt) → HaveValues s.rows → HaveValues (with_statement statement s).rows
unfolding with_statement
statement_values s (stmt.DropTable name) all = left s.rows name all
statement_values s _ all = all

done_values : (s : State) (d : Done) → IsOutcome (done_of d).1 → HaveValues s.rows → HaveValues (after_done d s).rows
unfolding OutcomeHas
done_values s (plain op changes) is all = changes_values s.catalog changes s.rows (give changes is.1) all
done_values s (ran statement changes) is all = statement_values (with_changes changes s) statement (changes_values s.catalog changes s.rows (give changes is.1) all)
done_values s (conflict op inserts before after) is all =
    changes_values s.catalog (inserts ++ row_change op before after ∷ []) s.rows (give_more inserts (row_change op before after) is.0.1 is.2) all
done_values s (clash op why) is all = all

dones_values : (s : State) (dones : List Done) → AllByRecursion (λ p. IsOp p.0 × IsOutcome p.1) (map done_of dones) → HaveValues s.rows → HaveValues (after_dones dones s).rows
dones_values s [] are all = all
dones_values s (d ∷ dones) are all = dones_values (after_done d s) dones are.1 (done_values s d are.0.1 all)

pass_values : (s : State) (only : Bool) (statement : Stmt) (changes : List Change) → AllByRecursion IsChange changes → HaveValues s.rows → HaveValues (after_pass only statement changes s).rows
pass_values s true statement changes are all = all
pass_values s false statement changes are all = statement_values (with_changes changes s) statement (changes_values s.catalog changes s.rows (give changes are) all)

entry_values : (s : State) (r : Recorded) → IsEntry (entry_of r) → HaveValues s.rows → HaveValues (next s r).rows
unfolding next IsEntry
entry_values s (own changes) is all = changes_values s.catalog changes s.rows (give changes is.items.1) all
entry_values s (taken user at dones) is all = dones_values s dones is.2.items.1 all
entry_values s (ddl statement) is all = statement_values s statement all
entry_values s (sync user tables) is all = all
entry_values s (pass users only statement changes) is all = pass_values s only statement changes is.1.1 all
entry_values s (note user what) is all = all

pub values_from : (s : State) (place : ℕ) (rs : List Recorded) → HaveValues s.rows → stored_from s place rs → HaveValues (state_from s rs).rows
values_from s place [] all stored = all
values_from s place (r ∷ rs) all stored = values_from (next s r) (place + (size r + 5)) rs (entry_values s r stored.0.spelled all) stored.1

-- ---- the publisher

done_publisher : (s : State) (d : Done) → (after_done d s).catalog.publisher ≡ s.catalog.publisher
unfolding with_statement
done_publisher s (plain op changes) = refl
done_publisher s (ran statement changes) = publisher_next s.catalog statement
done_publisher s (conflict op inserts before after) = refl
done_publisher s (clash op why) = refl

dones_publisher : (s : State) (dones : List Done) → (after_dones dones s).catalog.publisher ≡ s.catalog.publisher
dones_publisher s [] = refl
dones_publisher s (d ∷ dones) = dones_publisher (after_done d s) dones ∙ done_publisher s d

entry_publisher : (s : State) (r : Recorded) → (next s r).catalog.publisher ≡ s.catalog.publisher
unfolding next with_statement
entry_publisher s (own changes) = refl
entry_publisher s (taken user at dones) = dones_publisher s dones
entry_publisher s (ddl statement) = publisher_next s.catalog statement
entry_publisher s (sync user tables) = refl
entry_publisher s (pass users true statement changes) = refl
entry_publisher s (pass users false statement changes) = publisher_next s.catalog statement
entry_publisher s (note user what) = refl

publisher_from : (s : State) (rs : List Recorded) → (state_from s rs).catalog.publisher ≡ s.catalog.publisher
publisher_from s [] = refl
publisher_from s (r ∷ rs) = publisher_from (next s r) rs ∙ entry_publisher s r

-- ---- the texts of the script

pub texts_utf8 : (ss : List Stmt) → AllByRecursion IsNormal ss → AllByRecursion IsUtf8 (map printed ss)
texts_utf8 [] all = tt
texts_utf8 (s ∷ ss) all = (printed_utf8 s all.0, texts_utf8 ss all.1)

-- ---- books: each number has 64 bits

pub new_is : IsBook new_book
new_is = record {
  log_sent = omega arith;
  confirm_sent = omega arith;
  send_count = omega arith;
  resend_count = omega arith;
  log_received = omega arith;
  confirm_received = omega arith;
  receive_count = omega arith;
  rereceive_count = omega arith;
}

taken_is : (b : Book) (place : ℕ) → place < 2 ^ 64 → IsBook b → IsBook (with_taken b place)
taken_is b place short is = record {
  log_sent = is.log_sent;
  confirm_sent = is.confirm_sent;
  send_count = is.send_count;
  resend_count = is.resend_count;
  log_received = short;
  confirm_received = is.confirm_received;
  receive_count = omega arith;
  rereceive_count = is.rereceive_count;
}

note_is : (b : Book) (what : Note) → IsNote what → IsBook b → IsBook (with_note b what)
unfolding IsNote
note_is b (Confirmed place) noted is = record {
  log_sent = omega (arith, noted, is.log_sent);
  confirm_sent = omega (arith, noted, is.confirm_sent);
  send_count = is.send_count;
  resend_count = is.resend_count;
  log_received = is.log_received;
  confirm_received = is.confirm_received;
  receive_count = is.receive_count;
  rereceive_count = is.rereceive_count;
}
note_is b (Asked count place) noted is = by (nat_lt b.resend_count count)
  where
    by : (later : Bool) → IsBook (if later then record b { log_sent = max b.confirm_sent place.0; resend_count = count } else b)
    by true = record {
      log_sent = omega (arith, noted.1, is.confirm_sent);
      confirm_sent = is.confirm_sent;
      send_count = is.send_count;
      resend_count = noted.0;
      log_received = is.log_received;
      confirm_received = is.confirm_received;
      receive_count = is.receive_count;
      rereceive_count = is.rereceive_count;
    }
    by false = is
note_is b Raised noted is = record {
  log_sent = is.log_sent;
  confirm_sent = is.confirm_sent;
  send_count = is.send_count;
  resend_count = is.resend_count;
  log_received = is.log_received;
  confirm_received = is.confirm_received;
  receive_count = is.receive_count;
  rereceive_count = omega arith;
}
note_is b (Sent end messages confirm) noted is = record {
  log_sent = noted.0;
  confirm_sent = is.confirm_sent;
  send_count = omega arith;
  resend_count = is.resend_count;
  log_received = is.log_received;
  confirm_received = noted.2;
  receive_count = is.receive_count;
  rereceive_count = is.rereceive_count;
}

either : (b : Bool) (one other : Book) → IsBook one → IsBook other → IsBook (if b then one else other)
either true one other is not_taken = is
either false one other not_taken is = is

entry_book : (user : Name) (b : Book) (r : Recorded) → IsEntry (entry_of r) → IsBook b → IsBook (booked user b (sees r))
unfolding IsEntry
entry_book user b (own changes) spelled is = is
entry_book user b (taken other at dones) spelled is = either (bytes_eq user other) (with_taken b at.0) b (taken_is b at.0 spelled.1 is) is
entry_book user b (ddl statement) spelled is = is
entry_book user b (sync other tables) spelled is = is
entry_book user b (pass users only statement changes) spelled is = is
entry_book user b (note other what) spelled is = either (bytes_eq user other) (with_note b what) b (note_is b what spelled.1 is) is

pub book_is : (user : Name) (b : Book) (s : State) (place : ℕ) (rs : List Recorded) → IsBook b → stored_from s place rs → IsBook (book_from sees user b rs)
book_is user b s place [] is stored = is
book_is user b s place (r ∷ rs) is stored = book_is user (booked user b (sees r)) (next s r) (place + (size r + 5)) rs (entry_book user b r stored.0.spelled is) stored.1

their_names : (es : List Recorded) (users : List User) → map (λ (p : Name × Book). p.0) (map (λ (u : User). (u.name, books_of u.name es)) users) ≡ map user_name users
their_names es [] = refl
their_names es (u ∷ users) = ap (λ (l : List Name). u.name ∷ l) (their_names es users)

their_books : (publisher : Name) (es : List Recorded) (users : List User) → Stored publisher es → AllByRecursion (λ (p : Name × Book). IsBook p.1) (map (λ (u : User). (u.name, books_of u.name es)) users)
their_books publisher es [] stored = tt
their_books publisher es (u ∷ users) stored = (book_is u.name new_book (fresh publisher) 0 es new_is stored, their_books publisher es users stored)

-- ---- all of it

pub history_is : (publisher : List ℕ) (es : List Recorded) → IsName publisher → Stored publisher es → IsBeginning (beginning_behind publisher es)
history_is publisher es name stored =
    let holds = stored_holds publisher es stored in
    record {
      place = ends_within publisher es stored;
      publisher = subst (λ (n : List ℕ). IsName n) (sym (publisher_from (fresh publisher) es)) name;
      catalog = holds.catalog;
      texts = texts_utf8 (statements (state_of publisher es).catalog) (script_normal (state_of publisher es).catalog holds.catalog);
      rows = holds.rows;
      values = values_from (fresh publisher) 0 es (no_values publisher) stored;
      users = their_names es (state_of publisher es).catalog.users;
      numbers = their_books publisher es (state_of publisher es).catalog.users stored;
    }
