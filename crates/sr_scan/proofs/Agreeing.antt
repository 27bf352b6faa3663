-- What an entry that fits gives by its images is what the views differ in.
use Rattle.std.proofs.Common.{◌≡◌, ℕ, Bool, true, false, cond, List, [], ◌∷◌, ◌++◌, length, map, Option, Some, None, nat_eq, slice_get, bytes_eq, refl, sym, ap, ap₂, ◌∙◌}
use Rattle.std.specs.Ordering.{eq_by_cmp}
use Rattle.std.specs.Cmp.{eq_by_cmp_equiv}
use Rattle.sr_base.specs.Order.{key_cmp}
use Rattle.sr_base.specs.Inner.Order.{key_cmp_total}
use Rattle.sr_base.specs.declared.value.Value.{Value as Cell}
use Rattle.sr_ast.specs.Layout.{printed}
use Rattle.sr_ast.specs.declared.stmt.Stmt.{Stmt}
use Rattle.sr_base.specs.declared.offset.Offset.{Offset as Place}
use Rattle.sr_book.specs.Entries.{Name}
use Rattle.sr_catalog_change.specs.Changes.{refusal, next as catalog_next}
use Rattle.sr_exec_dml.specs.Applying.{applied_in, applied}
use Rattle.sr_exec_dml.specs.Fitting.{RowsFit}
use Rattle.sr_exec_dml.specs.FittingChanges.{ChangesFit}
use Rattle.sr_exec_where.specs.Keys.{key_of}
use Rattle.sr_exec_dml.specs.Statements.{table_named}
use Rattle.sr_exec_dml.proofs.Applied.{fitting_changes_keep}
use Rattle.sr_database_history.specs.Fitting.{IsAcceptedPass, IsNamedKey, AreNamedRows, all_there, fitted_in, DoneFits, DonesFit, FitsState, Fits}
use Rattle.sr_database_history.specs.Folds.{State, with_changes, with_statement, done_changes, after_done, after_dones, after_pass, row_change, next}
use Rattle.sr_database_history.specs.Recorded.{Done, plain, ran, conflict, clash, done_of, Recorded, own, taken, ddl, sync, pass, note, entry_of}
use Rattle.sr_database_history.specs.Inner.Laws.{Holds}
use Rattle.sr_database_history.proofs.Tables.{statement_keeps}
use Rattle.sr_logform.specs.declared.change.Change.{Change}
use Rattle.sr_logform.specs.declared.op.Op.{Op}
use Rattle.sr_logform.specs.declared.op.Op.TheVariants.{Insert, Remove, Set, Clear, Exec}
use Rattle.sr_logform.specs.declared.op.Transaction.{Transaction}
use Rattle.sr_logform.specs.declared.outcome.Clash.{Clash as Why}
use Rattle.sr_logform.specs.declared.outcome.Outcome.TheVariants as outcomes
use Rattle.sr_exec_fits.specs.Rows.{is_row}
use Rattle.sr_publish.specs.SubscribedTables.{subscribed_table_of}
use Rattle.sr_publish.specs.Views.{shown_row}
use Rattle.sr_rows.specs.Marks.{RowMap, rows_of_table}
use Rattle.sr_catalog_schema.specs.Catalogs.{Lists}
use Rattle.sr_catalog_schema.specs.Firsts.{has}
use Rattle.sr_catalog_schema.specs.declared.fault.DdlFault.{DdlFault}
use Rattle.sr_catalog_schema.specs.declared.table.Table.{Table}
use Rattle.sr_scan.specs.Ops.{told_back}
use Rattle.sr_scan.specs.Given.{changes_given, row_given, key_given, done_given_to, dones_given, pass_given, gives}
use Rattle.sr_scan.specs.Inner.Images.{changes_told, all_of, key_meant, stands_under, are_rows_of, rows_told, conflict_told, op_told, unless_refused, catalog_behind, catalog_after, ops_told, told}
use Rattle.sr_exec_where.specs.Inner.Fixing.{with_value}
use Rattle.sr_scan.specs.Inner.Meanings.{meant_done, meant_by, IsGiven}
use Rattle.sr_scan.specs.Inner.Scanners.{Scan, transaction_of, IsFed}
use Rattle.sr_scan.proofs.Applying.{first_fit, last_fits, applied-append, after_fits, holds_after}
use Rattle.sr_scan.proofs.Moves.{changes_same}
use Rattle.sr_scan.proofs.Meant.{meant_is}
use Rattle.sr_scan.proofs.Sames.{cond_true, same_length}
use Rattle.std.proofs.lemmas.Bool.{and_from}
use Rattle.sr_base.proofs.Truths.{some_is}

-- ---- the key that columns name

all_are : (values : List (Option Cell)) (key : List Cell) → all_there values key → all_of values ≡ Some key
all_are [] [] h = refl
all_are [] (v ∷ key) h = absurd h
all_are (o ∷ values) [] h = absurd h
all_are (o ∷ values) (v ∷ key) h = ap₂ (λ x y. with_value x y) h.0 (all_are values key h.1)

key_named : (t : Table) (columns : List (Name × Cell)) (key : List Cell) → IsNamedKey t columns key → key_meant t columns ≡ Some key
key_named t columns key h =
    let values = map (λ place. fitted_in columns (slice_get t.columns place)) t.key in
    cond_true (nat_eq (length columns) (length t.key)) (all_of values) None
    (ap (λ n. nat_eq n (length t.key)) h.count ∙ same_length (length t.key)) ∙ all_are values key h.values

stands : (t : Table) (o : Option (List Cell)) (key row : List Cell) → o ≡ Some key → key_of t.key row ≡ key → stands_under t o row ≡ true
stands t o key row e is = ap (λ x. stands_under t x row) e ∙ (ap (λ k. eq_by_cmp key_cmp key k) is ∙ (eq_by_cmp_equiv key_cmp_total).refl key)

rows_are : (c : Lists) (table : Name) (columns : List (Name × Cell)) (before after : List Cell) → (h : AreNamedRows c table columns before after)
    → are_rows_of h.table columns before after ≡ true
rows_are c table columns before after h =
    let t = h.table in
    let meant = key_named t columns h.key h.meant in
    and_from (is_row t.columns before) _ h.fits_before
    (and_from (is_row t.columns after) _ h.fits_after
    (and_from (stands_under t (key_meant t columns) before) _ (stands t (key_meant t columns) h.key before meant h.key_before)
    (stands t (key_meant t columns) h.key after meant h.key_after)))

-- ---- an op that met another value

module _ (s : State) (user table : Name) (columns : List (Name × Cell)) (values : List (Name × Cell × Cell)) (inserts : List Change) (before after : List Cell)
    (fit : RowsFit s.catalog s.rows) (f : DoneFits s (conflict (Set table columns values) inserts before after)) where
  abbrev d : Done
  d = conflict (Set table columns values) inserts before after

  abbrev change : Change
  change = row_change (Set table columns values) before after

  inserts_same : changes_given s user inserts ≡ changes_told (subscribed_table_of s.catalog user) inserts
  inserts_same = changes_same s user inserts fit (first_fit s.catalog inserts (change ∷ []) s.rows f.changes)

  all_same : changes_given s user (done_changes d) ≡ changes_told (subscribed_table_of s.catalog user) (inserts ++ change ∷ [])
  all_same = changes_same s user (inserts ++ change ∷ []) fit f.changes

  -- the row of the key behind it
  row_after : rows_of_table (after_done d s).rows table (key_of f.outcome.1.table.key before) ≡ Some after
  row_after =
      let rows = f.outcome.1 in
      let before_it = applied s.catalog inserts s.rows in
      let last = last_fits s.catalog inserts s.rows change f.changes in
      let fit_before = fitting_changes_keep s.catalog s.rows inserts fit (first_fit s.catalog inserts (change ∷ []) s.rows f.changes) in
      let one : last.table ≡ rows.table = some_is (sym last.named ∙ rows.named) in
      let key : last.key ≡ key_of rows.table.key before =
      sym (after_fits s.catalog before_it change last after refl).1 ∙ (ap (λ (t : Table). key_of t.key after) one ∙ (rows.key_after ∙ sym rows.key_before)) in
      ap (λ (r : RowMap). rows_of_table r table (key_of rows.table.key before)) (applied-append s.catalog inserts (change ∷ []) s.rows)
      ∙ (ap (λ k. rows_of_table (applied_in (table_named s.catalog table) change before_it) table k) (sym key) ∙ holds_after s.catalog before_it change last fit_before)

  back_same : row_given (after_done d s) user (Set table columns values) before
      ≡ told_back f.outcome.1.table (subscribed_table_of s.catalog user table) (key_of f.outcome.1.table.key before) before (shown_row (subscribed_table_of s.catalog user table) (Some after))
  back_same =
      let t = f.outcome.1.table in
      ap (λ o. key_given o (after_done d s) user table before) f.outcome.1.named
      ∙ ap (λ o. told_back t (subscribed_table_of s.catalog user table) (key_of t.key before) before (shown_row (subscribed_table_of s.catalog user table) o)) row_after

  rows_same : (is_origin : Bool) → done_given_to is_origin s user d
      ≡ rows_told is_origin (subscribed_table_of s.catalog user) f.outcome.1.table table inserts before after
  rows_same true = ap₂ (λ x y. x ++ y) inserts_same back_same
  rows_same false = all_same

  pub conflict_same : (is_origin : Bool) → done_given_to is_origin s user d ≡ op_told is_origin s.catalog user (done_of d).0 (done_of d).1
  conflict_same is_origin =
      let t = f.outcome.1.table in
      rows_same is_origin ∙ sym (ap (λ o. conflict_told is_origin (subscribed_table_of s.catalog user) o table columns inserts before after) f.outcome.1.named
      ∙ cond_true (are_rows_of t columns before after) (rows_told is_origin (subscribed_table_of s.catalog user) t table inserts before after) []
      (rows_are s.catalog table columns before after f.outcome.1))

-- ---- what was done

plain_same : (is_origin : Bool) (s : State) (user : Name) (changes : List Change) → changes_given s user changes ≡ changes_told (subscribed_table_of s.catalog user) changes
    → cond is_origin [] (changes_given s user changes) ≡ cond is_origin [] (changes_told (subscribed_table_of s.catalog user) changes)
plain_same true s user changes e = refl
plain_same false s user changes e = e

given_plain : (is_origin : Bool) (s : State) (user : Name) (op : Op) (changes : List Change)
    → done_given_to is_origin s user (plain op changes) ≡ cond is_origin [] (changes_given s user changes)
given_plain true s user op changes = refl
given_plain false s user op changes = refl

given_ran : (is_origin : Bool) (s : State) (user : Name) (statement : Stmt) (changes : List Change)
    → done_given_to is_origin s user (ran statement changes) ≡ cond is_origin [] (changes_given s user changes)
given_ran true s user statement changes = refl
given_ran false s user statement changes = refl

given_clash : (is_origin : Bool) (s : State) (user : Name) (op : Op) (why : Why) → done_given_to is_origin s user (clash op why) ≡ []
given_clash true s user op why = refl
given_clash false s user op why = refl

-- of an op that met another value, which is a Set
met_same : (is_origin : Bool) (s : State) (user : Name) (op : Op) (inserts : List Change) (before after : List Cell) → RowsFit s.catalog s.rows
    → DoneFits s (conflict op inserts before after)
    → done_given_to is_origin s user (conflict op inserts before after) ≡ op_told is_origin s.catalog user op (outcomes.Conflict inserts before after)
met_same is_origin s user (Insert table values) inserts before after fit f = absurd f.outcome.1
met_same is_origin s user (Remove table key) inserts before after fit f = absurd f.outcome.1
met_same is_origin s user (Set table key columns) inserts before after fit f = conflict_same s user table key columns inserts before after fit f is_origin
met_same is_origin s user (Clear table) inserts before after fit f = absurd f.outcome.1
met_same is_origin s user (Exec text) inserts before after fit f = absurd f.outcome.1

done_same : (is_origin : Bool) (s : State) (user : Name) (d : Done) → RowsFit s.catalog s.rows → DoneFits s d
    → done_given_to is_origin s user d ≡ op_told is_origin s.catalog user (done_of d).0 (done_of d).1
done_same is_origin s user (plain op changes) fit f = given_plain is_origin s user op changes ∙ plain_same is_origin s user changes (changes_same s user changes fit f.changes)
done_same is_origin s user (ran statement changes) fit f =
    given_ran is_origin s user statement changes ∙ plain_same is_origin s user changes (changes_same s user changes fit f.changes)
done_same is_origin s user (conflict op inserts before after) fit f = met_same is_origin s user op inserts before after fit f
done_same is_origin s user (clash op why) fit f = given_clash is_origin s user op why

-- ---- the state behind it

statement_behind : (s : State) (statement : Stmt) → refusal s.catalog statement ≡ None → catalog_behind s.catalog (Some statement) ≡ (with_statement statement s).catalog
unfolding with_statement
statement_behind s statement accepted = ap (λ (o : Option DdlFault). unless_refused o s.catalog (catalog_next s.catalog statement)) accepted

pub done_behind : (s : State) (d : Done) → DoneFits s d → catalog_behind s.catalog (meant_done d) ≡ (after_done d s).catalog
done_behind s (plain op changes) f = refl
done_behind s (ran statement changes) f = statement_behind (with_changes changes s) statement f.outcome.catalog
done_behind s (conflict op inserts before after) f = refl
done_behind s (clash op why) f = refl

statement_fits : (s : State) (statement : Stmt) → RowsFit s.catalog s.rows → refusal s.catalog statement ≡ None
    → RowsFit (with_statement statement s).catalog (with_statement statement s).rows
unfolding with_statement
statement_fits s statement fit accepted = statement_keeps statement s.catalog s.rows accepted fit

pub done_fits : (s : State) (d : Done) → RowsFit s.catalog s.rows → DoneFits s d → RowsFit (after_done d s).catalog (after_done d s).rows
done_fits s (plain op changes) fit f = fitting_changes_keep s.catalog s.rows changes fit f.changes
done_fits s (ran statement changes) fit f =
    statement_fits (with_changes changes s) statement (fitting_changes_keep s.catalog s.rows changes fit f.changes) f.outcome.catalog
done_fits s (conflict op inserts before after) fit f = fitting_changes_keep s.catalog s.rows (done_changes (conflict op inserts before after)) fit f.changes
done_fits s (clash op why) fit f = fit

dones_same : (is_origin : Bool) (s : State) (user : Name) (dones : List Done) → RowsFit s.catalog s.rows → DonesFit s dones
    → dones_given is_origin s user dones ≡ ops_told is_origin s.catalog user (map done_of dones) (map meant_done dones)
dones_same is_origin s user [] fit f = refl
dones_same is_origin s user (d ∷ dones) fit f = ap₂ (λ x y. x ++ y) (done_same is_origin s user d fit f.0)
    (dones_same is_origin (after_done d s) user dones (done_fits s d fit f.0) f.1
    ∙ ap (λ (c : Lists). ops_told is_origin c user (map done_of dones) (map meant_done dones)) (sym (done_behind s d f.0)))

dones_behind : (s : State) (dones : List Done) → DonesFit s dones → catalog_after s.catalog (map meant_done dones) ≡ (after_dones dones s).catalog
dones_behind s [] f = refl
dones_behind s (d ∷ dones) f = ap (λ (c : Lists). catalog_after c (map meant_done dones)) (done_behind s d f.0) ∙ dones_behind (after_done d s) dones f.1

-- ---- entries

pass_same : (only : Bool) (s : State) (user : Name) (changes : List Change) → RowsFit s.catalog s.rows → ChangesFit s.catalog s.rows changes
    → pass_given only s user changes ≡ cond only [] (changes_told (subscribed_table_of s.catalog user) changes)
pass_same true s user changes fit f = refl
pass_same false s user changes fit f = changes_same s user changes fit f

entry_same : (s : State) (r : Recorded) (user : Name) → RowsFit s.catalog s.rows → FitsState s r → told s.catalog (entry_of r) (meant_by r) user ≡ gives s r user
unfolding told gives FitsState
entry_same s (own changes) user fit f = sym (changes_same s user changes fit f)
entry_same s (taken from at dones) user fit f = sym (dones_same (bytes_eq from user) s user dones fit f.1)
entry_same s (ddl statement) user fit f = refl
entry_same s (sync to tables) user fit f = refl
entry_same s (pass users only statement changes) user fit f =
    ap (λ l. cond (has users user) (Exec (printed statement) ∷ []) l) (sym (pass_same only s user changes fit f.1))
entry_same s (note about what) user fit f = refl

pass_behind : (only : Bool) (s : State) (statement : Stmt) (changes : List Change) (users : List Name) → IsAcceptedPass s only statement
    → catalog_after s.catalog (meant_by (pass users only statement changes)) ≡ (after_pass only statement changes s).catalog
pass_behind true s statement changes users f = refl
pass_behind false s statement changes users f = statement_behind (with_changes changes s) statement f.catalog

entry_behind : (s : State) (r : Recorded) → FitsState s r → catalog_after s.catalog (meant_by r) ≡ (next s r).catalog
unfolding next FitsState
entry_behind s (own changes) f = refl
entry_behind s (taken from at dones) f = dones_behind s dones f.1
entry_behind s (ddl statement) f = statement_behind s statement f.catalog
entry_behind s (sync to tables) f = refl
entry_behind s (pass users only statement changes) f = pass_behind only s statement changes users f.2
entry_behind s (note about what) f = refl

-- ---- what the laws say

pub told_same : (s : State) (place : ℕ) (r : Recorded) (user : Name) → Holds s → Fits s place r → told s.catalog (entry_of r) (meant_by r) user ≡ gives s r user
told_same s place r user holds fits = entry_same s r user holds.rows fits.state

pub catalog_same : (s : State) (place : ℕ) (r : Recorded) → Fits s place r → catalog_after s.catalog (meant_by r) ≡ (next s r).catalog
catalog_same s place r fits = entry_behind s r fits.state

pub given_same : (s : State) (place : ℕ) (r : Recorded) (user : Name) (given : List Op) → Holds s → Fits s place r
    → IsGiven s.catalog (entry_of r) user given → given ≡ gives s r user
given_same s place r user given holds fits g =
    g.gives ∙ (ap (λ m. told s.catalog (entry_of r) m user) (meant_is r g.meant fits.meant g.are) ∙ told_same s place r user holds fits)

pub fed_same : (s : State) (place : ℕ) (r : Recorded) (old new : Scan) (at : Place) (found : Option Transaction) → Holds s → Fits s place r
    → old.catalog ≡ s.catalog → IsFed old at (entry_of r) found new
    → (found ≡ transaction_of at (gives s r old.user)) × (new.catalog ≡ (next s r).catalog) × (new.user ≡ old.user)
fed_same s place r old new at found holds fits same f =
    let meant : f.meant ≡ meant_by r = meant_is r f.meant fits.meant f.are in (
      f.gives ∙ ap (λ l. transaction_of at l) (ap₂ (λ (c : Lists) (m : List (Option Stmt)). told c (entry_of r) m old.user) same meant ∙ told_same s place r old.user holds fits),
      f.catalog ∙ (ap₂ (λ (c : Lists) (m : List (Option Stmt)). catalog_after c m) same meant ∙ catalog_same s place r fits),
      f.user,
    )
