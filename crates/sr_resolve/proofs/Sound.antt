-- Outcomes fit the state in which they are judged.
use Rattle.std.proofs.Common.{◌≡◌, ◌&&◌, ℕ, Bool, true, false, cond, not, map, length, nat_eq, List, [], ◌∷◌, Option, Some, None, Result, Ok, Err, refl, sym, ap, subst, ◌∙◌}
use Rattle.std.proofs.lemmas.Bool.{eqb-true}
use Rattle.std.specs.List.{AllByRecursion, list_all, list_any}
use Rattle.std.specs.Option.{is_some}
use Rattle.std.specs.Ordering.{eq_by_cmp}
use Rattle.std.specs.declared.cmp.Ordering.TheVariants.{Less}
use Rattle.std.specs.FinMap.{get, get-remove, find}
use Rattle.std.specs.Prelude.{slice_get}
use Rattle.sr_base.specs.Order.{key_cmp}
use Rattle.sr_base.specs.declared.value.Value.{Value as Cell}
use Rattle.sr_ast.specs.Statements.{is_carried}
use Rattle.sr_ast.specs.declared.query.Dml.{Dml}
use Rattle.sr_ast.specs.declared.stmt.Stmt.{Stmt}
use Rattle.sr_ast.specs.declared.stmt.Stmt.TheVariants as stmt
use Rattle.sr_book.specs.Entries.{Name}
use Rattle.sr_catalog_change.specs.Changes.{refusal}
use Rattle.sr_eval.specs.Comparisons.{is_null}
use Rattle.sr_exec_dml.specs.Applying.{place_of, applied_in, applied}
use Rattle.sr_exec_dml.specs.Fitting.{RowsFit}
use Rattle.sr_exec_fits.specs.Rows.{IsRow}
use Rattle.sr_exec_dml.specs.FittingChanges.{IsFitChange, ChangesFit}
use Rattle.sr_logform.specs.Outcomes.{is_same_row}
use Rattle.sr_exec_where.specs.Keys.{key_of}
use Rattle.sr_exec_dml.specs.Statements.{table_named, done}
use Rattle.sr_exec_dml.specs.declared.changes.Changes.{Changes}
use Rattle.sr_exec_dml.proofs.Applied.{own_name, found_named, statements_changes_fit}
use Rattle.sr_exec_dml.proofs.Afterwards.{all_stand, same_place}
use Rattle.sr_exec_where.proofs.Fixed.{same_name}
use Rattle.sr_exec_dml.proofs.Folding.{turned}
use Rattle.sr_resolve_triggers.specs.Actions.{insertion}
use Rattle.sr_resolve_triggers.specs.Firing.{fired}
use Rattle.sr_resolve_triggers.specs.Inner.Laws.{IsInserted, IsLeft}
use Rattle.sr_resolve_triggers.specs.Bindings.{UpdateConflict}
use Rattle.sr_resolve_triggers.specs.declared.fired.Fired.{Fired}
use Rattle.sr_resolve_triggers.proofs.Leaving.{fit_more, leaves}
use Rattle.sr_database_history.specs.Fitting.{IsInsertion, IsNamedKey, DoneFits, HasChanges, RowsAllow as IsDoneThere, IsAccepted}
use Rattle.sr_database_history.specs.Folds.{State, row_change}
use Rattle.sr_database_history.specs.Recorded.{done_of, IsLawfulDone, IsNoExec}
use Rattle.sr_logform.specs.declared.change.Change.{Change}
use Rattle.sr_logform.specs.declared.op.Op.{Op}
use Rattle.sr_logform.specs.declared.op.Op.TheVariants as op
use Rattle.sr_logform.specs.declared.outcome.Clash.{Clash as Why}
use Rattle.sr_logform.specs.declared.outcome.Clash.TheVariants.{Duplicate, NoRow, NoTable, NoColumn, BadValue, Null, Trigger, Statement}
use Rattle.sr_logform.specs.declared.outcome.Outcome.{Outcome}
use Rattle.sr_logform.specs.declared.outcome.Outcome.TheVariants.{Plain, Conflict, Clash}
use Rattle.sr_parse.specs.Prints.{Prints}
use Rattle.sr_rows.specs.Marks.{RowMap, place_cmp, rows_of_table}
use Rattle.sr_rows.specs.Inner.Marks.{place_cmp_total}
use Rattle.sr_rows.specs.Walks.{Entry, table_rows}
use Rattle.sr_rows.specs.Inner.Walks.{Rises}
use Rattle.sr_rows.proofs.Listing.{get-table_rows, table_rows-rise, each_found}
use Rattle.sr_catalog_schema.specs.Causes.{first_fault}
use Rattle.sr_catalog_schema.specs.Catalogs.{Lists}
use Rattle.sr_catalog_schema.specs.declared.fault.DdlFault.{DdlFault}
use Rattle.sr_catalog_schema.specs.declared.fault.DmlFault.{DmlFault}
use Rattle.sr_catalog_schema.specs.declared.table.Table.{Table}
use Rattle.sr_resolve.specs.Judging.{clash_unless, judged_insert, removal, judged_remove, ground_of, resolved, changed, judged_update, judged_set, judged_clear, is_too_long, ran_dml, ran_ddl, ran_stmt, judged_exec, judged, IsPrintedBy, IsStatementOf}
use Rattle.sr_resolve.specs.Inner.Laws.{IsDifferent, ChangesDiffer}
use Rattle.sr_resolve.specs.Named.{Values, Updates, names_key, fitted_key, names_other, filled_row, has_null, is_no_target, new_values, sets_null, with_news, differing, is_named}
use Rattle.sr_resolve.specs.Taking.{done_by, done_judged}
use Rattle.sr_resolve.proofs.Cases.{of_if, of_unless, of_met}
use Rattle.sr_resolve.proofs.Differing.{two_rows, statements_differ}
use Rattle.sr_resolve.proofs.Rows.{news_fit, filled_fits, key_there, key_stays}

-- what is to be shown of an outcome
record IsSound (s : State) (o : Op) (statement : Option Stmt) (outcome : Outcome) : Type 0 where
  fits : RowsFit s.catalog s.rows → DoneFits s (done_by o statement outcome)
  meant : IsLawfulDone (done_by o statement outcome)
  stands : done_of (done_by o statement outcome) ≡ (o, outcome)
  differ : RowsFit s.catalog s.rows → ChangesDiffer outcome

clash_sound : (s : State) (o : Op) (statement : Option Stmt) (why : Why) → IsSound s o statement (Clash why)
clash_sound s o statement why = record { fits = λ h. record { changes = tt; outcome = tt }; meant = tt; stands = refl; differ = λ h. tt }

plain_sound : (s : State) (o : Op) (changes : List Change) → IsNoExec o → (RowsFit s.catalog s.rows → ChangesFit s.catalog s.rows changes)
    → AllByRecursion IsDifferent changes
    → IsSound s o None (Plain changes)
plain_sound s o changes meant fits differ = record { fits = λ h. record { changes = fits h; outcome = tt }; meant = meant; stands = refl; differ = λ h. differ }

-- a row and none
from_none : (row : List Cell) → ¬ (None ≡ Some row)
from_none row h = cc

to_none : (row : List Cell) → ¬ (Some row ≡ None)
to_none row h = cc

-- ---- Insert

not_held : (o : Option (List Cell)) → is_some o ≡ false → o ≡ None
not_held None h = refl
not_held (Some row) h = cc

insert_sound : (s : State) (name : Name) (values : Values)
    → IsSound s (op.Insert name values) None (clash_unless (table_named s.catalog name) NoTable (judged_insert s.rows values))
unfolding judged_insert
insert_sound s name values =
    let P : Outcome → Type 0 = IsSound s (op.Insert name values) None in
    let clashes : (why : Why) → P (Clash why) = clash_sound s (op.Insert name values) None in
    of_unless P clashes (table_named s.catalog name) NoTable (judged_insert s.rows values) (λ t named.
    of_if P clashes (names_other t values) NoColumn _ (λ others.
    of_unless P clashes (filled_row values t.columns) BadValue _ (λ row filled.
    of_if P clashes (has_null t.columns row) Null _ (λ nulls.
    of_if P clashes (is_some (rows_of_table s.rows t.name (key_of t.key row))) Duplicate _ (λ free.
    plain_sound s (op.Insert name values) (insertion t row ∷ []) tt
    (λ h. (
      record {
        table = t;
        named = own_name s.catalog name t named;
        key = key_of t.key row;
        held = not_held (rows_of_table s.rows t.name (key_of t.key row)) free;
        fits = (filled_fits values t.columns row filled nulls, refl);
      },
      tt,
    )) (from_none row, tt))))))

-- ---- Remove

remove_sound : (s : State) (name : Name) (key : Values)
    → IsSound s (op.Remove name key) None (clash_unless (table_named s.catalog name) NoTable (judged_remove s.rows key))
unfolding judged_remove
remove_sound s name key =
    let P : Outcome → Type 0 = IsSound s (op.Remove name key) None in
    let clashes : (why : Why) → P (Clash why) = clash_sound s (op.Remove name key) None in
    of_unless P clashes (table_named s.catalog name) NoTable (judged_remove s.rows key) (λ t named.
    of_if P clashes (not (names_key t key)) NoColumn _ (λ names.
    of_unless P clashes (fitted_key t key) BadValue _ (λ place fitted.
    of_if P clashes (list_any is_null place) Null _ (λ nulls.
    of_unless P clashes (rows_of_table s.rows t.name place) NoRow _ (λ row held.
    plain_sound s (op.Remove name key) (removal t.name row ∷ []) tt
    (λ h. (record { table = t; named = own_name s.catalog name t named; key = place; held = held; fits = tt }, tt)) (to_none row, tt))))))

-- ---- Set

-- what is known of the row that is updated
module _ (s : State) (name : Name) (key : Values) (updates : Updates) (t : Table) (named : table_named s.catalog name ≡ Some t) (place stored new : List Cell)
    (held : rows_of_table s.rows t.name place ≡ Some stored) (new_fits : IsRow t.columns stored
    → IsRow t.columns new) (key_is : key_of t.key new ≡ key_of t.key stored)
    (meant : IsNamedKey t key place) where
  abbrev P : Outcome → Type 0
  P = IsSound s (op.Set name key updates) None

  abbrev change : Change
  change = record { table = t.name; before = Some stored; after = Some new }

  own : table_named s.catalog t.name ≡ Some t
  own = own_name s.catalog name t named

  stored_fits : RowsFit s.catalog s.rows → IsRow t.columns stored × (key_of t.key stored ≡ place)
  stored_fits h = h.each t.name t own place stored held

  one_change : (b : Bool) → is_same_row (Some stored) (Some new) ≡ b → P (Plain (cond b [] (change ∷ [])))
  one_change true e = plain_sound s (op.Set name key updates) [] tt (λ h. tt) tt
  one_change false e = plain_sound s (op.Set name key updates) (change ∷ []) tt
      (λ h. let fits = stored_fits h in (record { table = t; named = own; key = place; held = held; fits = (new_fits fits.0, key_is ∙ fits.1) }, tt))
      (two_rows (Some stored) (Some new) e, tt)

  changed_sound : P (changed t.name stored new)
  changed_sound = one_change (is_same_row (Some stored) (Some new)) refl

  -- a conflict
  insertions : (changes : List Change) → AllByRecursion IsInserted changes → AllByRecursion IsInsertion changes
  insertions [] h = tt
  insertions (c ∷ changes) h = (h.0.0, insertions changes h.1)

  inserted_two : (before after : Option (List Cell)) → before ≡ None → is_some after ≡ true → ¬ (before ≡ after)
  inserted_two before None b a h = cc
  inserted_two before (Some row) b a h = let gone : None ≡ Some row = sym b ∙ h in cc

  inserts_differ : (changes : List Change) → AllByRecursion IsInserted changes → AllByRecursion IsDifferent changes
  inserts_differ [] h = tt
  inserts_differ (c ∷ changes) h = (inserted_two c.before c.after h.0.0 h.0.1, inserts_differ changes h.1)

  module _ (f : Fired) (names : List Name) (is : fired (ground_of s.catalog s.rows updates t stored) names new ≡ Some f) where
    abbrev base : UpdateConflict
    base = ground_of s.catalog s.rows updates t stored

    left_fits : RowsFit s.catalog s.rows → IsLeft base new f
    left_fits h = leaves base names new f (new_fits (stored_fits h).0) is

    last_fits : RowsFit s.catalog s.rows → IsFitChange s.catalog (applied s.catalog f.inserts s.rows) (row_change (op.Set name key updates) stored f.new)
    last_fits h =
        let l = left_fits h in
        let fits = stored_fits h in
        record {
          table = t;
          named = named;
          key = place;
          held = ap (λ (n : Name). rows_of_table (applied s.catalog f.inserts s.rows) n place) (same_name name t.name
              (found_named name s.catalog.tables t named))
              ∙ l.stay (t.name, place) stored held;
          fits = (l.new, l.key ∙ key_is ∙ fits.1);
        }

    conflict_fits : RowsFit s.catalog s.rows → DoneFits s (done_by (op.Set name key updates) None (Conflict f.inserts stored f.new))
    conflict_fits h =
        let l = left_fits h in
        let fits = stored_fits h in
        record {
          changes = fit_more s.catalog f.inserts s.rows (row_change (op.Set name key updates) stored f.new) l.inserts (last_fits h);
          outcome = (
            insertions f.inserts l.inserted,
            record {
              table = t;
              named = named;
              fits_before = fits.0;
              fits_after = l.new;
              key = place;
              meant = meant;
              key_before = fits.1;
              key_after = l.key ∙ key_is ∙ fits.1;
            },
          );
        }

    conflict_sound : P (Conflict f.inserts stored f.new)
    conflict_sound = record { fits = conflict_fits; meant = tt; stands = refl; differ = λ h. inserts_differ f.inserts (left_fits h).inserted }

  resolved_sound : (names : List Name) (o : Option Fired) → fired (ground_of s.catalog s.rows updates t stored) names new ≡ o → P (resolved stored o)
  resolved_sound names None e = clash_sound s (op.Set name key updates) None Trigger
  resolved_sound names (Some f) e = conflict_sound f names e

  update_sound : (above : Bool) → P (judged_update s.catalog s.rows above updates t stored new)
  unfolding judged_update
  update_sound true = changed_sound
  update_sound false =
      of_met P (differing updates t.columns stored) (changed t.name stored new)
      (resolved stored (fired (ground_of s.catalog s.rows updates t stored) (differing updates t.columns stored) new)) changed_sound
      (resolved_sound (differing updates t.columns stored) (fired (ground_of s.catalog s.rows updates t stored) (differing updates t.columns stored) new) refl)

-- the named columns are the key
both_true : (a b : Bool) → not (a && b) ≡ false → (a ≡ true) × (b ≡ true)
both_true true true h = (refl, refl)
both_true true false h = cc
both_true false b h = cc

key_meant : (t : Table) (key : Values) (place : List Cell) → not (names_key t key) ≡ false → fitted_key t key ≡ Some place → IsNamedKey t key place
unfolding names_key
key_meant t key place names fitted =
    let both = both_true (nat_eq (length key) (length t.key)) (list_all (λ p. is_named key (slice_get t.columns p)) t.key) names in
    record { count = eqb-true (length key) (length t.key) both.0; values = key_there t key t.key place fitted }

set_sound : (s : State) (above : Bool) (name : Name) (key : Values) (updates : Updates)
    → IsSound s (op.Set name key updates) None (clash_unless (table_named s.catalog name) NoTable (judged_set s.catalog s.rows above key updates))
unfolding judged_set
set_sound s above name key updates =
    let P : Outcome → Type 0 = IsSound s (op.Set name key updates) None in
    let clashes : (why : Why) → P (Clash why) = clash_sound s (op.Set name key updates) None in
    of_unless P clashes (table_named s.catalog name) NoTable (judged_set s.catalog s.rows above key updates) (λ t named.
    of_if P clashes (not (names_key t key)) NoColumn _ (λ names.
    of_if P clashes (list_any (is_no_target t) updates) NoColumn _ (λ targets.
    of_unless P clashes (fitted_key t key) BadValue _ (λ place fitted.
    of_unless P clashes (new_values above updates t.columns) BadValue _ (λ news news_are.
    of_if P clashes (list_any is_null place) Null _ (λ nulls.
    of_if P clashes (sets_null t.columns news) Null _ (λ none.
    of_unless P clashes (rows_of_table s.rows t.name place) NoRow _ (λ stored held.
    update_sound s name key updates t named place stored (with_news news stored) held (λ fits. news_fit above updates t.columns stored news fits news_are none)
    (key_stays above t updates news stored targets news_are) (key_meant t key place names fitted) above))))))))

-- ---- Clear

module _ (s : State) (t : Table) (own : table_named s.catalog t.name ≡ Some t) where
  abbrev StandHere : List Entry → RowMap → Type 0
  StandHere es rows = AllByRecursion (λ e. get rows (t.name, e.0) ≡ Some e.1) es

  -- a row that goes leaves those at greater keys
  others_stay : (e : Entry) (es : List Entry) (rows : RowMap) → key_of t.key e.1 ≡ e.0 → AllByRecursion (λ x. key_cmp e.0 x.0 ≡ Less) es → StandHere es rows
      → StandHere es (applied_in (table_named s.catalog t.name) (removal t.name e.1) rows)
  others_stay e [] rows k h st = tt
  others_stay e (x ∷ es) rows k h st = (
    ap (λ o. get (applied_in o (removal t.name e.1) rows) (t.name, x.0)) own ∙ get-remove place_cmp_total rows (place_of t e.1) (t.name, x.0)
        ∙ ap (λ b. cond b None (get rows (t.name, x.0))) (ap (λ q. eq_by_cmp place_cmp (t.name, x.0) (t.name, q)) k ∙ same_place t.name x.0 e.0
        ∙ turned e.0 x.0 h.0) ∙ st.0,
    others_stay e es rows k h.1 st.1,
  )

  clear_fits : (es : List Entry) (rows : RowMap) → Rises key_cmp es → AllByRecursion (λ e. key_of t.key e.1 ≡ e.0) es → StandHere es rows
      → ChangesFit s.catalog rows (map (λ (e : Entry). removal t.name e.1) es)
  clear_fits [] rows r k st = tt
  clear_fits (e ∷ es) rows r k st = (
    record { table = t; named = own; key = e.0; held = st.0; fits = tt },
    clear_fits es (applied_in (table_named s.catalog t.name) (removal t.name e.1) rows) r.1 k.1 (others_stay e es rows k.0 r.0 st.1),
  )

  all_here : (es : List Entry) → AllByRecursion (λ e. find key_cmp e.0 (table_rows s.rows t.name) ≡ Some e.1) es → StandHere es s.rows
  all_here [] h = tt
  all_here (e ∷ es) h = (get-table_rows s.rows t.name e.0 ∙ h.0, all_here es h.1)

  removals_differ : (es : List Entry) → AllByRecursion IsDifferent (map (λ (e : Entry). removal t.name e.1) es)
  removals_differ [] = tt
  removals_differ (e ∷ es) = (to_none e.1, removals_differ es)

clear_sound : (s : State) (above : Bool) (name : Name)
    → IsSound s (op.Clear name) None (clash_unless (table_named s.catalog name) NoTable (judged_clear s.rows above))
unfolding judged_clear
clear_sound s above name =
    let P : Outcome → Type 0 = IsSound s (op.Clear name) None in
    let clashes : (why : Why) → P (Clash why) = clash_sound s (op.Clear name) None in
    of_unless P clashes (table_named s.catalog name) NoTable (judged_clear s.rows above) (λ t named. from above t named) where
      from : (above : Bool) (t : Table) → table_named s.catalog name ≡ Some t → IsSound s (op.Clear name) None (judged_clear s.rows above t)
      from false t named = clash_sound s (op.Clear name) None Statement
      from true t named =
          let own = own_name s.catalog name t named in
          let es = table_rows s.rows t.name in
          plain_sound s (op.Clear name) (map (λ (e : Entry). removal t.name e.1) es) tt
          (λ h. clear_fits s t own es s.rows (table_rows-rise s.rows t.name) (all_stand t s.rows (h.each t.name t own))
          (all_here s t own es (each_found es (table_rows-rise s.rows t.name)))) (removals_differ s t own es)

-- ---- Exec

module _ (s : State) (text : List ℕ) (x : Stmt) (prints : Prints x text) (carried : not (is_carried x) ≡ false) where
  abbrev Q : Outcome → Type 0
  Q = IsSound s (op.Exec text) (Some x)

  is_true : (b : Bool) → not b ≡ false → b ≡ true
  is_true true h = refl
  is_true false h = cc

  ran_sound : (changes : List Change) → (RowsFit s.catalog s.rows → ChangesFit s.catalog s.rows changes) → IsAccepted s x
      → AllByRecursion IsDifferent changes
      → Q (Plain changes)
  ran_sound changes fits accepted differ = record {
    fits = λ h. record { changes = fits h; outcome = accepted };
    meant = (prints.normal, is_true (is_carried x) carried);
    stands = ap (λ (bytes : List ℕ). (op.Exec bytes, Plain changes)) prints.prints;
    differ = λ h. differ;
  }

  -- a statement on the catalog asks nothing of the rows
  ddl_sound : (o : Option DdlFault) → refusal s.catalog x ≡ o → IsDoneThere s x → Q (ran_ddl o)
  ddl_sound None e rows = ran_sound [] (λ h. tt) (record { catalog = e; rows = rows }) tt
  ddl_sound (Some fault) e rows = clash_sound s (op.Exec text) (Some x) Statement

  -- one on the rows is accepted where they give it changes
  dml_sound : (d : Dml) (r : Result Changes DmlFault) → refusal s.catalog x ≡ None → done s.catalog s.rows d ≡ r → (HasChanges r → IsDoneThere s x)
      → Q (ran_dml r)
  dml_sound d (Err fault) accepted e rows = clash_sound s (op.Exec text) (Some x) Statement
  dml_sound d (Ok changes) accepted e rows =
      of_if Q (clash_sound s (op.Exec text) (Some x)) (is_too_long changes.list) Statement (Plain changes.list) (λ short.
      ran_sound changes.list (λ h. statements_changes_fit s.catalog s.rows d changes h e)
      (record { catalog = accepted; rows = rows tt }) (statements_differ s.catalog s.rows d changes e))

never_refused : (catalog : Lists) (d : Dml) → refusal catalog (stmt.Dml d) ≡ None
unfolding refusal first_fault
never_refused catalog d = refl

stmt_sound : (s : State) (text : List ℕ) (x : Stmt) → Prints x text → not (is_carried x) ≡ false
    → IsSound s (op.Exec text) (Some x) (ran_stmt s.catalog s.rows x)
stmt_sound s text (stmt.Dml d) prints carried = dml_sound s text (stmt.Dml d) prints carried d (done s.catalog s.rows d) (never_refused s.catalog d) refl (λ h. h)
stmt_sound s text x prints carried = ddl_sound s text x prints carried (refusal s.catalog x) refl tt

exec_sound : (s : State) (above : Bool) (text : List ℕ) (statement : Option Stmt) → IsPrintedBy statement text
    → IsSound s (op.Exec text) statement (judged_exec s.catalog s.rows above statement)
unfolding judged_exec
exec_sound s false text statement prints = clash_sound s (op.Exec text) statement Statement
exec_sound s true text None prints = clash_sound s (op.Exec text) None Statement
exec_sound s true text (Some x) prints =
    of_if (IsSound s (op.Exec text) (Some x)) (clash_sound s (op.Exec text) (Some x)) (not (is_carried x)) Statement (ran_stmt s.catalog s.rows x)
    (λ carried. stmt_sound s text x prints carried)

-- ---- any op

-- an op that carries no statement
without : (s : State) (above : Bool) (o : Op) (statement : Option Stmt) → statement ≡ None → IsSound s o None (judged s.catalog s.rows above o None)
    → IsSound s o statement (judged s.catalog s.rows above o statement)
without s above o statement none sound = subst (λ (x : Option Stmt). IsSound s o x (judged s.catalog s.rows above o x)) (sym none) sound

sound : (s : State) (above : Bool) (o : Op) (statement : Option Stmt) → IsStatementOf statement o
    → IsSound s o statement (judged s.catalog s.rows above o statement)
sound s above (op.Insert table values) statement carried = without s above (op.Insert table values) statement carried (insert_sound s table values)
sound s above (op.Remove table key) statement carried = without s above (op.Remove table key) statement carried (remove_sound s table key)
sound s above (op.Set table key columns) statement carried = without s above (op.Set table key columns) statement carried (set_sound s above table key columns)
sound s above (op.Clear table) statement carried = without s above (op.Clear table) statement carried (clear_sound s above table)
sound s above (op.Exec text) statement carried = exec_sound s above text statement carried

pub judged_fits : (s : State) (above : Bool) (o : Op) (statement : Option Stmt) → RowsFit s.catalog s.rows → IsStatementOf statement o
    → DoneFits s (done_judged s above o statement)
unfolding done_judged
judged_fits s above o statement fits carried = (sound s above o statement carried).fits fits

pub judged_meant : (s : State) (above : Bool) (o : Op) (statement : Option Stmt) → IsStatementOf statement o → IsLawfulDone (done_judged s above o statement)
unfolding done_judged
judged_meant s above o statement carried = (sound s above o statement carried).meant

pub judged_stands : (s : State) (above : Bool) (o : Op) (statement : Option Stmt) → IsStatementOf statement o
    → done_of (done_judged s above o statement) ≡ (o, judged s.catalog s.rows above o statement)
unfolding done_judged
judged_stands s above o statement carried = (sound s above o statement carried).stands

pub judged_differ : (s : State) (above : Bool) (o : Op) (statement : Option Stmt) → RowsFit s.catalog s.rows → IsStatementOf statement o
    → ChangesDiffer (judged s.catalog s.rows above o statement)
judged_differ s above o statement fits carried = (sound s above o statement carried).differ fits

pub judged_done : (s : State) (above : Bool) (o : Op) (statement : Option Stmt)
    → done_judged s above o statement ≡ done_by o statement (judged s.catalog s.rows above o statement)
unfolding done_judged
judged_done s above o statement = refl
