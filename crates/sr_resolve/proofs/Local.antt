-- What an op from above leaves under a key depends on the op, the table and the row that was there.
use Rattle.std.proofs.Common.{◌≡◌, ℕ, Bool, true, false, cond, not, map, List, [], ◌∷◌, Option, Some, None, bytes_eq, refl, sym, ap, subst, ◌∙◌}
use Rattle.std.specs.FinMap.{get, get-insert, get-remove, find}
use Rattle.std.specs.List.{AllByRecursion, list_any}
use Rattle.std.specs.Option.{option_map, is_some}
use Rattle.std.specs.Ordering.{eq_by_cmp, is_eq}
use Rattle.sr_base.specs.Order.{key_cmp}
use Rattle.sr_base.specs.declared.value.Value.{Value as Cell}
use Rattle.sr_book.specs.Entries.{Name}
use Rattle.sr_eval.specs.Comparisons.{is_null}
use Rattle.sr_exec_dml.specs.Applying.{place_of, without_row, with_row, applied_in, applied}
use Rattle.sr_exec_dml.specs.Fitting.{TableFits, RowsFit}
use Rattle.sr_logform.specs.Outcomes.{is_same_row}
use Rattle.sr_catalog_schema.specs.Firsts.{first_of}
use Rattle.sr_exec_where.specs.Keys.{key_of}
use Rattle.sr_exec_dml.specs.Statements.{table_named}
use Rattle.sr_exec_dml.proofs.Afterwards.{all_stand, changed_at, apart}
use Rattle.sr_exec_dml.proofs.Applied.{own_name, found_named}
use Rattle.sr_exec_where.proofs.Fixed.{same_name}
use Rattle.sr_exec_dml.proofs.Folding.{same_key}
use Rattle.sr_resolve_triggers.specs.Actions.{insertion}
use Rattle.sr_database_history.specs.Folds.{State, after_done}
use Rattle.sr_database_history.specs.Recorded.{IsNoExec}
use Rattle.sr_logform.specs.declared.change.Change.{Change}
use Rattle.sr_logform.specs.declared.op.Op.{Op}
use Rattle.sr_logform.specs.declared.op.Op.TheVariants as op
use Rattle.sr_logform.specs.declared.outcome.Clash.{Clash as Why}
use Rattle.sr_logform.specs.declared.outcome.Clash.TheVariants.{Duplicate, NoRow, NoTable, NoColumn, BadValue, Null}
use Rattle.sr_logform.specs.declared.outcome.Outcome.{Outcome}
use Rattle.sr_logform.specs.declared.outcome.Outcome.TheVariants.{Plain, Clash}
use Rattle.sr_rows.specs.Marks.{RowMap, place_cmp, rows_of_table}
use Rattle.sr_rows.specs.Inner.Marks.{place_cmp_total}
use Rattle.sr_rows.specs.Walks.{Entry, table_rows}
use Rattle.sr_rows.proofs.Listing.{get-table_rows}
use Rattle.sr_catalog_schema.specs.declared.table.Table.{Table}
use Rattle.sr_resolve.specs.Judging.{clash_if, clash_unless, judged_insert, removal, judged_remove, judged_update, judged_set, judged_clear}
use Rattle.sr_resolve.specs.Inner.Laws.{AreAlikeAt}
use Rattle.sr_resolve.specs.Inner.Leaving.{Row, or_here, put_left, insert_left, remove_left, set_left}
use Rattle.sr_resolve.specs.Named.{Values, Updates, names_key, fitted_key, names_other, filled_row, has_null, is_no_target, new_values, sets_null, with_news}
use Rattle.sr_resolve.specs.Taking.{done_by, done_judged}
use Rattle.sr_resolve.proofs.Cases.{of_if, of_unless}
use Rattle.sr_resolve.proofs.Rows.{key_stays}

-- what an outcome of an op that carries no statement leaves under a key
abbrev pub left : State → Op → List ℕ → List Cell → Outcome → Row
left s o table key outcome = rows_of_table (after_done (done_by o None outcome) s).rows table key

-- the same cases of an outcome and of what it leaves
module _ (to : Outcome → Row) (here : Row) (clashes : (why : Why) → to (Clash why) ≡ here) where
  at_if : (b : Bool) (why : Why) (next : Outcome) (row : Row) → (b ≡ false → to next ≡ row) → to (clash_if b why next) ≡ cond b here row
  at_if true why next row h = clashes why
  at_if false why next row h = h refl

  at_unless : {A : Type 0} (o : Option A) (why : Why) (next : A → Outcome) (row : A → Row) → ((x : A) → o ≡ Some x → to (next x) ≡ row x)
      → to (clash_unless o why next) ≡ or_here o here row
  at_unless None why next row h = clashes why
  at_unless (Some x) why next row h = h x refl

-- ---- one change of a table

module _ (s : State) (t : Table) (own : table_named s.catalog t.name ≡ Some t) where
  one_step : (before after : Row) (rows : RowMap) (place key : List Cell) → is_same_row before after ≡ false → ((row : List Cell) → before ≡ Some row
      → key_of t.key row ≡ place)
      → ((row : List Cell) → after ≡ Some row → key_of t.key row ≡ place)
      → rows_of_table (applied_in (table_named s.catalog t.name) (record { table = t.name; before = before; after = after }) rows) t.name key
      ≡ cond (is_eq (key_cmp key place)) after (rows_of_table rows t.name key)
  one_step before after rows place key differ f g =
      ap (λ o. get (applied_in o (record { table = t.name; before = before; after = after }) rows) (t.name, key)) own
      ∙ changed_at t place before after rows key differ f g

  one_change : (before after : Row) (place key : List Cell) → is_same_row before after ≡ false → ((row : List Cell) → before ≡ Some row
      → key_of t.key row ≡ place)
      → ((row : List Cell) → after ≡ Some row → key_of t.key row ≡ place)
      → rows_of_table (applied s.catalog (record { table = t.name; before = before; after = after } ∷ []) s.rows) t.name key
      ≡ cond (is_eq (key_cmp key place)) after (rows_of_table s.rows t.name key)
  one_change before after place key differ f g = one_step before after s.rows place key differ f g

none_is : (row other : List Cell) {A : Type 0} → None ≡ Some row → A
none_is row other h = cc

-- ---- Insert

module _ (s : State) (name : Name) (values : Values) (t : Table) (own : table_named s.catalog t.name ≡ Some t) (key row : List Cell) where
  abbrev I : Op
  I = op.Insert name values

  abbrev place : List Cell
  place = key_of t.key row

  abbrev here : Row
  here = rows_of_table s.rows t.name key

  stays : (o : Row) → is_some o ≡ true → o ≡ first_of o (Some row)
  stays None h = cc
  stays (Some x) h = refl

  comes : (o : Row) → is_some o ≡ false → Some row ≡ first_of o (Some row)
  comes None h = refl
  comes (Some x) h = cc

  at_key : (c : Bool) → is_eq (key_cmp key place) ≡ c → (b : Bool) → is_some (rows_of_table s.rows t.name place) ≡ b → c ≡ true → is_some here ≡ b
  at_key c e b h same = ap (λ k. is_some (rows_of_table s.rows t.name k)) (same_key key place (e ∙ same)) ∙ h

  held_left : (c : Bool) → is_eq (key_cmp key place) ≡ c → is_some (rows_of_table s.rows t.name place) ≡ true → here ≡ cond c (first_of here (Some row)) here
  held_left true e h = stays here (at_key true e true h refl)
  held_left false e h = refl

  free_left : (c : Bool) → is_eq (key_cmp key place) ≡ c → is_some (rows_of_table s.rows t.name place) ≡ false
      → cond c (Some row) here ≡ cond c (first_of here (Some row)) here
  free_left true e h = comes here (at_key true e false h refl)
  free_left false e h = refl

  put_leaves : (b : Bool) → is_some (rows_of_table s.rows t.name place) ≡ b
      → left s I t.name key (cond b (Clash Duplicate) (Plain (insertion t row ∷ []))) ≡ put_left key place row here
  put_leaves true e = held_left (is_eq (key_cmp key place)) refl e
  put_leaves false e =
      one_change s t own None (Some row) place key refl (λ x h. none_is x row h) (λ x h. let is : row ≡ x = cc in ap (key_of t.key) (sym is))
      ∙ free_left (is_eq (key_cmp key place)) refl e

pub insert_leaves : (s : State) (name : Name) (values : Values) (t : Table) → table_named s.catalog t.name ≡ Some t → (key : List Cell)
    → left s (op.Insert name values) t.name key (judged_insert s.rows values t) ≡ insert_left t values key (rows_of_table s.rows t.name key)
unfolding judged_insert insert_left
insert_leaves s name values t own key =
    let to : Outcome → Row = left s (op.Insert name values) t.name key in
    let here = rows_of_table s.rows t.name key in
    let clashes : (why : Why) → to (Clash why) ≡ here = λ why. refl in
    at_if to here clashes (names_other t values) NoColumn _ _ (λ others.
    at_unless to here clashes (filled_row values t.columns) BadValue _ _ (λ row filled.
    at_if to here clashes (has_null t.columns row) Null _ _ (λ nulls.
    put_leaves s name values t own key row (is_some (rows_of_table s.rows t.name (key_of t.key row))) refl)))

-- ---- Remove

-- where no row is under a key, none is there
module _ (s : State) (t : Table) (key place : List Cell) (f : List Cell → List Cell) where
  missing : (c : Bool) → is_eq (key_cmp key place) ≡ c → rows_of_table s.rows t.name place ≡ None
      → rows_of_table s.rows t.name key ≡ cond c (option_map f (rows_of_table s.rows t.name key)) (rows_of_table s.rows t.name key)
  missing false e h = refl
  missing true e h =
      let none : rows_of_table s.rows t.name key ≡ None = ap (rows_of_table s.rows t.name) (same_key key place e) ∙ h in
      none ∙ sym (ap (option_map f) none)

  gone : (c : Bool) → is_eq (key_cmp key place) ≡ c → rows_of_table s.rows t.name place ≡ None
      → rows_of_table s.rows t.name key ≡ cond c None (rows_of_table s.rows t.name key)
  gone false e h = refl
  gone true e h = ap (rows_of_table s.rows t.name) (same_key key place e) ∙ h

module _ (s : State) (name : Name) (named : Values) (t : Table) (own : table_named s.catalog t.name
    ≡ Some t) (fits : TableFits t s.rows) (key place : List Cell) where
  take_leaves : (o : Row) → rows_of_table s.rows t.name place ≡ o
      → left s (op.Remove name named) t.name key (clash_unless o NoRow (λ row. Plain (removal t.name row ∷ [])))
      ≡ cond (is_eq (key_cmp key place)) None (rows_of_table s.rows t.name key)
  take_leaves None e = gone s t key place (λ x. x) (is_eq (key_cmp key place)) refl e
  take_leaves (Some row) e =
      one_change s t own (Some row) None place key refl (λ x h. let is : row ≡ x = cc in ap (key_of t.key) (sym is)
      ∙ (fits place row e).1) (λ x h. none_is x row h)

pub remove_leaves : (s : State) (name : Name) (named : Values) (t : Table) → table_named s.catalog t.name ≡ Some t → TableFits t s.rows → (key : List Cell)
    → left s (op.Remove name named) t.name key (judged_remove s.rows named t) ≡ remove_left t named key (rows_of_table s.rows t.name key)
unfolding judged_remove remove_left
remove_leaves s name named t own fits key =
    let to : Outcome → Row = left s (op.Remove name named) t.name key in
    let here = rows_of_table s.rows t.name key in
    let clashes : (why : Why) → to (Clash why) ≡ here = λ why. refl in
    at_if to here clashes (not (names_key t named)) NoColumn _ _ (λ names.
    at_unless to here clashes (fitted_key t named) BadValue _ _ (λ place fitted.
    at_if to here clashes (list_any is_null place) Null _ _ (λ nulls.
    take_leaves s name named t own fits key place (rows_of_table s.rows t.name place) refl)))

-- ---- Set

module _ (s : State) (name : Name) (named : Values) (updates : Updates) (t : Table) (own : table_named s.catalog t.name
    ≡ Some t) (fits : TableFits t s.rows) (key place : List Cell)
    (news : List (Option Cell)) (targets : list_any (is_no_target t) updates ≡ false) (news_are : new_values true updates t.columns ≡ Some news) where
  abbrev S : Op
  S = op.Set name named updates

  abbrev row_here : Row
  row_here = rows_of_table s.rows t.name key

  module _ (stored : List Cell) (held : rows_of_table s.rows t.name place ≡ Some stored) where
    abbrev new : List Cell
    new = with_news news stored

    stored_at : is_eq (key_cmp key place) ≡ true → row_here ≡ Some stored
    stored_at e = ap (rows_of_table s.rows t.name) (same_key key place e) ∙ held

    same_left : (c : Bool) → is_eq (key_cmp key place) ≡ c → is_same_row (Some stored) (Some new) ≡ true → row_here ≡ cond c (option_map (with_news news) row_here) row_here
    same_left false e h = refl
    same_left true e h = stored_at e ∙ ap (λ x. Some x) (same_key stored new h) ∙ sym (ap (option_map (with_news news)) (stored_at e))

    new_left : (c : Bool) → is_eq (key_cmp key place) ≡ c → cond c (Some new) row_here ≡ cond c (option_map (with_news news) row_here) row_here
    new_left false e = refl
    new_left true e = sym (ap (option_map (with_news news)) (stored_at e))

    row_leaves : (b : Bool) → is_same_row (Some stored) (Some new) ≡ b
        → left s S t.name key (Plain (cond b [] (record { table = t.name; before = Some stored; after = Some new } ∷ [])))
        ≡ cond (is_eq (key_cmp key place)) (option_map (with_news news) row_here) row_here
    row_leaves true e = same_left (is_eq (key_cmp key place)) refl e
    row_leaves false e =
        one_change s t own (Some stored) (Some new) place key e (λ x h. let is : stored ≡ x = cc in ap (key_of t.key) (sym is) ∙ (fits place stored held).1)
        (λ x h. let is : new ≡ x = cc in ap (key_of t.key) (sym is) ∙ key_stays true t updates news stored targets news_are ∙ (fits place stored held).1)
        ∙ new_left (is_eq (key_cmp key place)) refl

  update_leaves : (o : Row) → rows_of_table s.rows t.name place ≡ o
      → left s S t.name key (clash_unless o NoRow (λ stored. judged_update s.catalog s.rows true updates t stored (with_news news stored)))
      ≡ cond (is_eq (key_cmp key place)) (option_map (with_news news) row_here) row_here
  unfolding judged_update
  update_leaves None e = missing s t key place (with_news news) (is_eq (key_cmp key place)) refl e
  update_leaves (Some stored) e = row_leaves stored e (is_same_row (Some stored) (Some (with_news news stored))) refl

pub set_leaves : (s : State) (name : Name) (named : Values) (updates : Updates) (t : Table) → table_named s.catalog t.name ≡ Some t → TableFits t s.rows
    → (key : List Cell)
    → left s (op.Set name named updates) t.name key (judged_set s.catalog s.rows true named updates t)
    ≡ set_left t named updates key (rows_of_table s.rows t.name key)
unfolding judged_set set_left
set_leaves s name named updates t own fits key =
    let to : Outcome → Row = left s (op.Set name named updates) t.name key in
    let here = rows_of_table s.rows t.name key in
    let clashes : (why : Why) → to (Clash why) ≡ here = λ why. refl in
    at_if to here clashes (not (names_key t named)) NoColumn _ _ (λ names.
    at_if to here clashes (list_any (is_no_target t) updates) NoColumn _ _ (λ targets.
    at_unless to here clashes (fitted_key t named) BadValue _ _ (λ place fitted.
    at_unless to here clashes (new_values true updates t.columns) BadValue _ _ (λ news news_are.
    at_if to here clashes (list_any is_null place) Null _ _ (λ nulls.
    at_if to here clashes (sets_null t.columns news) Null _ _ (λ none.
    update_leaves s name named updates t own fits key place news targets news_are (rows_of_table s.rows t.name place) refl))))))

-- ---- Clear

module _ (s : State) (t : Table) (own : table_named s.catalog t.name ≡ Some t) (key : List Cell) where
  none_left : (b : Bool) → cond {A = Row} b None None ≡ None
  none_left true = refl
  none_left false = refl

  -- with rows taken that stand under their keys, none is left under these
  cleared : (es : List Entry) (rows : RowMap) → AllByRecursion (λ e. key_of t.key e.1 ≡ e.0) es
      → rows_of_table (applied s.catalog (map (λ (e : Entry). removal t.name e.1) es) rows) t.name key
      ≡ cond (is_some (find key_cmp key es)) None (rows_of_table rows t.name key)
  cleared [] rows k = refl
  cleared (e ∷ es) rows k =
      cleared es (applied_in (table_named s.catalog t.name) (removal t.name e.1) rows) k.1
      ∙ ap (cond (is_some (find key_cmp key es)) None)
      (one_step s t own (Some e.1) None rows e.0 key refl (λ x h. let is : e.1 ≡ x = cc in ap (key_of t.key) (sym is) ∙ k.0) (λ x h. none_is x e.1 h))
      ∙ go (is_eq (key_cmp key e.0)) where
        go : (b : Bool) → cond (is_some (find key_cmp key es)) None (cond b None (rows_of_table rows t.name key))
            ≡ cond (is_some (cond b (Some e.1) (find key_cmp key es))) None (rows_of_table rows t.name key)
        go true = none_left (is_some (find key_cmp key es))
        go false = refl

  nothing_more : (o : Row) → cond (is_some o) None o ≡ None
  nothing_more None = refl
  nothing_more (Some row) = refl

  all_cleared : TableFits t s.rows
      → rows_of_table (applied s.catalog (map (λ (e : Entry). removal t.name e.1) (table_rows s.rows t.name)) s.rows) t.name key ≡ None
  all_cleared fits =
      cleared (table_rows s.rows t.name) s.rows (all_stand t s.rows fits)
      ∙ ap (cond (is_some (find key_cmp key (table_rows s.rows t.name))) None) (get-table_rows s.rows t.name key)
      ∙ nothing_more (find key_cmp key (table_rows s.rows t.name))

pub clear_leaves : (s : State) (name : Name) (t : Table) → table_named s.catalog t.name ≡ Some t → TableFits t s.rows → (key : List Cell)
    → left s (op.Clear name) t.name key (judged_clear s.rows true t) ≡ None
unfolding judged_clear
clear_leaves s name t own fits key = all_cleared s t own key fits

-- ---- another table

module _ (s : State) (t : Table) (own : table_named s.catalog t.name ≡ Some t) (table : List ℕ) (key : List Cell) (other : bytes_eq table t.name ≡ false) where
  away : (row : List Cell) → eq_by_cmp place_cmp (table, key) (place_of t row) ≡ false
  away row = apart s.catalog t own [] [] tt tt table key (key_of t.key row) other

  without_away : (before : Row) (rows : RowMap) → rows_of_table (without_row t before rows) table key ≡ rows_of_table rows table key
  without_away None rows = refl
  without_away (Some row) rows = get-remove place_cmp_total rows (place_of t row) (table, key) ∙ ap (λ b. cond b None (get rows (table, key))) (away row)

  with_away : (before after : Row) (rows : RowMap) → rows_of_table (with_row t after (without_row t before rows)) table key ≡ rows_of_table rows table key
  with_away before None rows = without_away before rows
  with_away before (Some row) rows =
      get-insert place_cmp_total (without_row t before rows) (place_of t row) row (table, key)
      ∙ ap (λ b. cond b (Some row) (get (without_row t before rows) (table, key))) (away row) ∙ without_away before rows

  all_away : (changes : List Change) (rows : RowMap) → AllByRecursion (λ c. c.table ≡ t.name) changes
      → rows_of_table (applied s.catalog changes rows) table key ≡ rows_of_table rows table key
  all_away [] rows h = refl
  all_away (c ∷ changes) rows h =
      all_away changes (applied_in (table_named s.catalog c.table) c rows) h.1
      ∙ ap (λ o. rows_of_table (applied_in o c rows) table key) (ap (table_named s.catalog) h.0 ∙ own) ∙ with_away c.before c.after rows

  removals_away : (es : List Entry) → AllByRecursion (λ c. c.table ≡ t.name) (map (λ (e : Entry). removal t.name e.1) es)
  removals_away [] = tt
  removals_away (e ∷ es) = (refl, removals_away es)

  abbrev Away : Op → Outcome → Type 0
  Away o outcome = left s o table key outcome ≡ rows_of_table s.rows table key

  pub insert_away : (name : Name) (values : Values) → Away (op.Insert name values) (judged_insert s.rows values t)
  unfolding judged_insert
  insert_away name values =
      let P : Outcome → Type 0 = Away (op.Insert name values) in
      let clashes : (why : Why) → P (Clash why) = λ why. refl in
      of_if P clashes (names_other t values) NoColumn _ (λ others.
      of_unless P clashes (filled_row values t.columns) BadValue _ (λ row filled.
      of_if P clashes (has_null t.columns row) Null _ (λ nulls.
      of_if P clashes (is_some (rows_of_table s.rows t.name (key_of t.key row))) Duplicate _ (λ free.
      all_away (insertion t row ∷ []) s.rows (refl, tt)))))

  pub remove_away : (name : Name) (named : Values) → Away (op.Remove name named) (judged_remove s.rows named t)
  unfolding judged_remove
  remove_away name named =
      let P : Outcome → Type 0 = Away (op.Remove name named) in
      let clashes : (why : Why) → P (Clash why) = λ why. refl in
      of_if P clashes (not (names_key t named)) NoColumn _ (λ names.
      of_unless P clashes (fitted_key t named) BadValue _ (λ place fitted.
      of_if P clashes (list_any is_null place) Null _ (λ nulls.
      of_unless P clashes (rows_of_table s.rows t.name place) NoRow _ (λ row held.
      all_away (removal t.name row ∷ []) s.rows (refl, tt)))))

  row_away : (name : Name) (named : Values) (updates : Updates) (stored new : List Cell) (b : Bool)
      → Away (op.Set name named updates) (Plain (cond b [] (record { table = t.name; before = Some stored; after = Some new } ∷ [])))
  row_away name named updates stored other_row true = refl
  row_away name named updates stored other_row false = all_away (record { table = t.name; before = Some stored; after = Some other_row } ∷ []) s.rows (refl, tt)

  pub set_away : (name : Name) (named : Values) (updates : Updates) → Away (op.Set name named updates) (judged_set s.catalog s.rows true named updates t)
  unfolding judged_set judged_update
  set_away name named updates =
      let P : Outcome → Type 0 = Away (op.Set name named updates) in
      let clashes : (why : Why) → P (Clash why) = λ why. refl in
      of_if P clashes (not (names_key t named)) NoColumn _ (λ names.
      of_if P clashes (list_any (is_no_target t) updates) NoColumn _ (λ targets.
      of_unless P clashes (fitted_key t named) BadValue _ (λ place fitted.
      of_unless P clashes (new_values true updates t.columns) BadValue _ (λ news news_are.
      of_if P clashes (list_any is_null place) Null _ (λ nulls.
      of_if P clashes (sets_null t.columns news) Null _ (λ none.
      of_unless P clashes (rows_of_table s.rows t.name place) NoRow _ (λ stored held.
      row_away name named updates stored (with_news news stored) (is_same_row (Some stored) (Some (with_news news stored))))))))))

  pub clear_away : (name : Name) → Away (op.Clear name) (judged_clear s.rows true t)
  unfolding judged_clear
  clear_away name = all_away (map (λ (e : Entry). removal t.name e.1) (table_rows s.rows t.name)) s.rows (removals_away (table_rows s.rows t.name))

-- ---- two states

-- what a table that is found makes of a row
abbrev found_left : Option Table → (Table → Row → Row) → Row → Row
found_left None row here = here
found_left (Some t) row here = row t here

module _ (x : State) (o : Op) (key : List Cell) (f : Table → Outcome) (row : Table → Row → Row) where
  -- in the table of the op
  in_table : (table : List ℕ) → ((t : Table) → table_named x.catalog t.name ≡ Some t → left x o t.name key (f t) ≡ row t (rows_of_table x.rows t.name key))
      → (found : Option Table) → table_named x.catalog table ≡ found
      → left x o table key (clash_unless found NoTable f) ≡ found_left found row (rows_of_table x.rows table key)
  in_table table leaves None e = refl
  in_table table leaves (Some t) e =
      let same : table ≡ t.name = same_name table t.name (found_named table x.catalog.tables t e) in
      subst (λ (n : List ℕ). left x o n key (f t) ≡ row t (rows_of_table x.rows n key)) (sym same) (leaves t (own_name x.catalog table t e))

  -- in another one
  pub in_another : (table name : List ℕ) → bytes_eq table name ≡ false
      → ((t : Table) → table_named x.catalog t.name ≡ Some t → bytes_eq table t.name ≡ false → left x o table key (f t) ≡ rows_of_table x.rows table key)
      → (found : Option Table) → table_named x.catalog name ≡ found → left x o table key (clash_unless found NoTable f) ≡ rows_of_table x.rows table key
  in_another table name other away None e = refl
  in_another table name other away (Some t) e =
      away t (own_name x.catalog name t e) (ap (bytes_eq table) (sym (same_name name t.name (found_named name x.catalog.tables t e))) ∙ other)

module _ (s q : State) (o : Op) (name table : List ℕ) (key : List Cell) (same : AreAlikeAt s q table key) (f g : Table → Outcome) (row : Table → Row → Row)
    (f_leaves : (t : Table) → table_named s.catalog t.name ≡ Some t → left s o t.name key (f t) ≡ row t (rows_of_table s.rows t.name key))
    (g_leaves : (t : Table) → table_named q.catalog t.name ≡ Some t → left q o t.name key (g t) ≡ row t (rows_of_table q.rows t.name key))
    (f_away : (t : Table) → table_named s.catalog t.name ≡ Some t → bytes_eq table t.name ≡ false → left s o table key (f t) ≡ rows_of_table s.rows table key)
    (g_away : (t : Table) → table_named q.catalog t.name ≡ Some t → bytes_eq table t.name ≡ false
    → left q o table key (g t) ≡ rows_of_table q.rows table key) where
  here_same : left s o table key (clash_unless (table_named s.catalog table) NoTable f)
      ≡ left q o table key (clash_unless (table_named q.catalog table) NoTable g)
  here_same =
      in_table s o key f row table f_leaves (table_named s.catalog table) refl
      ∙ ap (λ (found : Option Table). found_left found row (rows_of_table s.rows table key)) same.tables
      ∙ ap (found_left (table_named q.catalog table) row) same.rows ∙ sym (in_table q o key g row table g_leaves (table_named q.catalog table) refl)

  both_same : left s o table key (clash_unless (table_named s.catalog name) NoTable f)
      ≡ left q o table key (clash_unless (table_named q.catalog name) NoTable g)
  both_same = go (bytes_eq table name) refl where
    go : (b : Bool) → bytes_eq table name ≡ b
        → left s o table key (clash_unless (table_named s.catalog name) NoTable f) ≡ left q o table key (clash_unless (table_named q.catalog name) NoTable g)
    go true e =
        subst (λ (n : List ℕ). left s o table key (clash_unless (table_named s.catalog n) NoTable f)
        ≡ left q o table key (clash_unless (table_named q.catalog n) NoTable g))
        (same_name table name e) here_same
    go false e =
        in_another s o key f row table name e f_away (table_named s.catalog name) refl ∙ same.rows
        ∙ sym (in_another q o key g row table name e g_away (table_named q.catalog name) refl)

pub alike : (s q : State) (o : Op) (table : Name) (key : List Cell) → RowsFit s.catalog s.rows → RowsFit q.catalog q.rows → IsNoExec o
    → AreAlikeAt s q table key
    → rows_of_table (after_done (done_judged s true o None) s).rows table key ≡ rows_of_table (after_done (done_judged q true o None) q).rows table key
unfolding done_judged
alike s q (op.Insert name values) table key fs fq none same =
    both_same s q (op.Insert name values) name table key same (judged_insert s.rows values) (judged_insert q.rows values)
    (λ t here. insert_left t values key here)
    (λ t own. insert_leaves s name values t own key) (λ t own. insert_leaves q name values t own key)
    (λ t own other. insert_away s t own table key other name values) (λ t own other. insert_away q t own table key other name values)
alike s q (op.Remove name named) table key fs fq none same =
    both_same s q (op.Remove name named) name table key same (judged_remove s.rows named) (judged_remove q.rows named) (λ t here. remove_left t named key here)
    (λ t own. remove_leaves s name named t own (fs.each t.name t own) key) (λ t own. remove_leaves q name named t own (fq.each t.name t own) key)
    (λ t own other. remove_away s t own table key other name named) (λ t own other. remove_away q t own table key other name named)
alike s q (op.Set name named updates) table key fs fq none same =
    both_same s q (op.Set name named updates) name table key same (judged_set s.catalog s.rows true named updates)
    (judged_set q.catalog q.rows true named updates)
    (λ t here. set_left t named updates key here)
    (λ t own. set_leaves s name named updates t own (fs.each t.name t own) key) (λ t own. set_leaves q name named updates t own (fq.each t.name t own) key)
    (λ t own other. set_away s t own table key other name named updates) (λ t own other. set_away q t own table key other name named updates)
alike s q (op.Clear name) table key fs fq none same =
    both_same s q (op.Clear name) name table key same (judged_clear s.rows true) (judged_clear q.rows true) (λ t here. None)
    (λ t own. clear_leaves s name t own (fs.each t.name t own) key) (λ t own. clear_leaves q name t own (fq.each t.name t own) key)
    (λ t own other. clear_away s t own table key other name) (λ t own other. clear_away q t own table key other name)
alike s q (op.Exec text) table key fs fq none same = absurd none
