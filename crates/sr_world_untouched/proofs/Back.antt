-- What was taken from the user himself goes along with the view under a key that it does not touch.
use Rattle.std.proofs.Common.{◌≡◌, ◌⊎◌, inl, inr, ℕ, Bool, true, false, cond, not, map, List, [], ◌∷◌, ◌++◌, Option, Some, None, bytes_eq, refl, sym, ap, ap₂, subst, ◌∙◌}
use Rattle.std.specs.Prelude.{slice_get}
use Rattle.std.specs.List.{AllByRecursion, list_any}
use Rattle.std.specs.Option.{is_some}
use Rattle.std.specs.Ordering.{is_eq}
use Rattle.sr_ast.specs.declared.stmt.Stmt.{Stmt}
use Rattle.sr_base.specs.Order.{key_cmp}
use Rattle.sr_base.specs.declared.value.Value.{Value as Cell}
use Rattle.sr_base.proofs.Truths.{some_is}
use Rattle.sr_book.specs.Entries.{Name}
use Rattle.sr_exec_dml.proofs.Applied.{fitting_changes_keep, own_name}
use Rattle.sr_exec_where.proofs.Fixed.{same_name}
use Rattle.sr_exec_dml.proofs.Folding.{same_key}
use Rattle.sr_exec_dml.specs.Applying.{applied}
use Rattle.sr_exec_dml.specs.Fitting.{RowsFit}
use Rattle.sr_exec_dml.specs.FittingChanges.{IsFitChange, ChangesFit}
use Rattle.sr_logform.specs.Outcomes.{is_same_row}
use Rattle.sr_exec_where.specs.Keys.{key_of}
use Rattle.sr_exec_dml.specs.Statements.{table_named}
use Rattle.sr_eval.specs.Comparisons.{is_null}
use Rattle.sr_resolve_triggers.specs.Actions.{in_front, insertion}
use Rattle.sr_resolve_triggers.specs.Firing.{fired}
use Rattle.sr_resolve_triggers.specs.declared.fired.Fired.{Fired}
use Rattle.sr_exec_fits.specs.Rows.{IsRow}
use Rattle.sr_database_history.specs.Fitting.{all_there, fitted_in, AreNamedRows, DoneFits, DonesFit}
use Rattle.sr_database_history.specs.Folds.{State, row_change, with_changes, after_done, after_dones}
use Rattle.sr_database_history.specs.Recorded.{Done, plain, ran, conflict, clash, IsLawfulDone, IsNoExec}
use Rattle.sr_logform.specs.declared.change.Change.{Change}
use Rattle.sr_logform.specs.declared.op.Op.{Op}
use Rattle.sr_logform.specs.declared.op.Op.TheVariants.{Insert, Remove, Set, Clear, Exec}
use Rattle.sr_logform.specs.declared.outcome.Clash.{Clash as Why}
use Rattle.sr_logform.specs.declared.outcome.Clash.TheVariants.{Duplicate, NoRow, NoTable, NoColumn, BadValue, Null, Trigger}
use Rattle.sr_logform.specs.declared.outcome.Outcome.{Outcome}
use Rattle.sr_logform.specs.declared.outcome.Outcome.TheVariants.{Plain, Clash}
use Rattle.sr_publish.specs.SubscribedTables.{SubscribedTable, subscribed_table_of}
use Rattle.sr_publish.specs.Views.{shown, shown_row}
use Rattle.sr_resolve.proofs.Cases.{of_if, of_unless, of_met}
use Rattle.sr_resolve.specs.Judging.{changed, clash_unless, ground_of, judged_insert, judged_remove, judged_set, judged_update, removal, resolved}
use Rattle.sr_resolve.specs.Named.{Values, Updates, differing, filled_row, fitted_at, fitted_key, has_null, is_no_target, names_key, names_other, new_values, sets_null, with_news}
use Rattle.sr_resolve.specs.Taking.{done_by, done_judged, IsDoneJudged, AreJudged}
use Rattle.sr_rows.specs.Marks.{RowMap, rows_of_table}
use Rattle.sr_scan.proofs.Agreeing.{done_fits}
use Rattle.sr_scan.proofs.Applying.{name_of_table, before_fits, after_fits, first_fit, last_fits, applied-append}
use Rattle.sr_scan.proofs.Moves.{subscribed_table_table}
use Rattle.sr_scan.specs.Given.{view_in, changes_given, done_given_back, dones_given, key_given, row_given}
use Rattle.sr_scan.specs.Ops.{key_columns, outside_key, told_back, update_of}
use Rattle.sr_catalog_schema.specs.Members.{key_names}
use Rattle.sr_catalog_schema.specs.declared.table.Table.{Table}
use Rattle.sr_world_untouched.specs.Untouched.{HasSubscribedTable, KeepsSubscribedTable, NamesKey, Touches}
use Rattle.sr_world_untouched.proofs.Above.{view, Goes, rests, stays, followed_by, by_ops, changes_go}
use Rattle.sr_world_untouched.proofs.Left.{left_by, left_all}
use Rattle.sr_world_untouched.proofs.Moved.{row_stays}
use Rattle.sr_world_untouched.proofs.Told.{Row, IsOther, Mirrors, at_table, away, update_plain, removes_elsewhere, sets_elsewhere}

fitted_there : (t : Table) (values : Values) (places : List ℕ) (key : List Cell) → all_there (map (λ place. fitted_in values (slice_get t.columns place)) places) key
    → fitted_at t values places ≡ Some key
fitted_there t values [] [] h = refl
fitted_there t values [] (v ∷ key) h = absurd h
fitted_there t values (p ∷ places) [] h = absurd h
fitted_there t values (p ∷ places) (v ∷ key) h = ap₂ (λ (x : Option Cell) (y : Option (List Cell)). in_front x y) h.0 (fitted_there t values places key h.1)

-- two keys are two
apart_keys : (key k : List Cell) → ¬ (key ≡ k) → IsOther key k
apart_keys key k other = go (is_eq (key_cmp key k)) refl
  where
    go : (b : Bool) → is_eq (key_cmp key k) ≡ b → IsOther key k
    go true e = absurd (other (same_key key k e))
    go false e = e

module _ (user : Name) (sh : SubscribedTable) (t : Table) (key : List Cell) (m : Mirrors sh t) (s : State) (has : HasSubscribedTable user sh s) (fit : RowsFit s.catalog s.rows) where
  abbrev here : State → Row
  here q = rows_of_table q.rows sh.table.name key

  -- a table that is found under the subscribed table's name is the subscribed table's
  the_table : (x : Table) → table_named s.catalog x.name ≡ Some x → x.name ≡ sh.table.name → x ≡ sh.table
  the_table x own same = some_is (sym own ∙ ap (table_named s.catalog) same ∙ subscribed_table_table s.catalog user sh.table.name sh has)

  -- a change of a row that stands under another key, or in another table
  row_at : (c : Change) (f : IsFitChange s.catalog s.rows c) (x : Table) (k row : List Cell) → c.table ≡ x.name → table_named s.catalog x.name ≡ Some x → (c.before ≡ Some row) ⊎ (c.after ≡ Some row)
      → key_of x.key row ≡ k → f.key ≡ k
  row_at c f x k row at own (inl e) is =
      let one : f.table ≡ x = some_is (sym f.named ∙ ap (table_named s.catalog) at ∙ own) in
      sym (before_fits s.catalog s.rows c f fit row e).1 ∙ ap (λ (y : Table). key_of y.key row) one ∙ is
  row_at c f x k row at own (inr e) is =
      let one : f.table ≡ x = some_is (sym f.named ∙ ap (table_named s.catalog) at ∙ own) in
      sym (after_fits s.catalog s.rows c f row e).1 ∙ ap (λ (y : Table). key_of y.key row) one ∙ is

  -- nothing was done to the row by a plain op that does not name it
  module _ (op : Op) (changes : List Change) (f : ChangesFit s.catalog s.rows changes) where
    abbrev Leaves : Outcome → Type 0
    Leaves o = plain op changes ≡ done_by op None o → here (with_changes changes s) ≡ here s

    clashes : (why : Why) → Leaves (Clash why)
    clashes why e = let no : plain op changes ≡ clash op why = e in cc

    none_done : Leaves (Plain [])
    none_done e =
        let is : changes ≡ [] = (let same : plain op changes ≡ plain op [] = e in cc) in
        ap (λ (cs : List Change). here (with_changes cs s)) is

    one_done : (c : Change) (x : Table) (k row : List Cell) → c.table ≡ x.name → table_named s.catalog x.name ≡ Some x → (c.before ≡ Some row) ⊎ (c.after ≡ Some row) → key_of x.key row ≡ k
        → (x ≡ sh.table → ¬ (key ≡ k)) → Leaves (Plain (c ∷ []))
    one_done c x k row at own side is other e =
        let list : changes ≡ c ∷ [] = (let same : plain op changes ≡ plain op (c ∷ []) = e in cc) in
        let fits : ChangesFit s.catalog s.rows (c ∷ []) = subst (λ (cs : List Change). ChangesFit s.catalog s.rows cs) list f in
        ap (λ (cs : List Change). here (with_changes cs s)) list
        ∙ row_stays s.catalog s.rows c fits.0 fit sh.table.name key (λ same. apart_keys key fits.0.key (λ keys.
        other (the_table x own (sym at ∙ same)) (keys ∙ row_at c fits.0 x k row at own side is)))

  module _ (name : List ℕ) (values : Values) (changes : List Change) (f : ChangesFit s.catalog s.rows changes) (untouched : ¬ (NamesKey sh.table key (Insert name values))) where
    insert_done : (x : Table) → name ≡ x.name → table_named s.catalog x.name ≡ Some x → Leaves (Insert name values) changes f (judged_insert s.rows values x)
    unfolding judged_insert
    insert_done x is own =
        let P : Outcome → Type 0 = Leaves (Insert name values) changes f in
        let no : (why : Why) → P (Clash why) = clashes (Insert name values) changes f in
        of_if P no (names_other x values) NoColumn _ (λ a.
        of_unless P no (filled_row values x.columns) BadValue _ (λ row filled.
        of_if P no (has_null x.columns row) Null _ (λ b.
        of_if P no (is_some (rows_of_table s.rows x.name (key_of x.key row))) Duplicate _ (λ free.
        one_done (Insert name values) changes f (insertion x row) x (key_of x.key row) row refl own (inr refl) refl (λ same keys.
        untouched (
          is ∙ ap (λ (y : Table). y.name) same,
          (row, ap (λ (y : Table). filled_row values y.columns) (sym same) ∙ filled, ap (λ (y : Table). key_of y.key row) (sym same) ∙ sym keys),
        ))))))

  module _ (name : List ℕ) (named : Values) (changes : List Change) (f : ChangesFit s.catalog s.rows changes) (untouched : ¬ (NamesKey sh.table key (Remove name named))) where
    remove_done : (x : Table) → name ≡ x.name → table_named s.catalog x.name ≡ Some x → Leaves (Remove name named) changes f (judged_remove s.rows named x)
    unfolding judged_remove
    remove_done x is own =
        let P : Outcome → Type 0 = Leaves (Remove name named) changes f in
        let no : (why : Why) → P (Clash why) = clashes (Remove name named) changes f in
        of_if P no (not (names_key x named)) NoColumn _ (λ a.
        of_unless P no (fitted_key x named) BadValue _ (λ place fitted.
        of_if P no (list_any is_null place) Null _ (λ b.
        of_unless P no (rows_of_table s.rows x.name place) NoRow _ (λ row held.
        one_done (Remove name named) changes f (removal x.name row) x place row refl own (inl refl) (fit.each x.name x own place row held).1 (λ same keys.
        untouched (is ∙ ap (λ (y : Table). y.name) same, ap (λ (y : Table). fitted_key y named) (sym same) ∙ fitted ∙ ap (λ (k : List Cell). Some k) (sym keys)))))))

  module _ (name : List ℕ) (named : Values) (updates : Updates) (changes : List Change) (f : ChangesFit s.catalog s.rows changes) (untouched : ¬ (NamesKey sh.table key (Set name named updates))) where
    abbrev P : Outcome → Type 0
    P = Leaves (Set name named updates) changes f

    no : (why : Why) → P (Clash why)
    no = clashes (Set name named updates) changes f

    changed_done : (x : Table) → name ≡ x.name → table_named s.catalog x.name ≡ Some x → (place stored new : List Cell) → fitted_key x named ≡ Some place → rows_of_table s.rows x.name place ≡ Some stored
        → P (changed x.name stored new)
    changed_done x is own place stored new fitted held = go (is_same_row (Some stored) (Some new))
      where
        go : (b : Bool) → P (Plain (cond b [] (record { table = x.name; before = Some stored; after = Some new } ∷ [])))
        go true = none_done (Set name named updates) changes f
        go false = one_done (Set name named updates) changes f (record { table = x.name; before = Some stored; after = Some new }) x place stored refl own (inl refl)
            (fit.each x.name x own place stored held).1
            (λ same keys. untouched (is ∙ ap (λ (y : Table). y.name) same, ap (λ (y : Table). fitted_key y named) (sym same) ∙ fitted ∙ ap (λ (k : List Cell). Some k) (sym keys)))

    resolved_done : (stored : List Cell) (o : Option Fired) → P (resolved stored o)
    resolved_done stored None e = no Trigger e
    resolved_done stored (Some x) e = let not_so : plain (Set name named updates) changes ≡ conflict (Set name named updates) x.inserts stored x.new = e in cc

    update_done : (above : Bool) (x : Table) → name ≡ x.name → table_named s.catalog x.name ≡ Some x → (place stored new : List Cell) → fitted_key x named ≡ Some place
        → rows_of_table s.rows x.name place ≡ Some stored → P (judged_update s.catalog s.rows above updates x stored new)
    unfolding judged_update
    update_done true x is own place stored new fitted held = changed_done x is own place stored new fitted held
    update_done false x is own place stored new fitted held =
        of_met P (differing updates x.columns stored) (changed x.name stored new) _ (changed_done x is own place stored new fitted held)
        (resolved_done stored (fired (ground_of s.catalog s.rows updates x stored) (differing updates x.columns stored) new))

    set_done : (above : Bool) (x : Table) → name ≡ x.name → table_named s.catalog x.name ≡ Some x → P (judged_set s.catalog s.rows above named updates x)
    unfolding judged_set
    set_done above x is own =
        of_if P no (not (names_key x named)) NoColumn _ (λ a.
        of_if P no (list_any (is_no_target x) updates) NoColumn _ (λ b.
        of_unless P no (fitted_key x named) BadValue _ (λ place fitted.
        of_unless P no (new_values above updates x.columns) BadValue _ (λ news are.
        of_if P no (list_any is_null place) Null _ (λ d.
        of_if P no (sets_null x.columns news) Null _ (λ e.
        of_unless P no (rows_of_table s.rows x.name place) NoRow _ (λ stored held.
        update_done above x is own place stored (with_news news stored) fitted held)))))))

  -- the table of an op
  module _ (op : Op) (changes : List Change) (f : ChangesFit s.catalog s.rows changes) (name : List ℕ) (next : Table → Outcome) where
    in_its_table : ((x : Table) → name ≡ x.name → table_named s.catalog x.name ≡ Some x → Leaves op changes f (next x)) → Leaves op changes f (clash_unless (table_named s.catalog name) NoTable next)
    in_its_table leaves = of_unless (Leaves op changes f) (clashes op changes f) (table_named s.catalog name) NoTable next
        (λ x found. leaves x (name_of_table s.catalog name x found) (own_name s.catalog name x found))

  plain_stays : (above : Bool) (op : Op) (changes : List Change) → IsNoExec op → ChangesFit s.catalog s.rows changes → ¬ (Touches sh.table key (plain op changes))
      → IsDoneJudged s above (plain op changes) → here (with_changes changes s) ≡ here s
  unfolding done_judged
  plain_stays above (Insert name values) changes none f untouched j =
      in_its_table (Insert name values) changes f name (judged_insert s.rows values) (λ x is own. insert_done name values changes f untouched x is own)
      (j.done_is ∙ ap (λ (o : Option Stmt). done_by (Insert name values) o (clash_unless (table_named s.catalog name) NoTable (judged_insert s.rows values))) j.carried)
  plain_stays above (Remove name named) changes none f untouched j =
      in_its_table (Remove name named) changes f name (judged_remove s.rows named) (λ x is own. remove_done name named changes f untouched x is own)
      (j.done_is ∙ ap (λ (o : Option Stmt). done_by (Remove name named) o (clash_unless (table_named s.catalog name) NoTable (judged_remove s.rows named))) j.carried)
  plain_stays above (Set name named updates) changes none f untouched j =
      in_its_table (Set name named updates) changes f name (judged_set s.catalog s.rows above named updates) (λ x is own. set_done name named updates changes f untouched above x is own)
      (j.done_is ∙ ap (λ (o : Option Stmt). done_by (Set name named updates) o (clash_unless (table_named s.catalog name) NoTable (judged_set s.catalog s.rows above named updates))) j.carried)
  plain_stays above (Clear name) changes none f untouched j = absurd (untouched tt)
  plain_stays above (Exec text) changes none f untouched j = absurd none

  -- ---- a conflict

  back_plain : (x : Table) (o : Option SubscribedTable) (k row : List Cell) (v : Row) → AllByRecursion IsNoExec (told_back x o k row v)
  back_plain x o k row None = (tt, tt)
  back_plain x None k row (Some v) = tt
  back_plain x (Some p) k row (Some v) = update_plain x k (outside_key (key_names x) p.columns (shown p row) v)

  -- the row of its key is another one
  abbrev IsElsewhere : Table → List Cell → Type 0
  IsElsewhere x row = (bytes_eq t.name x.name ≡ false) ⊎ ((x ≡ sh.table) × (IsRow sh.table.columns row) × IsOther key (key_of sh.table.key row))

  remove_leaves : (x : Table) (row : List Cell) (y : Row) → IsElsewhere x row → left_by t (Remove x.name (key_columns x (key_of x.key row))) key y ≡ y
  remove_leaves x row y (inl other) = away (bytes_eq t.name x.name) y _ other
  remove_leaves x row y (inr o) =
      subst (λ (z : Table). left_by t (Remove z.name (key_columns z (key_of z.key row))) key y ≡ y) (sym o.0)
      (at_table (bytes_eq t.name sh.table.name) y _ (removes_elsewhere sh t m row o.1 key y o.2))

  set_leaves : (x : Table) (row : List Cell) (updates : Updates) (y : Row) → IsElsewhere x row → left_by t (Set x.name (key_columns x (key_of x.key row)) updates) key y ≡ y
  set_leaves x row updates y (inl other) = away (bytes_eq t.name x.name) y _ other
  set_leaves x row updates y (inr o) =
      subst (λ (z : Table). left_by t (Set z.name (key_columns z (key_of z.key row)) updates) key y ≡ y) (sym o.0)
      (at_table (bytes_eq t.name sh.table.name) y _ (sets_elsewhere sh t m row o.1 updates key y o.2))

  update_leaves : (x : Table) (row : List Cell) (updates : Updates) (y : Row) → IsElsewhere x row → left_all t (update_of x (key_of x.key row) updates) key y ≡ y
  update_leaves x row [] y o = refl
  update_leaves x row (u ∷ updates) y o = set_leaves x row (u ∷ updates) y o

  back_leaves : (x : Table) (p : Option SubscribedTable) (row : List Cell) (v : Row) (y : Row) → IsElsewhere x row → left_all t (told_back x p (key_of x.key row) row v) key y ≡ y
  back_leaves x p row None y o = remove_leaves x row y o
  back_leaves x None row (Some v) y o = refl
  back_leaves x (Some p) row (Some v) y o = update_leaves x row (outside_key (key_names x) p.columns (shown p row) v) y o

  module _ (name : List ℕ) (named : Values) (updates : Updates) (inserts : List Change) (before after : List Cell) (f : DoneFits s (conflict (Set name named updates) inserts before after))
      (untouched : ¬ (NamesKey sh.table key (Set name named updates))) where
    abbrev d : Done
    d = conflict (Set name named updates) inserts before after

    abbrev last : Change
    last = row_change (Set name named updates) before after

    abbrev r : AreNamedRows s.catalog name named before after
    r = f.outcome.1

    abbrev between : State
    between = with_changes inserts s

    fits_between : RowsFit s.catalog between.rows
    fits_between = fitting_changes_keep s.catalog s.rows inserts fit (first_fit s.catalog inserts (last ∷ []) s.rows f.changes)

    its_name : name ≡ r.table.name
    its_name = name_of_table s.catalog name r.table r.named

    fitted : fitted_key r.table named ≡ Some r.key
    fitted = fitted_there r.table named r.table.key r.key r.meant.values

    -- the key of the op is another one, where its table is the subscribed table's
    other_key : name ≡ sh.table.name → IsOther key r.key
    other_key same = apart_keys key r.key (λ keys.
        let one : r.table ≡ sh.table = the_table r.table (own_name s.catalog name r.table r.named) (sym its_name ∙ same) in
        untouched (same, ap (λ (y : Table). fitted_key y named) (sym one) ∙ fitted ∙ ap (λ (k : List Cell). Some k) (sym keys)))

    last_key : (g : IsFitChange s.catalog between.rows last) → g.key ≡ r.key
    last_key g =
        let one : g.table ≡ r.table = some_is (sym g.named ∙ r.named) in
        sym (after_fits s.catalog between.rows last g after refl).1 ∙ ap (λ (y : Table). key_of y.key after) one ∙ r.key_after

    view_stays : view user sh t key m between ≡ view user sh t key m (after_done d s)
    view_stays =
        let g = last_fits s.catalog inserts s.rows last f.changes in
        let rows : rows_of_table (applied s.catalog (inserts ++ last ∷ []) s.rows) sh.table.name key ≡ rows_of_table between.rows sh.table.name key
        = ap (λ (x : RowMap). rows_of_table x sh.table.name key) (applied-append s.catalog inserts (last ∷ []) s.rows)
        ∙ row_stays s.catalog between.rows last g fits_between sh.table.name key (λ same. subst (λ (k : List Cell). IsOther key k) (sym (last_key g)) (other_key same)) in
        ap (shown_row (subscribed_table_of s.catalog user sh.table.name)) (sym rows)

    elsewhere : IsElsewhere r.table before
    elsewhere = go (bytes_eq t.name r.table.name) refl
      where
        go : (b : Bool) → bytes_eq t.name r.table.name ≡ b → IsElsewhere r.table before
        go false e = inl e
        go true e =
            let same : name ≡ sh.table.name = its_name ∙ sym (same_name t.name r.table.name e) ∙ m.name in
            let one : r.table ≡ sh.table = the_table r.table (own_name s.catalog name r.table r.named) (sym its_name ∙ same) in
            let keys : r.key ≡ key_of sh.table.key before = sym r.key_before ∙ ap (λ (y : Table). key_of y.key before) one in
            inr (one, subst (λ (y : Table). IsRow y.columns before) one r.fits_before, subst (λ (k : List Cell). IsOther key k) keys (other_key same))

    row_goes : Goes user sh t key m (row_given (after_done d s) user (Set name named updates) before) (view user sh t key m between) (view user sh t key m (after_done d s))
    row_goes =
        let v = view_in (after_done d s) user name (key_of r.table.key before) in
        let ops = told_back r.table (subscribed_table_of s.catalog user name) (key_of r.table.key before) before v in
        by_ops user sh t key m ops (row_given (after_done d s) user (Set name named updates) before) _ _
        (ap (λ (o : Option Table). key_given o (after_done d s) user name before) r.named)
        (stays user sh t key m ops _ _ (back_plain r.table (subscribed_table_of s.catalog user name) (key_of r.table.key before) before v)
        (λ y. back_leaves r.table (subscribed_table_of s.catalog user name) before v y elsewhere) view_stays)

    conflict_goes : Goes user sh t key m (done_given_back s user d) (view user sh t key m s) (view user sh t key m (after_done d s))
    conflict_goes =
        followed_by user sh t key m (changes_given s user inserts) (row_given (after_done d s) user (Set name named updates) before) _ (view user sh t key m between) _
        (changes_go user sh t key m s inserts has fit (first_fit s.catalog inserts (last ∷ []) s.rows f.changes)) row_goes

  -- ---- any op

  pub back_goes : (above : Bool) (d : Done) → IsLawfulDone d → DoneFits s d → ¬ (Touches sh.table key d) → IsDoneJudged s above d
      → Goes user sh t key m (done_given_back s user d) (view user sh t key m s) (view user sh t key m (after_done d s))
  back_goes above (plain op changes) is f untouched j =
      rests user sh t key m (view user sh t key m s) (view user sh t key m (with_changes changes s))
      (ap (shown_row (subscribed_table_of s.catalog user sh.table.name)) (sym (plain_stays above op changes is f.changes untouched j)))
  back_goes above (ran statement changes) is f untouched j = absurd (untouched tt)
  back_goes above (conflict (Insert name values) inserts before after) is f untouched j = absurd is
  back_goes above (conflict (Remove name named) inserts before after) is f untouched j = absurd is
  back_goes above (conflict (Set name named updates) inserts before after) is f untouched j = conflict_goes name named updates inserts before after f untouched
  back_goes above (conflict (Clear name) inserts before after) is f untouched j = absurd is
  back_goes above (conflict (Exec text) inserts before after) is f untouched j = absurd is
  back_goes above (clash op why) is f untouched j = rests user sh t key m (view user sh t key m s) (view user sh t key m s) refl

pub all_back_go : (user : Name) (sh : SubscribedTable) (t : Table) (key : List Cell) (m : Mirrors sh t) (s : State) (above : Bool) (dones : List Done) → KeepsSubscribedTable user sh s dones → RowsFit s.catalog s.rows
    → AllByRecursion IsLawfulDone dones → DonesFit s dones → AllByRecursion (λ d. Touches sh.table key d → ⊥) dones → AreJudged s above dones
    → Goes user sh t key m (dones_given true s user dones) (view user sh t key m s) (view user sh t key m (after_dones dones s))
all_back_go user sh t key m s above [] keeps fit is f untouched j = rests user sh t key m (view user sh t key m s) (view user sh t key m s) refl
all_back_go user sh t key m s above (d ∷ dones) keeps fit is f untouched j =
    followed_by user sh t key m (done_given_back s user d) (dones_given true (after_done d s) user dones) _ (view user sh t key m (after_done d s)) _
    (back_goes user sh t key m s keeps.0 fit above d is.0 f.0 untouched.0 j.0)
    (all_back_go user sh t key m (after_done d s) above dones keeps.1 (done_fits s d fit f.0) is.1 f.1 untouched.1 j.1)
