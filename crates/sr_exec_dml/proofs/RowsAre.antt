-- The rows with a statement's changes applied are those that it leaves.
use Rattle.std.proofs.Common.{◌≡◌, ◌++◌, Bool, true, false, not, cond, map, length, ℕ, List, [], ◌∷◌, Option, Some, None, Result, Ok, Err, bytes_eq, refl, sym, ap, subst, ◌∙◌}
use Rattle.std.specs.Cmp.{eq_by_cmp_equiv}
use Rattle.std.specs.Ordering.{is_eq, eq_by_cmp}
use Rattle.std.specs.FinMap.{get, same_map, get-insert, get-retain_keys}
use Rattle.std.proofs.lemmas.Map.Text.{is_eq-slice_cmp}
use Rattle.sr_base.specs.Order.{key_cmp, name_cmp}
use Rattle.sr_base.specs.Inner.Order.{name_cmp_total}
use Rattle.sr_ast.specs.declared.expr.Expr.{Expr}
use Rattle.sr_ast.specs.declared.query.Dml.TheVariants as dml
use Rattle.sr_ast.specs.declared.query.Insert.{Insert}
use Rattle.sr_rows.specs.Marks.{Place, RowMap}
use Rattle.sr_rows.specs.Inner.Marks.{place_cmp_total}
use Rattle.sr_rows.specs.Steps.{without_table}
use Rattle.sr_rows.specs.Walks.{Entry, table_rows}
use Rattle.sr_rows.proofs.Gathering.{exact_places}
use Rattle.sr_logform.specs.declared.change.Change.{Change}
use Rattle.sr_catalog_schema.specs.Catalogs.{Lists}
use Rattle.sr_catalog_schema.specs.declared.table.Table.{Table}
use Rattle.sr_catalog_schema.specs.declared.fault.DmlFault.{DmlFault}
use Rattle.sr_exec_dml.specs.declared.changes.Changes.{Changes}
use Rattle.sr_exec_dml.specs.Applying.{applied}
use Rattle.sr_exec_where.specs.Checks.{unknown_condition, bad_condition, unknown_in_insert, bad_in_insert, unknown_in_update, bad_in_update}
use Rattle.sr_catalog_schema.specs.Members.{scope_of}
use Rattle.sr_exec_dml.specs.Fitting.{TableFits}
use Rattle.sr_exec_dml.specs.Holding.{under, one_of, held}
use Rattle.sr_exec_dml.specs.Inner.Laws.{StandUnderKeys, RowsAreThoseAfter}
use Rattle.sr_exec_dml.specs.Inner.RowsAfter.{replaced, where_Ok, after_insert, after_move, in_table}
use Rattle.sr_exec_dml.specs.Sequences.{followed}
use Rattle.sr_exec_dml.specs.Statements.{entry_of, counted, inserted_rows, inserted, staying, becoming, selections, moved, effects_of, updated, deleted, on_table, table_named}
use Rattle.sr_exec_dml.proofs.Afterwards.{all_stand, same_place, apart, rows_become, others_stay}
use Rattle.sr_exec_dml.proofs.Applied.{in_order-Ok, followed-Ok, own_name}
use Rattle.sr_exec_dml.proofs.FitChanges.{both_stand, entries_stand, moved_stand}
use Rattle.sr_exec_where.proofs.Fixed.{same_name}
use Rattle.sr_exec_dml.proofs.Folding.{Key}

-- a table that was taken out has no rows, and the others keep theirs
gone : (rows : RowMap) (name : List ℕ) (q : Key) → get (without_table rows name) (name, q) ≡ None
gone rows name q =
    get-retain_keys rows (λ n. not (eq_by_cmp name_cmp name n.0)) (name, q) (λ n e. ap (λ (m : Place). not (eq_by_cmp name_cmp name m.0)) (sym (exact_places (name, q) n e)))
    ∙ ap (λ b. cond (not b) (get rows (name, q)) None) ((eq_by_cmp_equiv name_cmp_total).refl name)

kept : (rows : RowMap) (name other : List ℕ) (q : Key) → bytes_eq other name ≡ false → get (without_table rows name) (other, q) ≡ get rows (other, q)
kept rows name other q d =
    get-retain_keys rows (λ n. not (eq_by_cmp name_cmp name n.0)) (other, q) (λ n e. ap (λ (m : Place). not (eq_by_cmp name_cmp name m.0)) (sym (exact_places (other, q) n e)))
    ∙ ap (λ b. cond (not b) (get rows (other, q)) None) ((eq_by_cmp_equiv name_cmp_total).symm name other ∙ is_eq-slice_cmp other name ∙ d)

-- under each key stands the first of the entries
entries_at : (rows : RowMap) (name : List ℕ) (es : List Entry) (q : Key) → get (replaced name es rows) (name, q) ≡ one_of (under q es)
entries_at rows name [] q = gone rows name q
entries_at rows name (e ∷ es) q =
    get-insert place_cmp_total (replaced name es rows) (name, e.0) e.1 (name, q)
    ∙ ap (λ b. cond b (Some e.1) (get (replaced name es rows) (name, q))) (same_place name q e.0)
    ∙ ap (cond (is_eq (key_cmp q e.0)) (Some e.1)) (entries_at rows name es q) ∙ pushed (is_eq (key_cmp q e.0)) where
      pushed : (b : Bool) → cond b (Some e.1) (one_of (under q es)) ≡ one_of (cond b (e.1 ∷ under q es) (under q es))
      pushed true = refl
      pushed false = refl

module _ (catalog : Lists) (table : Table) (named : table_named catalog table.name ≡ Some table) (rows : RowMap) where
  others_at : (es : List Entry) (other : List ℕ) (q : Key) → bytes_eq other table.name ≡ false → get (replaced table.name es rows) (other, q) ≡ get rows (other, q)
  others_at [] other q d = kept rows table.name other q d
  others_at (e ∷ es) other q d =
      get-insert place_cmp_total (replaced table.name es rows) (table.name, e.0) e.1 (other, q)
      ∙ ap (λ b. cond b (Some e.1) (get (replaced table.name es rows) (other, q))) (apart catalog table named [] [] tt tt other q e.0 d)
      ∙ others_at es other q d

  -- changes of a table leave the entries after them
  replaced_is : (after : List Entry) (changes : List Change) → TableFits table rows → StandUnderKeys table after → held table.name (table_rows rows table.name) after ≡ Ok changes → applied catalog changes rows ≡ replaced table.name after rows
  replaced_is after changes fits stand h = same_map place_cmp_total exact_places _ _ (λ p. go p (bytes_eq p.0 table.name) refl) where
    go : (p : Place) (b : Bool) → bytes_eq p.0 table.name ≡ b → get (applied catalog changes rows) p ≡ get (replaced table.name after rows) p
    go p false e = others_stay catalog rows table after changes named fits stand h p.0 p.1 e ∙ sym (others_at after p.0 p.1 e)
    go p true e =
        let here : get (applied catalog changes rows) (table.name, p.1) ≡ get (replaced table.name after rows) (table.name, p.1) =
        rows_become catalog rows table after changes named fits stand h p.1 ∙ sym (entries_at rows table.name after p.1) in
        subst (λ n. get (applied catalog changes rows) (n, p.1) ≡ get (replaced table.name after rows) (n, p.1)) (sym (same_name p.0 table.name e)) here

  counted-Ok : (r : Result (List Change) DmlFault) (count : ℕ) (changes : Changes) → followed r (counted count) ≡ Ok changes → r ≡ Ok changes.list
  counted-Ok (Err e) count changes h = cc
  counted-Ok (Ok list) count changes h =
      let made : Changes = record { list = list; count = count } in
      let is : made ≡ changes = cc in
      ap (λ (c : Changes). Ok c.list) is

  module _ (changes : Changes) (fits : TableFits table rows) where
    insert_is : (i : Insert) → inserted table i (table_rows rows table.name) ≡ Ok changes → applied catalog changes.list rows ≡ after_insert table i rows
    insert_is i h =
        let before = table_rows rows table.name in
        let then : List Key → Result Changes DmlFault = λ added. followed (held table.name before (before ++ map (entry_of table) added)) (counted (length added)) in
        let found = followed-Ok (inserted_rows table i) then changes (in_order-Ok (unknown_in_insert table i) (bad_in_insert table i) (followed (inserted_rows table i) then) changes h) in
        let after = before ++ map (entry_of table) found.0 in
        replaced_is after changes.list fits (both_stand table before (map (entry_of table) found.0) (all_stand table rows fits) (entries_stand table found.0)) (counted-Ok (held table.name before after) (length found.0) changes found.2)
        ∙ sym (ap (λ r. where_Ok r (λ new. replaced table.name (before ++ map (entry_of table) new) rows) rows) found.1)

    move_is : (sets : Option (List (List ℕ × Expr))) (condition : Option Expr) → followed (effects_of table sets condition (table_rows rows table.name)) (moved table (table_rows rows table.name)) ≡ Ok changes
        → applied catalog changes.list rows ≡ after_move table sets condition rows
    move_is sets condition h =
        let before = table_rows rows table.name in
        let found = followed-Ok (effects_of table sets condition before) (moved table before) changes h in
        let after = staying before found.0 ++ map (entry_of table) (becoming found.0) in
        replaced_is after changes.list fits (moved_stand table before found.0 (all_stand table rows fits)) (counted-Ok (held table.name before after) (selections found.0) changes found.2)
        ∙ sym (ap (λ r. where_Ok r (λ effects. replaced table.name (staying before effects ++ map (entry_of table) (becoming effects)) rows) rows) found.1)

on_is : (catalog : Lists) (rows : RowMap) (changes : Changes) (name : List ℕ) (f : Table → Result Changes DmlFault) (g : Table → RowMap → RowMap)
    → ((table : Table) → table_named catalog table.name ≡ Some table → f table ≡ Ok changes → applied catalog changes.list rows ≡ g table rows)
    → on_table name (table_named catalog name) f ≡ Ok changes → applied catalog changes.list rows ≡ in_table (table_named catalog name) g rows
on_is catalog rows changes name f g k h = go (table_named catalog name) refl h where
  go : (o : Option Table) → table_named catalog name ≡ o → on_table name o f ≡ Ok changes → applied catalog changes.list rows ≡ in_table o g rows
  go None e h = cc
  go (Some table) e h = k table (own_name catalog name table e) h

pub rows_are_those_after : RowsAreThoseAfter
rows_are_those_after catalog rows (dml.Insert i) changes fits h =
    on_is catalog rows changes i.table (λ table. inserted table i (table_rows rows table.name)) (λ table. after_insert table i) (λ table named is. insert_is catalog table named rows changes (fits.each table.name table named) i is) h
rows_are_those_after catalog rows (dml.Update u) changes fits h =
    on_is catalog rows changes u.table (λ table. updated table u (table_rows rows table.name)) (λ table. after_move table (Some u.sets) u.condition)
    (λ table named is. move_is catalog table named rows changes (fits.each table.name table named) (Some u.sets) u.condition
    (in_order-Ok (unknown_in_update table u) (bad_in_update table u) (followed (effects_of table (Some u.sets) u.condition (table_rows rows table.name)) (moved table (table_rows rows table.name))) changes is)) h
rows_are_those_after catalog rows (dml.Delete d) changes fits h =
    on_is catalog rows changes d.table (λ table. deleted table d (table_rows rows table.name)) (λ table. after_move table None d.condition)
    (λ table named is. move_is catalog table named rows changes (fits.each table.name table named) None d.condition
    (in_order-Ok (unknown_condition (scope_of table) d.condition) (bad_condition (scope_of table) table.name d.condition) (followed (effects_of table None d.condition (table_rows rows table.name)) (moved table (table_rows rows table.name))) changes is)) h
