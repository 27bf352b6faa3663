-- The changes of a statement have two rows that differ.
use Rattle.std.proofs.Common.{◌≡◌, ℕ, true, false, map, length, ◌++◌, List, [], ◌∷◌, Option, Some, None, Result, Ok, refl, sym, ap, subst, ◌∙◌}
use Rattle.std.specs.List.{AllByRecursion}
use Rattle.sr_base.specs.declared.value.Value.{Value as Cell}
use Rattle.sr_ast.specs.declared.query.Dml.{Dml}
use Rattle.sr_ast.specs.declared.query.Dml.TheVariants as dml
use Rattle.sr_exec_where.specs.Checks.{unknown_condition, bad_condition, unknown_in_insert, bad_in_insert, unknown_in_update, bad_in_update}
use Rattle.sr_catalog_schema.specs.Members.{scope_of}
use Rattle.sr_exec_dml.specs.Holding.{held}
use Rattle.sr_logform.specs.Outcomes.{is_same_row}
use Rattle.sr_exec_dml.specs.Inner.Laws.{IsDifference}
use Rattle.sr_exec_dml.specs.Sequences.{followed}
use Rattle.sr_exec_dml.specs.Statements.{entry_of, counted, inserted_rows, inserted, staying, becoming, selections, moved, effects_of, updated, deleted, on_table, table_named, done}
use Rattle.sr_exec_dml.specs.declared.changes.Changes.{Changes}
use Rattle.sr_exec_dml.proofs.Applied.{in_order-Ok, followed-Ok}
use Rattle.sr_exec_dml.proofs.Differing.{changes_differ}
use Rattle.sr_exec_dml.proofs.Folding.{itself}
use Rattle.sr_logform.specs.declared.change.Change.{Change}
use Rattle.sr_rows.specs.Marks.{RowMap}
use Rattle.sr_rows.specs.Walks.{Entry, table_rows}
use Rattle.sr_catalog_schema.specs.Catalogs.{Lists}
use Rattle.sr_catalog_schema.specs.declared.fault.DmlFault.{DmlFault}
use Rattle.sr_catalog_schema.specs.declared.table.Table.{Table}
use Rattle.sr_resolve.specs.Inner.Laws.{IsDifferent}

same_itself : (o : Option (List Cell)) → is_same_row o o ≡ true
same_itself None = refl
same_itself (Some row) = itself row

pub two_rows : (before after : Option (List Cell)) → is_same_row before after ≡ false → ¬ (before ≡ after)
two_rows before after h is = let gone : true ≡ false = sym (same_itself before) ∙ ap (is_same_row before) is ∙ h in cc

all_two : (table : List ℕ) (before after : List Entry) (changes : List Change)
    → AllByRecursion (λ c. (key : List Cell) × IsDifference table before after key c) changes
    → AllByRecursion IsDifferent changes
all_two table before after [] h = tt
all_two table before after (c ∷ changes) h = (two_rows c.before c.after h.0.1.differ, all_two table before after changes h.1)

held_two : (table : List ℕ) (before after : List Entry) (count : ℕ) (changes : Changes) → followed (held table before after) (counted count) ≡ Ok changes
    → AllByRecursion IsDifferent changes.list
held_two table before after count changes h =
    let found = followed-Ok (held table before after) (counted count) changes h in
    let made : Changes = record { list = found.0; count = count } in
    let said = found.2 in
    let is : made ≡ changes = cc in
    subst (λ (c : Changes). AllByRecursion IsDifferent c.list) is (all_two table before after found.0 (changes_differ table before after found.0 found.1))

inserted_two : (table : Table) (before : List Entry) (rows : List (List Cell)) (changes : Changes)
    → followed (held table.name before (before ++ map (entry_of table) rows)) (counted (length rows)) ≡ Ok changes → AllByRecursion IsDifferent changes.list
inserted_two table before rows changes h = held_two table.name before (before ++ map (entry_of table) rows) (length rows) changes h

on_two : (name : List ℕ) (o : Option Table) (f : Table → Result Changes DmlFault) (changes : Changes) → ((table : Table) → f table ≡ Ok changes
    → AllByRecursion IsDifferent changes.list)
    → on_table name o f ≡ Ok changes → AllByRecursion IsDifferent changes.list
on_two name None f changes g h = cc
on_two name (Some table) f changes g h = g table h

pub statements_differ : (catalog : Lists) (rows : RowMap) (d : Dml) (changes : Changes) → done catalog rows d ≡ Ok changes
    → AllByRecursion IsDifferent changes.list
statements_differ catalog rows (dml.Insert i) changes h =
    on_two i.table (table_named catalog i.table) (λ table. inserted table i (table_rows rows table.name)) changes (λ table k.
    let before = table_rows rows table.name in
    let then : List (List Cell) → Result Changes DmlFault = λ added. followed (held table.name before (before
    ++ map (entry_of table) added)) (counted (length added)) in
    let found = followed-Ok (inserted_rows table i) then changes (in_order-Ok (unknown_in_insert table i) (bad_in_insert table i) (followed
    (inserted_rows table i) then) changes k) in
    inserted_two table before found.0 changes found.2) h
statements_differ catalog rows (dml.Update u) changes h =
    on_two u.table (table_named catalog u.table) (λ table. updated table u (table_rows rows table.name)) changes (λ table k.
    let before = table_rows rows table.name in
    let found = followed-Ok (effects_of table (Some u.sets) u.condition before) (moved table before) changes
    (in_order-Ok (unknown_in_update table u) (bad_in_update table u) (followed (effects_of table (Some u.sets) u.condition before)
    (moved table before)) changes k) in
    held_two table.name before (staying before found.0 ++ map (entry_of table) (becoming found.0)) (selections found.0) changes found.2) h
statements_differ catalog rows (dml.Delete d) changes h =
    on_two d.table (table_named catalog d.table) (λ table. deleted table d (table_rows rows table.name)) changes (λ table k.
    let before = table_rows rows table.name in
    let found = followed-Ok (effects_of table None d.condition before) (moved table before) changes
    (in_order-Ok (unknown_condition (scope_of table) d.condition) (bad_condition (scope_of table) table.name d.condition)
    (followed (effects_of table None d.condition before) (moved table before)) changes k) in
    held_two table.name before (staying before found.0 ++ map (entry_of table) (becoming found.0)) (selections found.0) changes found.2) h
