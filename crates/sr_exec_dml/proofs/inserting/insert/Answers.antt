use Rattle.std.proofs.Common.{◌≡◌, ◌≢◌, ◌++◌, map, length, None, Result, Ok, Err, List, rules, sym, ap, ◌∙◌}
use Rattle.sr_base.specs.declared.value.Value.{Value}
use Rattle.sr_ast.specs.declared.query.Insert.{Insert}
use Rattle.sr_catalog_schema.specs.declared.table.Table.{Table}
use Rattle.sr_catalog_schema.specs.declared.fault.DmlFault.{DmlFault}
use Rattle.sr_catalog_schema.specs.declared.fault.DmlFault.TheVariants.{Memory}
use Rattle.sr_rows.specs.Walks.{Entry, table_rows}
use Rattle.sr_exec_dml.specs.declared.changes.Changes.{Changes}
use Rattle.sr_exec_dml.specs.Holding.{held}
use Rattle.sr_exec_dml.specs.Sequences.{each, followed}
use Rattle.sr_exec_dml.specs.Storing.{inserted_row}
use Rattle.std.proofs.lemmas.Result.{err_from_is_err_and}
use Rattle.sr_exec_where.specs.Naming.{names_of}
use Rattle.sr_exec_where.specs.Checks.{unknown_in_insert, bad_in_insert}
use Rattle.sr_exec_dml.specs.Statements.{inserted_rows, inserted, in_order, counted, entry_of}
use Rattle.sr_exec_dml.proofs.inserting.insert.Goals as goal

inserted_is : (table : Table) (i : Insert) (before : List Entry) (rows : List (List Value)) → unknown_in_insert table i ≡ None → bad_in_insert table i ≡ None → inserted_rows table i ≡ Ok rows
    → inserted table i before ≡ followed (held table.name before (before ++ map (entry_of table) rows)) (counted (length rows))
inserted_is table i before rows known good is =
    let then : Result (List (List Value)) DmlFault → Result Changes DmlFault = λ r. followed r (λ added. followed (held table.name before (before ++ map (entry_of table) added)) (counted (length added))) in
    (λ j. in_order (known j) (good j) (then (is j)))

refused_is : (table : Table) (i : Insert) (before : List Entry) (fault : DmlFault) → unknown_in_insert table i ≡ None → bad_in_insert table i ≡ None → inserted_rows table i ≡ Err fault → inserted table i before ≡ Err fault
refused_is table i before fault known good is =
    let then : Result (List (List Value)) DmlFault → Result Changes DmlFault = λ r. followed r (λ added. followed (held table.name before (before ++ map (entry_of table) added)) (counted (length added))) in
    (λ j. in_order (known j) (good j) (then (is j)))

pub returns-in_err-added : goal.returns-in_err-added
returns-in_err-added c =
    let table = c.args.table.now in
    let i = c.args.insert.now in
    let before = table_rows c.args.rows.now.rows table.name in
    let known : unknown_in_insert table i ≡ None = sym c.in_ok-name.ensures.unknown ∙ c.in_default.is in
    let good : bad_in_insert table i ≡ None = sym c.in_ok-name-2.ensures.bad ∙ c.in_default-2.is in
    let names : names_of table.columns i.columns ≡ c.as_slice-3.result.now = sym (c.as_slice-3.ensures.items ∙ c.in_ok-names.ensures.names ∙ ap (λ columns. names_of columns i.columns) c.as_slice.ensures.items) in
    let fault = c.in_err-added.field-0.0 in
    let is : fault ≢ Memory → inserted_rows table i ≡ Err fault = λ ne. (λ j. each (λ es. inserted_row (names j) es table.columns) (sym c.as_slice-4.ensures.items j)) ∙ c.in_err-added.ensures.answer ne in
    let p = err_from_is_err_and c.from_residual-in_err-added.result c.from_residual-in_err-added.ensures.1 in
    rw (p.1, p.2) (record { answer = λ ne. refused_is table i before fault known good (is ne) })

pub returns-in_err-list : goal.returns-in_err-list
returns-in_err-list c =
    let table = c.args.table.now in
    let i = c.args.insert.now in
    let before = table_rows c.args.rows.now.rows table.name in
    let added = c.in_ok-added.added.items in
    let known : unknown_in_insert table i ≡ None = sym c.in_ok-name.ensures.unknown ∙ c.in_default.is in
    let good : bad_in_insert table i ≡ None = sym c.in_ok-name-2.ensures.bad ∙ c.in_default-2.is in
    let names : names_of table.columns i.columns ≡ c.as_slice-3.result.now = sym (c.as_slice-3.ensures.items ∙ c.in_ok-names.ensures.names ∙ ap (λ columns. names_of columns i.columns) c.as_slice.ensures.items) in
    let is : inserted_rows table i ≡ Ok added = (λ j. each (λ es. inserted_row (names j) es table.columns) (sym c.as_slice-4.ensures.items j)) ∙ c.in_ok-added.ensures.answer in
    let whole = inserted_is table i before added known good is in
    let p = err_from_is_err_and c.from_residual-in_err-list.result c.from_residual-in_err-list.ensures.1 in
    rw (p.1, p.2) (record { answer = λ ne. whole ∙ ap (λ h. followed h (counted (length added))) (c.in_err-list.ensures.answer ne) })

pub returns : goal.returns
returns c =
    let table = c.args.table.now in
    let i = c.args.insert.now in
    let before = table_rows c.args.rows.now.rows table.name in
    let added = c.in_ok-added.added.items in
    let known : unknown_in_insert table i ≡ None = sym c.in_ok-name.ensures.unknown ∙ c.in_default.is in
    let good : bad_in_insert table i ≡ None = sym c.in_ok-name-2.ensures.bad ∙ c.in_default-2.is in
    let names : names_of table.columns i.columns ≡ c.as_slice-3.result.now = sym (c.as_slice-3.ensures.items ∙ c.in_ok-names.ensures.names ∙ ap (λ columns. names_of columns i.columns) c.as_slice.ensures.items) in
    let is : inserted_rows table i ≡ Ok added = (λ j. each (λ es. inserted_row (names j) es table.columns) (sym c.as_slice-4.ensures.items j)) ∙ c.in_ok-added.ensures.answer in
    let whole = inserted_is table i before added known good is in
    let count : length added ≡ c.len-count.result = search rules in
    record { answer = whole ∙ ap (λ h. followed h (counted (length added))) c.in_ok-list.ensures.answer ∙ ap (λ n. counted n c.in_ok-list.list) count }
