-- A DELETE without a condition takes all rows of its table away.
use Rattle.std.proofs.Common.{◌≡◌, List, [], ◌∷◌, ◌++◌, map, Option, Some, None, Result, Ok, Err, refl, sym, ap, subst, ◌∙◌}
use Rattle.sr_base.specs.declared.value.Value.{Value as Cell}
use Rattle.sr_ast.specs.declared.query.Dml.{Dml}
use Rattle.sr_book.specs.Entries.{Name}
use Rattle.sr_exec_dml.specs.declared.changes.Changes.{Changes}
use Rattle.sr_exec_dml.specs.Applying.{applied}
use Rattle.sr_exec_dml.specs.Fitting.{RowsFit}
use Rattle.sr_exec_dml.specs.Inner.RowsAfter.{rows_after, after_move, in_table, where_Ok, replaced}
use Rattle.sr_exec_dml.specs.Sequences.{front}
use Rattle.sr_exec_dml.specs.Statements.{done, effect_of, effects_of, staying, becoming, entry_of, deleted, on_table, table_named}
use Rattle.sr_exec_dml.proofs.RowsAre.{rows_are_those_after}
use Rattle.sr_rows.specs.Marks.{RowMap}
use Rattle.sr_rows.specs.Steps.{without_table}
use Rattle.sr_rows.specs.Walks.{Entry, table_rows}
use Rattle.sr_catalog_schema.specs.Catalogs.{Lists}
use Rattle.sr_catalog_schema.specs.declared.fault.DmlFault.{DmlFault}
use Rattle.sr_catalog_schema.specs.declared.fault.DmlFault.TheVariants.{NoTable}
use Rattle.sr_catalog_schema.specs.declared.table.Table.{Table}
use Rattle.sr_database_fold.specs.Inner.Reached.{IsExecuted, deletion_of}
use Rattle.sr_database_fold.proofs.Changing.{own_name}

-- what is made of the rows that stay and of those that others become is made of none
none_left : (table : Table) (f : List Entry → List (List Cell) → RowMap) (x : RowMap) (es : List Entry)
    → where_Ok (effects_of table None None es) (λ effects. f (staying es effects) (becoming effects)) x ≡ f [] []
none_left table f x [] = refl
none_left table f x (e ∷ es) = one_goes (effects_of table None None es) ∙ none_left table f x es where
  one_goes : (r : Result (List _) DmlFault) → where_Ok (front (effect_of table None None e.1) r) (λ effects. f (staying (e ∷ es) effects) (becoming effects)) x
      ≡ where_Ok r (λ effects. f (staying es effects) (becoming effects)) x
  one_goes (Ok effects) = refl
  one_goes (Err fault) = refl

emptied_table : (table : Table) (rows : RowMap) → after_move table None None rows ≡ without_table rows table.name
emptied_table table rows =
    none_left table (λ stay become. replaced table.name (stay ++ map (entry_of table) become) rows) rows (table_rows rows table.name)

emptied : (catalog : Lists) (rows : RowMap) (name : Name) (changes : Changes) → RowsFit catalog rows
    → done catalog rows (deletion_of name) ≡ Ok changes → applied catalog changes.list rows ≡ without_table rows name
emptied catalog rows name changes fits is =
    rows_are_those_after catalog rows (deletion_of name) changes fits is ∙ there (table_named catalog name) refl is where
      there : (o : Option Table) → table_named catalog name ≡ o → done catalog rows (deletion_of name) ≡ Ok changes
          → rows_after catalog rows (deletion_of name) ≡ without_table rows name
      there None e h =
          let f : Table → Result Changes DmlFault = λ table. deleted table (record { table = name; condition = None }) (table_rows rows table.name) in
          let refused : Err (NoTable name) ≡ Ok changes = sym (ap (λ (o : Option Table). on_table name o f) e) ∙ h in
          cc
      there (Some table) e h =
          ap (λ (o : Option Table). in_table o (λ t. after_move t None None) rows) e ∙ emptied_table table rows
          ∙ ap (without_table rows) (sym (own_name catalog name table e))

pub executed : (catalog : Lists) (rows new : RowMap) (statement : Dml) (changes : Changes) → done catalog rows statement ≡ Ok changes
    → new ≡ applied catalog changes.list rows → IsExecuted catalog rows statement new
unfolding IsExecuted
executed catalog rows new statement changes is made = (changes, is, made)

emptied_so : (catalog : Lists) (rows new : RowMap) (name : Name) → RowsFit catalog rows → IsExecuted catalog rows (deletion_of name) new → new ≡ without_table rows name
unfolding IsExecuted
emptied_so catalog rows new name fits x = x.2 ∙ emptied catalog rows name x.0 fits x.1

pub emptied_here : (catalog : Lists) (rows new : RowMap) (name : Name) (statement : Dml) → RowsFit catalog rows → IsExecuted catalog rows statement new
    → statement ≡ deletion_of name → new ≡ without_table rows name
emptied_here catalog rows new name statement fits x is =
    emptied_so catalog rows new name fits (subst (λ (s : Dml). IsExecuted catalog rows s new) is x)
