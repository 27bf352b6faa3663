-- What statements keep, and what their changes are.
use Rattle.std.specs.Prelude.{◌≡◌, ℕ, false, List, [], ◌∷◌, Some, Ok, ◌⊎◌, bytes_eq}
use Rattle.std.specs.List.{AllByRecursion}
use Rattle.std.specs.FinMap as map_of
use Rattle.sr_base.specs.declared.value.Value.{Value as Cell}
use Rattle.sr_ast.specs.declared.query.Dml.{Dml}
use Rattle.sr_rows.specs.Marks.{RowMap, rows_of_table}
use Rattle.sr_rows.specs.Walks.{Entry, table_rows}
use Rattle.sr_logform.specs.declared.change.Change.{Change}
use Rattle.sr_catalog_schema.specs.Catalogs.{Lists}
use Rattle.sr_catalog_schema.specs.declared.table.Table.{Table}
use Rattle.sr_exec_dml.specs.declared.changes.Changes.{Changes}
use Rattle.sr_exec_dml.specs.Applying.{applied}
use Rattle.sr_exec_dml.specs.Fitting.{TableFits, RowsFit}
use Rattle.sr_exec_dml.specs.FittingChanges.{ChangesFit}
use Rattle.sr_exec_dml.specs.Holding.{under, are_two, one_of, held}
use Rattle.sr_logform.specs.Outcomes.{is_same_row}
use Rattle.sr_exec_dml.specs.Inner.RowsAfter.{rows_after}
use Rattle.sr_exec_where.specs.Keys.{key_of}
use Rattle.sr_exec_dml.specs.Statements.{table_named, done}

-- where there are no rows, each fits
abbrev pub NoRowsFit : Type 0
NoRowsFit = (catalog : Lists) → RowsFit catalog map_of.empty

-- where rows fit, those after changes that fit do
abbrev pub FittingChangesKeepFit : Type 0
FittingChangesKeepFit = (catalog : Lists) (rows : RowMap) (changes : List Change) → RowsFit catalog rows → ChangesFit catalog rows changes → RowsFit catalog (applied catalog changes rows)

-- where rows fit, the changes of a statement do
abbrev pub StatementsChangesFit : Type 0
StatementsChangesFit = (catalog : Lists) (rows : RowMap) (statement : Dml) (changes : Changes) → RowsFit catalog rows → done catalog rows statement ≡ Ok changes → ChangesFit catalog rows changes.list

-- where rows fit, those after the changes of a statement fit
abbrev pub RowsStayFit : Type 0
RowsStayFit = (catalog : Lists) (rows : RowMap) (statement : Dml) (changes : Changes) → RowsFit catalog rows → done catalog rows statement ≡ Ok changes → RowsFit catalog (applied catalog changes.list rows)

-- a change at a key, at which the rows before and after differ
pub record IsDifference (table : List ℕ) (before after : List Entry) (key : List Cell) (change : Change) : Type 0 where
  pub table_is : change.table ≡ table
  pub before_is : change.before ≡ one_of (under key before)
  pub after_is : change.after ≡ one_of (under key after)
  pub differ : is_same_row change.before change.after ≡ false

-- a change is among changes
abbrev pub IsAmong : Change → List Change → Type 0
IsAmong change [] = ⊥
IsAmong change (c ∷ changes) = (change ≡ c) ⊎ IsAmong change changes

-- where a statement has changes, no two rows are under one key
abbrev pub HoldsOneEach : Type 0
HoldsOneEach = (table : List ℕ) (before after : List Entry) (changes : List Change) → held table before after ≡ Ok changes → (key : List Cell) → are_two (under key after) ≡ false

-- each change is a difference
abbrev pub ChangesDiffer : Type 0
ChangesDiffer = (table : List ℕ) (before after : List Entry) (changes : List Change) → held table before after ≡ Ok changes → AllByRecursion (λ c. (key : List Cell) × IsDifference table before after key c) changes

-- each difference is a change
abbrev pub DifferencesChange : Type 0
DifferencesChange = (table : List ℕ) (before after : List Entry) (changes : List Change) → held table before after ≡ Ok changes
    → (key : List Cell) → is_same_row (one_of (under key before)) (one_of (under key after)) ≡ false → IsAmong (record { table = table; before = one_of (under key before); after = one_of (under key after) }) changes

-- each row stands under its key
abbrev pub StandUnderKeys : Table → List Entry → Type 0
StandUnderKeys table entries = AllByRecursion (λ e. key_of table.key e.1 ≡ e.0) entries

-- the rows of the table with the changes applied are the rows after the statement
abbrev pub RowsBecome : Type 0
RowsBecome = (catalog : Lists) (rows : RowMap) (table : Table) (after : List Entry) (changes : List Change) → table_named catalog table.name ≡ Some table → TableFits table rows → StandUnderKeys table after
    → held table.name (table_rows rows table.name) after ≡ Ok changes → (key : List Cell) → rows_of_table (applied catalog changes rows) table.name key ≡ one_of (under key after)

-- the rows with the changes of a statement applied are those that it leaves
abbrev pub RowsAreThoseAfter : Type 0
RowsAreThoseAfter = (catalog : Lists) (rows : RowMap) (statement : Dml) (changes : Changes) → RowsFit catalog rows → done catalog rows statement ≡ Ok changes → applied catalog changes.list rows ≡ rows_after catalog rows statement

-- and the rows of other tables are as they were
abbrev pub OthersStay : Type 0
OthersStay = (catalog : Lists) (rows : RowMap) (table : Table) (after : List Entry) (changes : List Change) → table_named catalog table.name ≡ Some table → TableFits table rows → StandUnderKeys table after
    → held table.name (table_rows rows table.name) after ≡ Ok changes → (name : List ℕ) (key : List Cell) → bytes_eq name table.name ≡ false → rows_of_table (applied catalog changes rows) name key ≡ rows_of_table rows name key
