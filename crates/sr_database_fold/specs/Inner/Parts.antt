-- Parts of an entry: the statement of a text, what runs here, a conflict, and the values of named columns.
use Rattle.std.specs.Prelude.{◌≡◌, ℕ, Bool, false, cond, IsTrue, List, [], ◌∷◌, ◌++◌, Option, Some, None, bytes_eq}
use Rattle.std.specs.List.{AllByRecursion}
use Rattle.sr_base.specs.declared.value.Kind.{Kind}
use Rattle.sr_base.specs.declared.value.Value.{Value as Cell}
use Rattle.sr_ast.specs.Statements.{is_carried}
use Rattle.sr_ast.specs.declared.stmt.Stmt.{Stmt}
use Rattle.sr_book.specs.Entries.{Name}
use Rattle.sr_base_dates.specs.Fitting.{fitted}
use Rattle.sr_exec_dml.specs.FittingChanges.{ChangesFit}
use Rattle.sr_database_history.specs.Fitting.{IsAccepted, IsInsertion, MayHaveChanges, AreNamedRows}
use Rattle.sr_database_history.specs.Folds.{State, with_changes, with_statement}
use Rattle.sr_logform.specs.declared.change.Change.{Change}
use Rattle.sr_parse.specs.Prints.{Prints}
use Rattle.sr_rows.specs.Marks.{RowMap}
use Rattle.sr_catalog_schema.specs.Catalogs.{Lists}
use Rattle.sr_catalog_schema.specs.declared.table.Column.{Column}
use Rattle.sr_database_fold.specs.Inner.Movements.{change_of}

-- the statement is of this kind, and it prints as this text
pub record IsTextOf (kind : Stmt → Bool) (text : List ℕ) (s : Stmt) : Type 0 where
  pub prints : Prints s text
  pub is_kind : IsTrue (kind s)

-- it is such, or none is
abbrev pub IsOneOrNone : {A : Type 0} → (A → Type 0) → Option A → Type 0
IsOneOrNone {A} Is None = (x : A) → ¬ (Is x)
IsOneOrNone {A} Is (Some x) = Is x

-- a statement that passthrough carries, by its text, and its changes: both fit the state in which it runs
pub record RunsHere (s : State) (text : List ℕ) (changes : List Change) (statement : Stmt) : Type 0 where
  pub stands : IsTextOf is_carried text statement
  pub accepted : IsAccepted s statement
  pub fit : ChangesFit s.catalog s.rows changes

-- the state behind it
abbrev pub after_run : State → List Change → Stmt → State
after_run s changes statement = with_statement statement (with_changes changes s)

-- such a statement that is passed on too: its changes may stand beside it
pub record RunsToo (s : State) (text : List ℕ) (changes : List Change) (statement : Stmt) : Type 0 where
  pub runs : RunsHere s text changes statement
  pub may : MayHaveChanges false statement changes

-- such a statement that does not run here: it has no changes
pub record IsPassedOn (text : List ℕ) (changes : List Change) (statement : Stmt) : Type 0 where
  pub stands : IsTextOf is_carried text statement
  pub none : changes ≡ []

-- a conflict of a Set of a table's row: the triggers insert, both rows are those of the key that it names, and all of this fits
pub record ConflictFits (catalog : Lists) (rows : RowMap) (table : Name) (key : List (Name × Cell)) (inserts : List Change) (before after : List Cell) : Type 0 where
  pub insertions : AllByRecursion IsInsertion inserts
  pub named : AreNamedRows catalog table key before after
  pub changes : ChangesFit catalog rows (inserts ++ change_of table before after ∷ [])

-- the first value under a name
abbrev pub value_named : List (Name × Cell) → Name → Option Cell
value_named [] name = None
value_named (v ∷ values) name = cond (bytes_eq v.0 name) (Some v.1) (value_named values name)

-- a value, if there is one, fitted to a type
abbrev pub fitted_where : Option Cell → Kind → Option Cell
fitted_where None kind = None
fitted_where (Some value) kind = fitted value kind

-- a column's value, by its name, fitted to it
abbrev pub fitted_by : (Name → Option Cell) → Option Column → Option Cell
fitted_by value_of None = None
fitted_by value_of (Some column) = fitted_where (value_of column.name) column.kind
