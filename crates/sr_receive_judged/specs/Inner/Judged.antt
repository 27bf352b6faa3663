-- What taking a transaction does.
-- Here is what no contract of the program says by itself.
use Rattle.std.specs.Prelude.{◌≡◌, ℕ, ◌+◌, Bool, true, false, List, [], ◌++◌, bytes_eq, Option, Some, None}
use Rattle.std.specs.List.{list_any}
use Rattle.sr_base.specs.declared.value.Value.{Value as Cell}
use Rattle.sr_book.specs.Entries.{Name}
use Rattle.sr_exec_dml.specs.Holding.{with_change}
use Rattle.sr_database_history.specs.Folds.{State}
use Rattle.sr_logform.specs.declared.change.Change.{Change}
use Rattle.sr_logform.specs.declared.op.Op.{Op}
use Rattle.sr_logform.specs.declared.op.Op.TheVariants as ops
use Rattle.sr_logform.specs.declared.outcome.Outcome.{Outcome}
use Rattle.sr_logform.specs.declared.outcome.Outcome.TheVariants as outcomes
use Rattle.sr_database.specs.Advances.{Advances}
use Rattle.sr_database.specs.Views.{View}
use Rattle.sr_database.specs.Inner.Views.{present}
use Rattle.sr_rows.specs.Marks.{RowMap}
use Rattle.sr_catalog_schema.specs.Catalogs.{Lists}
use Rattle.sr_receive_judged.specs.Judged.{AreJudgedAs}

-- the table of an op, where it names one
abbrev pub table_of : Op → Option Name
table_of (ops.Insert table values) = Some table
table_of (ops.Remove table key) = Some table
table_of (ops.Set table key columns) = Some table
table_of (ops.Clear table) = Some table
table_of (ops.Exec text) = None

-- the change of a table's row, where the rows before and after differ
abbrev pub row_changes : Option Name → List Cell → List Cell → List Change
row_changes None before after = []
row_changes (Some table) before after = with_change table (Some before) (Some after) []

-- what triggers inserted, and then the change of the op's row
abbrev pub with_row : Op → List Change → List Cell → List Cell → List Change
with_row op inserts before after = inserts ++ row_changes (table_of op) before after

-- the changes of an op with its outcome, but for one that leaves its row as it was
abbrev pub pending_of : Op → Outcome → List Change
pending_of op (outcomes.Plain changes) = changes
pending_of op (outcomes.Conflict inserts before after) = with_row op inserts before after
pending_of op (outcomes.Clash why) = []

-- an op that is no Exec
abbrev pub is_exec : Op → Bool
is_exec (ops.Insert table values) = false
is_exec (ops.Remove table key) = false
is_exec (ops.Set table key columns) = false
is_exec (ops.Clear table) = false
is_exec (ops.Exec text) = true

-- the value is of the same entries, with nothing pending
pub record IsAlike (old new : View) : Type 0 where
  pub idle : new.pending ≡ []
  pub catalog : new.catalog ≡ old.catalog
  pub log : new.log ≡ old.log
  pub value : Advances old new []

-- ops were judged and their changes are pending in the rows: the state with them is the one behind the ops
pub record ArePendingAs (old new : View) (above : Bool) (asked : List Op) (ops : List (Op × Outcome)) : Type 0 where
  pub judged : AreJudgedAs (present old) (present new) above asked ops
  pub catalog : new.catalog ≡ old.catalog
  pub log : new.log ≡ old.log
  pub value : Advances old new []

-- a catalog and rows
abbrev pub state_in : Lists → RowMap → State
state_in catalog rows = record { catalog = catalog; rows = rows }

-- whether a name is one of these
abbrev pub is_among : List ℕ → List (List ℕ) → Bool
is_among name names = list_any (λ other. bytes_eq name other) names

-- a row, or another where there is none
abbrev pub or_there : Option (List Cell) → Option (List Cell) → Option (List Cell)
or_there None other = other
or_there (Some row) other = Some row
