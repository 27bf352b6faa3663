-- How long entries are, where histories end, and what is left of a table that is dropped.
use Rattle.std.proofs.Common.{◌≡◌, ◌≤◌, ◌^◌, ℕ, ◌+◌, List, [], ◌∷◌, None, length, arith}
use Rattle.sr_base.specs.declared.value.Value.{Value as Cell}
use Rattle.sr_ast.specs.declared.stmt.Stmt.TheVariants.{DropTable}
use Rattle.sr_book.specs.Entries.{Name}
use Rattle.sr_logform.specs.Entries.{entry_spelling}
use Rattle.sr_logform.specs.Limits.{longest_body}
use Rattle.sr_rows.specs.Marks.{rows_of_table}
use Rattle.sr_database_history.specs.Recorded.{Recorded, entry_of, ddl}
use Rattle.sr_database_history.specs.Folds.{State, fresh, with_statement, next, size, end_from, end_of}
use Rattle.sr_database_history.specs.Fitting.{Fits, stored_from, Stored}
use Rattle.sr_database_history.proofs.Tables.{none_left}

-- an entry is no longer than its kind may be
pub short : (s : State) (place : ℕ) (r : Recorded) → Fits s place r → length (entry_spelling (entry_of r)) ≤ longest_body (entry_of r)
unfolding size
short s place r fits = fits.short

within : (s : State) (place : ℕ) (rs : List Recorded) → place ≤ 2 ^ 62 → stored_from s place rs → end_from place rs ≤ 2 ^ 62
within s place [] le stored = le
within s place (r ∷ rs) le stored = within (next s r) (place + (size r + 5)) rs stored.0.ends stored.1

-- a history ends at 2^62 at most
pub ends_within : (publisher : Name) (rs : List Recorded) → Stored publisher rs → end_of rs ≤ 2 ^ 62
ends_within publisher rs stored = within (fresh publisher) 0 rs (omega arith) stored

pub dropped : (s : State) (table : Name) (key : List Cell) → rows_of_table (with_statement (DropTable table) s).rows table key ≡ None
unfolding with_statement
dropped s table key = none_left s.rows table key

pub dropped_by_ddl : (s : State) (table : Name) (key : List Cell) → rows_of_table (next s (ddl (DropTable table))).rows table key ≡ None
unfolding next
dropped_by_ddl s table key = dropped s table key
