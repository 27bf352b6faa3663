-- What judging keeps.
use Rattle.std.specs.Prelude.{◌≡◌, ⊤, false, List}
use Rattle.std.specs.List.{AllByRecursion}
use Rattle.std.specs.Ordering.{is_eq}
use Rattle.sr_base.specs.Order.{value_cmp}
use Rattle.sr_base.specs.declared.value.Value.{Value as Cell}
use Rattle.sr_book.specs.Entries.{Name}
use Rattle.sr_exec_dml.specs.Statements.{table_named}
use Rattle.sr_database_history.specs.Folds.{State}
use Rattle.sr_logform.specs.declared.change.Change.{Change}
use Rattle.sr_logform.specs.declared.outcome.Outcome.{Outcome}
use Rattle.sr_logform.specs.declared.outcome.Outcome.TheVariants.{Plain, Conflict, Clash}
use Rattle.sr_rows.specs.Marks.{rows_of_table}

-- the rows of a change are two
abbrev pub IsDifferent : Change → Type 0
IsDifferent c = ¬ (c.before ≡ c.after)

-- of each change of an outcome, the rows are two; of a conflict they may be one for the row of the op
abbrev pub ChangesDiffer : Outcome → Type 0
ChangesDiffer (Plain changes) = AllByRecursion IsDifferent changes
ChangesDiffer (Conflict inserts before after) = AllByRecursion IsDifferent inserts
ChangesDiffer (Clash why) = ⊤

-- two states have the same table of a name, and the same row in it under a key
pub record AreAlikeAt (s q : State) (table : Name) (key : List Cell) : Type 0 where
  pub tables : table_named s.catalog table ≡ table_named q.catalog table
  pub rows : rows_of_table s.rows table key ≡ rows_of_table q.rows table key

-- the old value and the new one of an update are two
abbrev pub IsOfTwoValues : Name × Cell × Cell → Type 0
IsOfTwoValues u = is_eq (value_cmp u.1 u.2) ≡ false
