-- Nobody sees a row of a table that is dropped.
use Rattle.std.proofs.Common.{◌≡◌, List, Some, None, Option, refl, ap, ◌∙◌}
use Rattle.sr_ast.specs.declared.stmt.Stmt.TheVariants.{DropTable}
use Rattle.sr_base.specs.declared.value.Value.{Value as Cell}
use Rattle.sr_book.specs.Entries.{Name}
use Rattle.sr_database_history.specs.Fitting.{IsAccepted}
use Rattle.sr_database_history.specs.Folds.{State, with_statement}
use Rattle.sr_database_history.specs.Inner.Laws.{Holds}
use Rattle.sr_database_history.proofs.Bounds.{dropped}
use Rattle.sr_publish.proofs.Sources.{dropped_subscribed_table}
use Rattle.sr_publish.specs.SubscribedTables.{SubscribedTable, subscribed_table_of}
use Rattle.sr_publish.specs.Views.{shown_row}
use Rattle.sr_rows.specs.Marks.{rows_of_table}
use Rattle.sr_scan.specs.Given.{view_in}

sees_none : (o : Option (List Cell)) → shown_row None o ≡ None
sees_none None = refl
sees_none (Some row) = refl

pub before_drop : (s : State) (table user : Name) (key : List Cell) → Holds s → IsAccepted s (DropTable table) → view_in s user table key ≡ None
before_drop s table user key holds accepted =
    ap (λ (subscribed_table : Option SubscribedTable). shown_row subscribed_table (rows_of_table s.rows table key)) (dropped_subscribed_table s.catalog user table accepted.catalog) ∙ sees_none (rows_of_table s.rows table key)

pub after_drop : (s : State) (table user : Name) (key : List Cell) → view_in (with_statement (DropTable table) s) user table key ≡ None
after_drop s table user key = ap (λ (o : Option (List Cell)). shown_row (subscribed_table_of (with_statement (DropTable table) s).catalog user table) o) (dropped s table key)
