-- Which rows a user sees, and what of them.
use Rattle.std.specs.Prelude.{ℕ, Bool, true, false, ◌&&◌, cond, List, Option, Some, None}
use Rattle.std.specs.List.{list_any}
use Rattle.std.specs.Ordering.{is_eq}
use Rattle.std.specs.declared.cmp.Ordering.{Ordering}
use Rattle.sr_base.specs.Order.{compared}
use Rattle.sr_base.specs.declared.value.Value.{Value as Cell}
use Rattle.sr_ast.specs.Exprs.{term_of}
use Rattle.sr_ast.specs.Terms.{Term}
use Rattle.sr_ast.specs.Terms.Term.{literal, column, unary, binary}
use Rattle.sr_ast.specs.declared.expr.Expr.{Expr}
use Rattle.sr_eval.specs.Meanings.{meaning, is_true, found_at}
use Rattle.sr_exec_where.specs.Keys.{key_of}
use Rattle.sr_rows.specs.Marks.{RowMap, rows_of_table}
use Rattle.sr_catalog_schema.specs.Catalogs.{Lists}
use Rattle.sr_catalog_schema.specs.Members.{scope_of}
use Rattle.sr_catalog_schema.specs.declared.table.Table.{Table}
use Rattle.sr_exec_fits.specs.Rows.{is_row}
use Rattle.sr_publish.specs.SubscribedTables.{SubscribedTable, subscribed_table_of}

-- whether a row meets a WHERE: false and unknown do not; each row meets one that is not there
abbrev pub meets : Table → Option Expr → List Cell → Bool
meets t None row = true
meets t (Some e) row = is_true (meaning (scope_of t) row (term_of e))

-- the value that a SUBSCRIBE BY gives a row: the literal's or the column's. No operator stands there
abbrev pub by_value : Table → List Cell → Term → Option Cell
by_value t row (literal v) = Some v
by_value t row (column alias n) = found_at (scope_of t) row alias n
by_value t row (unary op a) = None
by_value t row (binary op a b) = None

abbrev pub is_equal_order : Option Ordering → Bool
is_equal_order None = false
is_equal_order (Some order) = is_eq order

-- equal values, as a comparison says: NULL equals nothing, not even NULL, and neither does a value of another class
abbrev pub equals : Cell → Cell → Bool
equals a b = is_equal_order (compared a b)

-- whether one of the subscriptions' values is that of the row
abbrev pub is_one_of : List Cell → Option Cell → Bool
is_one_of values None = false
is_one_of values (Some v) = list_any (equals v) values

-- whether a SUBSCRIBE BY gives a row to subscriptions of these values; where there is none, each row goes to each
abbrev pub goes_to : Table → Option Expr → List Cell → List Cell → Bool
goes_to t None values row = true
goes_to t (Some e) values row = is_one_of values (by_value t row (term_of e))

-- whether a row that stands in the subscribed table's table is in the subscribed table: it fits the table, and WHERE and SUBSCRIBE BY let it through
abbrev pub is_in : SubscribedTable → List Cell → Bool
is_in s row = is_row s.table.columns row && (meets s.table s.condition row && goes_to s.table s.by s.values row)

-- the values of the article's columns, in article order
abbrev pub shown : SubscribedTable → List Cell → List Cell
shown s row = key_of s.places row

-- what a subscribed table shows of a row: nothing where it lacks it
abbrev pub shown_in : Option SubscribedTable → List Cell → Option (List Cell)
shown_in None row = None
shown_in (Some s) row = cond (is_in s row) (Some (shown s row)) None

-- what a user sees of a row of a table
abbrev pub seen : Lists → List ℕ → List ℕ → List Cell → Option (List Cell)
seen c user table row = shown_in (subscribed_table_of c user table) row

-- the same of a row that may not be there
abbrev pub shown_row : Option SubscribedTable → Option (List Cell) → Option (List Cell)
shown_row s None = None
shown_row s (Some row) = shown_in s row

-- the view of a user: what he sees of the row under a key of a table, as a look-up
abbrev pub view : Lists → RowMap → List ℕ → List ℕ → List Cell → Option (List Cell)
view c rows user table key = shown_row (subscribed_table_of c user table) (rows_of_table rows table key)
