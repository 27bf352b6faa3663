-- What SYNCHRONIZE records.
use Rattle.std.specs.Prelude.{List, map, filter_map}
use Rattle.sr_ast.specs.declared.create.SubscriptionRule.{SubscriptionRule}
use Rattle.sr_base.specs.declared.value.Value.{Value as Cell}
use Rattle.sr_book.specs.Entries.{Name}
use Rattle.sr_catalog_ddl.specs.Subscriptions.{articles_in}
use Rattle.sr_database_history.specs.Folds.{State}
use Rattle.sr_publish.specs.Views.{seen}
use Rattle.sr_rows.specs.Walks.{table_rows}

-- a table's name, and rows of it
abbrev pub TableRows : Type 0
TableRows = Name × List (List Cell)

-- a table with what a user sees of its rows, by ascending key
unfoldable pub view_of : State → Name → Name → TableRows
view_of s user table = (table, filter_map (λ e. seen s.catalog user table e.1) (table_rows s.rows table))

-- the tables of a subscription's publication in the order of its articles, each with what the subscription's user sees of its rows
unfoldable pub views_of : State → SubscriptionRule → List TableRows
views_of s r = map (λ a. view_of s r.user a.table) (articles_in s.catalog r)
