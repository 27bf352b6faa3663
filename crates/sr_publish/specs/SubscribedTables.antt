-- What a user has of a table: the article, the values of his subscriptions, and whether he verifies.
use Rattle.std.specs.Prelude.{ℕ, Bool, ◌&&◌, cond, List, filter_map, find, Option, Some, None, option_map, bytes_eq}
use Rattle.sr_base.specs.declared.value.Value.{Value as Cell}
use Rattle.sr_ast.specs.declared.expr.Expr.{Expr}
use Rattle.sr_catalog_ddl.specs.Subscriptions.{articles_of}
use Rattle.sr_catalog_ddl.specs.Users.{stands_above}
use Rattle.sr_exec_dml.specs.Statements.{table_named}
use Rattle.sr_catalog_schema.specs.Catalogs.{Lists}
use Rattle.sr_catalog_schema.specs.Firsts.{first_among}
use Rattle.sr_catalog_schema.specs.Members.{column_name, publication_name, user_name}
use Rattle.sr_catalog_schema.specs.Names.{named, place_of}
use Rattle.sr_catalog_schema.specs.declared.publication.Article.{Article}
use Rattle.sr_catalog_schema.specs.declared.subscription.Subscription.{Subscription}
use Rattle.sr_catalog_schema.specs.declared.table.Column.{Column}
use Rattle.sr_catalog_schema.specs.declared.table.Table.{Table}

-- the table, the article's columns and their places in the table, its WHERE and its SUBSCRIBE BY, the values of the user's started
-- subscriptions to the article's publication, and whether an update lists all columns for him to verify
pub record SubscribedTable : Type 0 where
  pub table : Table
  pub columns : List Column
  pub places : List ℕ
  pub condition : Option Expr
  pub by : Option Expr
  pub values : List Cell
  pub verifies : Bool

-- a started subscription of the user
abbrev pub is_live : List ℕ → Subscription → Bool
is_live user s = s.started && bytes_eq user s.user

-- the article of a table in the publication of a subscription
abbrev pub article_in : Lists → List ℕ → Subscription → Option Article
article_in c table s = find (λ a. bytes_eq table a.table) (articles_of (named publication_name s.publication c.publications))

-- the same with the publication's name, where the subscription is a started one of the user
abbrev pub source_in : Lists → List ℕ → List ℕ → Subscription → Option (List ℕ × Article)
source_in c user table s = cond (is_live user s) (option_map (λ a. (s.publication, a)) (article_in c table s)) None

-- the article by which a user has a table, with its publication: that of his first started subscription whose publication has the table.
-- Other publications that have it he has none of: the catalog takes no second one
abbrev pub source_of : Lists → List ℕ → List ℕ → Option (List ℕ × Article)
source_of c user table = first_among (source_in c user table) c.subscriptions

-- the value of a started subscription of the user to a publication
abbrev pub value_in : List ℕ → List ℕ → Subscription → Option Cell
value_in user publication s = cond (is_live user s && bytes_eq publication s.publication) s.value None

-- whether a user verifies the old values of all columns: he is above, and the option is On
abbrev pub verifies : Lists → List ℕ → Bool
verifies c user = c.options.verifies && stands_above (named user_name user c.users)

-- the subscribed table of a table by an article, which its publication comes with
abbrev pub subscribed_table_by : Lists → List ℕ → Table → List ℕ × Article → SubscribedTable
subscribed_table_by c user t source = record {
  table = t;
  columns = filter_map (λ n. named column_name n t.columns) source.1.columns;
  places = filter_map (λ n. place_of column_name n t.columns) source.1.columns;
  condition = source.1.condition;
  by = source.1.by;
  values = filter_map (value_in user source.0) c.subscriptions;
  verifies = verifies c user;
}

abbrev pub subscribed_table_in : Lists → List ℕ → Option Table → Option (List ℕ × Article) → Option SubscribedTable
subscribed_table_in c user None source = None
subscribed_table_in c user (Some t) source = option_map (subscribed_table_by c user t) source

-- what a user has of a table: nothing where the table is not there, or no started subscription of his has it
unfoldable pub subscribed_table_of : Lists → List ℕ → List ℕ → Option SubscribedTable
subscribed_table_of c user table = subscribed_table_in c user (table_named c table) (source_of c user table)
