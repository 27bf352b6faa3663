-- The statements that make a catalog from a new one.
use Rattle.std.specs.Prelude.{◌≡◌, ℕ, cond, List, [], ◌∷◌, ◌++◌, map, filter, Option, Some, None, codes, bytes_eq}
use Rattle.std.specs.List.{AllByRecursion}
use Rattle.sr_ast.specs.NormalForms.{IsNormal}
use Rattle.sr_ast.specs.declared.create.ColumnRule.{ColumnRule}
use Rattle.sr_ast.specs.declared.create.ArticleRule.{ArticleRule}
use Rattle.sr_ast.specs.declared.create.Grant.{Grant}
use Rattle.sr_ast.specs.declared.create.SubscriptionRule.{SubscriptionRule}
use Rattle.sr_ast.specs.declared.options.OptionRule.{OptionRule}
use Rattle.sr_base.specs.declared.value.Value.TheVariants as value
use Rattle.sr_ast.specs.declared.stmt.Stmt.{Stmt}
use Rattle.sr_ast.specs.declared.stmt.Stmt.TheVariants as stmt
use Rattle.sr_catalog_schema.specs.Catalogs.{Lists, nothing_but}
use Rattle.sr_catalog_ddl.specs.Options.{verify_all_columns}
use Rattle.sr_catalog_change.specs.Changes.{refusal, next}
use Rattle.sr_catalog_schema.specs.Members.{key_names}
use Rattle.sr_catalog_schema.specs.declared.user.User.{User}
use Rattle.sr_catalog_schema.specs.declared.table.Table.{Table}
use Rattle.sr_catalog_schema.specs.declared.table.Column.{Column}
use Rattle.sr_catalog_schema.specs.declared.publication.Publication.{Publication}
use Rattle.sr_catalog_schema.specs.declared.publication.Article.{Article}
use Rattle.sr_catalog_schema.specs.declared.trigger.Trigger.{Trigger}
use Rattle.sr_catalog_schema.specs.declared.subscription.Subscription.{Subscription}
use Rattle.sr_catalog_schema.specs.declared.options.Options.{Options}
use Rattle.sr_catalog_schema.specs.declared.fault.DdlFault.{DdlFault}

-- the address of a grant: none where it is the user's name
abbrev pub given_address : User → Option (List ℕ)
given_address u = cond (bytes_eq u.address u.name) None (Some u.address)

abbrev pub grant_rule : User → Grant
grant_rule u = record { user = u.name; address = given_address u }

-- the GRANT of a user
unfoldable pub grant_of : User → Stmt
grant_of u = cond u.above (stmt.GrantConsolidate (grant_rule u)) (stmt.GrantRemote (grant_rule u))

abbrev pub column_rule : Column → ColumnRule
column_rule c = record { name = c.name; kind = c.kind; not_null = c.not_null }

-- the CREATE TABLE of a table
unfoldable pub create_table_of : Table → Stmt
create_table_of t = stmt.CreateTable (record { name = t.name; columns = map column_rule t.columns; key = key_names t })

abbrev pub article_rule : Article → ArticleRule
article_rule a = record { table = a.table; columns = a.columns; condition = a.condition; by = a.by }

-- the CREATE PUBLICATION of a publication, with its articles' columns written out
unfoldable pub create_publication_of : Publication → Stmt
create_publication_of p = stmt.CreatePublication (record { name = p.name; articles = map article_rule p.articles })

abbrev pub subscription_rule : Subscription → SubscriptionRule
subscription_rule s = record { publication = s.publication; value = s.value; user = s.user }

-- the CREATE SUBSCRIPTION and the START of a subscription
unfoldable pub create_subscription_of : Subscription → Stmt
create_subscription_of s = stmt.CreateSubscription (subscription_rule s)

unfoldable pub start_of : Subscription → Stmt
start_of s = stmt.StartSubscription (subscription_rule s)

abbrev pub trigger_stmt : Trigger → Stmt
trigger_stmt t = t.stmt

-- the SET OPTION of an option that is On
abbrev pub verifies_rule : OptionRule
verifies_rule = record { name = verify_all_columns; value = value.Str (codes "On") }

-- the options that are set
abbrev pub set_options_of : Options → List Stmt
set_options_of o = cond o.verifies (stmt.SetOption verifies_rule ∷ []) []

-- grants, tables, publications, triggers, subscriptions and starts, each kind in order of creation, and then the options
abbrev pub statements : Lists → List Stmt
statements c =
    map grant_of c.users ++ (map create_table_of c.tables ++ (map create_publication_of c.publications ++ (map trigger_stmt c.triggers
    ++ (map create_subscription_of c.subscriptions ++ (map start_of (filter (λ s. s.started) c.subscriptions) ++ set_options_of c.options)))))

-- ---- what statements make of a catalog

-- what is made, unless a statement is refused
abbrev pub unless_refused : Option DdlFault → Option Lists → Option Lists
unless_refused None made = made
unless_refused (Some fault) made = None

-- the catalog after these statements one after the other; none where one of them is refused
abbrev pub replayed : Lists → List Stmt → Option Lists
replayed c [] = Some c
replayed c (s ∷ ss) = unless_refused (refusal c s) (replayed (next c s) ss)

-- a catalog that statements, each accepted, have made of a new one
pub record IsMadeByStatements (c : Lists) : Type 0 where
  pub history : List Stmt
  pub makes : replayed (nothing_but c.publisher) history ≡ Some c

-- so statements in normal form did, which are those that a text can spell
pub record IsSpellable (c : Lists) : Type 0 where
  pub made : IsMadeByStatements c
  pub normal : AllByRecursion IsNormal made.history
