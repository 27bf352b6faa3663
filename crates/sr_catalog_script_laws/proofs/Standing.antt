-- What a catalog keeps that accepted statements have made: its own statements would be accepted where they stand, and make it again.
use Rattle.std.proofs.Common.{◌≡◌, ℕ, true, false, List, [], ◌∷◌, ◌++◌, length, map, None}
use Rattle.std.specs.Prelude.{nat_le, bytes_eq}
use Rattle.std.specs.List.{list_any, AllByRecursion}
use Rattle.sr_ast.specs.declared.create.CreateTable.{CreateTable}
use Rattle.sr_ast.specs.declared.create.CreatePublication.{CreatePublication}
use Rattle.sr_ast.specs.declared.create.CreateTrigger.{CreateTrigger}
use Rattle.sr_ast.specs.declared.create.SubscriptionRule.{SubscriptionRule}
use Rattle.sr_ast.specs.declared.stmt.Stmt.TheVariants as stmt
use Rattle.sr_catalog_schema.specs.Catalogs.{Lists, nothing_but}
use Rattle.sr_catalog_change.specs.Changes.{refusal}
use Rattle.sr_catalog_schema.specs.Names.{named, taken}
use Rattle.sr_catalog_schema.specs.Members.{publication_name, key_names, table_name, trigger_name}
use Rattle.sr_catalog_ddl.specs.Publications.{publication_of}
use Rattle.sr_catalog_script_laws.specs.Scripts.{grant_rule, grant_of, column_rule, article_rule, subscription_rule}
use Rattle.sr_catalog_ddl.specs.Subscriptions.{is_of, subscription_of, has_article}
use Rattle.sr_catalog_ddl.specs.Tables.{table_of}
use Rattle.sr_catalog_triggers.specs.Triggers.{trigger_of}
use Rattle.sr_catalog_ddl.specs.Users.{user_of}
use Rattle.sr_catalog_schema.specs.declared.user.User.{User}
use Rattle.sr_catalog_schema.specs.declared.table.Table.{Table}
use Rattle.sr_catalog_schema.specs.declared.publication.Publication.{Publication}
use Rattle.sr_catalog_schema.specs.declared.trigger.Trigger.{Trigger}
use Rattle.sr_catalog_schema.specs.declared.subscription.Subscription.{Subscription}

-- each item, with those before it
abbrev pub InOrder : {A : Type 0} → (List A → A → Type 0) → List A → List A → Type 0
InOrder P before [] = Unit {0}
InOrder P before (x ∷ xs) = P before x × InOrder P (before ++ x ∷ []) xs

-- nothing but these tables
abbrev pub only_tables : List Table → Lists
only_tables tables = record (nothing_but []) { tables = tables }

-- nothing but these users, tables and publications
abbrev pub only_these : List User → List Table → List Publication → Lists
only_these users tables publications = record (nothing_but []) { users = users; tables = tables; publications = publications }

-- a thing's name is new among those before it, and there is room for one more
pub record HasRoom {T : Type 0} (name_of : T → List ℕ) (limit : ℕ) (before : List T) (x : T) : Type 0 where
  pub is_new : taken name_of (name_of x) before ≡ false
  pub has_room : nat_le limit (length before) ≡ false

-- a user, behind those before it
pub record UserStands (publisher : List ℕ) (before : List User) (u : User) : Type 0 where
  pub accepted : refusal (record (nothing_but publisher) { users = before }) (grant_of u) ≡ None
  pub makes : user_of u.above (grant_rule u) ≡ u

-- the statement of a table
abbrev pub table_rule : Table → CreateTable
table_rule t = record { name = t.name; columns = map column_rule t.columns; key = key_names t }

-- a table, but for its name's being new
pub record TableStands (t : Table) : Type 0 where
  pub accepted : refusal (nothing_but []) (stmt.CreateTable (table_rule t)) ≡ None
  pub makes : table_of (table_rule t) ≡ t

-- the statement of a publication
abbrev pub publication_rule : Publication → CreatePublication
publication_rule p = record { name = p.name; articles = map article_rule p.articles }

-- a publication over these tables, but for its name's being new
pub record PublicationStands (tables : List Table) (p : Publication) : Type 0 where
  pub accepted : refusal (only_tables tables) (stmt.CreatePublication (publication_rule p)) ≡ None
  pub makes : publication_of (only_tables tables) (publication_rule p) ≡ p

-- a trigger over these tables, but for its name's being new
pub record TriggerStands (tables : List Table) (t : Trigger) : Type 0 where
  pub rule : CreateTrigger
  pub is : t ≡ trigger_of rule
  pub accepted : refusal (only_tables tables) (stmt.CreateTrigger rule) ≡ None

-- a subscription over these users, tables and publications, but for its being new
pub record SubscriptionStands (users : List User) (tables : List Table) (publications : List Publication) (r : SubscriptionRule) : Type 0 where
  pub accepted : refusal (only_these users tables publications) (stmt.CreateSubscription r) ≡ None

-- a subscription is new among those before it, and there is room for one more
pub record IsOneMore (before : List SubscriptionRule) (r : SubscriptionRule) : Type 0 where
  pub is_new : list_any (is_of r) (map subscription_of before) ≡ false
  pub has_room : nat_le 65536 (length before) ≡ false

-- two subscriptions of one user to two publications that have one table
pub record Clash (publications : List Publication) (r s : SubscriptionRule) : Type 0 where
  pub one_user : r.user ≡ s.user
  pub two_publications : bytes_eq r.publication s.publication ≡ false
  pub table : List ℕ
  pub here : has_article (named publication_name r.publication publications) table ≡ true
  pub there : has_article (named publication_name s.publication publications) table ≡ true

-- no started subscription clashes with this one
abbrev pub IsFree : List Publication → SubscriptionRule → List Subscription → Type 0
IsFree publications r subscriptions = AllByRecursion (λ s. s.started ≡ true → Clash publications r (subscription_rule s) → ⊥) subscriptions

-- each thing of a catalog is what its own statement makes behind those before it
pub record Stands (c : Lists) : Type 0 where
  pub users : InOrder (UserStands c.publisher) [] c.users
  pub tables : InOrder (HasRoom table_name 256) [] c.tables
  pub each_table : AllByRecursion TableStands c.tables
  pub publications : InOrder (HasRoom publication_name 256) [] c.publications
  pub each_publication : AllByRecursion (PublicationStands c.tables) c.publications
  pub triggers : InOrder (HasRoom trigger_name 1024) [] c.triggers
  pub each_trigger : AllByRecursion (TriggerStands c.tables) c.triggers
  pub subscriptions : InOrder IsOneMore [] (map subscription_rule c.subscriptions)
  pub each_subscription : AllByRecursion (SubscriptionStands c.users c.tables c.publications) (map subscription_rule c.subscriptions)
  pub starts : AllByRecursion (λ s. s.started ≡ true → IsFree c.publications (subscription_rule s) c.subscriptions) c.subscriptions
