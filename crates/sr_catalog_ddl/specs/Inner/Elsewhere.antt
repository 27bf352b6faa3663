-- A started subscription of another publication, publication by publication.
use Rattle.std.specs.Prelude.{◌≡◌, ℕ, Bool, not, ◌&&◌, ◌||◌, List, Some, bytes_eq}
use Rattle.std.specs.List.{list_any}
use Rattle.sr_ast.specs.declared.create.SubscriptionRule.{SubscriptionRule}
use Rattle.sr_catalog_schema.specs.Catalogs.{Lists}
use Rattle.sr_catalog_schema.specs.Firsts.{has}
use Rattle.sr_catalog_schema.specs.declared.publication.Article.{Article}
use Rattle.sr_catalog_schema.specs.declared.publication.Publication.{Publication}
use Rattle.sr_catalog_schema.specs.declared.subscription.Subscription.{Subscription}
use Rattle.sr_catalog_ddl.specs.Subscriptions.{has_article, is_elsewhere}

-- whether a publication is another one that has the table
abbrev pub is_other_with : SubscriptionRule → List ℕ → Publication → Bool
is_other_with r table p = not (bytes_eq r.publication p.name) && has_article (Some p) table

-- whether a subscription is a started one of a user and a publication
abbrev pub is_start_of : List ℕ → List ℕ → Subscription → Bool
is_start_of user publication s = s.started && (bytes_eq user s.user && bytes_eq publication s.publication)

-- whether a publication is another one that has the table, and the user has a started subscription of it
abbrev pub is_started_there : List Subscription → SubscriptionRule → List ℕ → Publication → Bool
is_started_there subscriptions r table p = is_other_with r table p && list_any (is_start_of r.user p.name) subscriptions

-- ---- tables as sets of names

-- whether one of the articles has a table
abbrev pub has_table : List Article → List ℕ → Bool
has_table articles table = list_any (λ a. bytes_eq table a.table) articles

-- a set of names has the tables of articles, and no other
abbrev pub IsSetOf : List Article → List (List ℕ) → Type 0
IsSetOf articles set = (table : List ℕ) → has set table ≡ has_table articles table

-- a set has a name more
abbrev pub HasMore : List (List ℕ) → List ℕ → List (List ℕ) → Type 0
HasMore set name after = (other : List ℕ) → has after other ≡ (has set other || bytes_eq other name)

-- a set has the tables more that two publications share
abbrev pub HasShared : List Article → List Article → List (List ℕ) → List (List ℕ) → Type 0
HasShared own articles set after = (table : List ℕ) → has after table ≡ (has set table || (has_table own table && has_table articles table))

-- a set has the tables more that a publication shares, where it is another one of which the user has a started subscription
abbrev pub HasStarted : List Subscription → SubscriptionRule → List Article → Publication → List (List ℕ) → List (List ℕ) → Type 0
HasStarted subscriptions r own p set after = (table : List ℕ) → has after table ≡ (has set table || (has_table own table && is_started_there subscriptions r table p))

-- whether a table is one of these, and comes to the user by a started subscription of another publication
abbrev pub tables_elsewhere : Lists → SubscriptionRule → List Article → List ℕ → Bool
tables_elsewhere c r own table = has_table own table && list_any (is_elsewhere c r table) c.subscriptions
