-- CREATE, START, STOP, SYNCHRONIZE and DROP SUBSCRIPTION.
pub use Rattle.sr_catalog_schema.specs.Rules.{is_same_value, is_of, marked}
use Rattle.std.specs.Prelude.{ℕ, Bool, false, not, ◌&&◌, nat_le, List, [], length, Option, Some, None, option_map, bytes_eq}
use Rattle.std.specs.List.{list_any}
use Rattle.sr_base.specs.declared.value.Value.{Value}
use Rattle.sr_ast.specs.Classes.{value_class, kind_class, is_comparable}
use Rattle.sr_ast.specs.Exprs.{term_of}
use Rattle.sr_ast.specs.Terms.{Term}
use Rattle.sr_ast.specs.Terms.Term.{literal, column, unary, binary}
use Rattle.sr_ast.specs.declared.classes.Class.{Class}
use Rattle.sr_ast.specs.declared.classes.Class.TheVariants.{Any}
use Rattle.sr_ast.specs.declared.create.SubscriptionRule.{SubscriptionRule}
use Rattle.sr_ast.specs.declared.expr.Expr.{Expr}
use Rattle.sr_catalog_schema.specs.Catalogs.{Lists}
use Rattle.sr_catalog_schema.specs.Causes.{Causes, no_cause}
use Rattle.sr_catalog_schema.specs.Firsts.{first_of, first_among, where_true}
use Rattle.sr_catalog_schema.specs.Names.{named, taken}
use Rattle.sr_catalog_schema.specs.Members.{publication_name, table_name, column_name, user_name}
use Rattle.sr_catalog_ddl.specs.Users.{is_remote}
use Rattle.sr_catalog_schema.specs.declared.table.Table.{Table}
use Rattle.sr_catalog_schema.specs.declared.table.Column.{Column}
use Rattle.sr_catalog_schema.specs.declared.publication.Publication.{Publication}
use Rattle.sr_catalog_schema.specs.declared.publication.Article.{Article}
use Rattle.sr_catalog_schema.specs.declared.subscription.Subscription.{Subscription}

abbrev pub is_there : Lists → SubscriptionRule → Bool
is_there c r = list_any (is_of r) c.subscriptions

abbrev pub is_started : Lists → SubscriptionRule → Bool
is_started c r = list_any (λ s. is_of r s && s.started) c.subscriptions

-- whether its publication and its user are there
abbrev pub has_both : Lists → SubscriptionRule → Bool
has_both c r = taken publication_name r.publication c.publications && taken user_name r.user c.users

-- its publication or its user, where it is not there
abbrev pub missing_either : Lists → SubscriptionRule → Option (List ℕ)
missing_either c r =
    first_of (where_true (not (taken publication_name r.publication c.publications)) r.publication) (where_true (not (taken user_name r.user c.users)) r.user)

-- its publication or its user, or else the publication for the subscription itself
abbrev pub missing_unless : Bool → Lists → SubscriptionRule → Option (List ℕ)
missing_unless found c r = first_of (missing_either c r) (where_true (not found) r.publication)

abbrev pub articles_of : Option Publication → List Article
articles_of None = []
articles_of (Some p) = p.articles

-- the articles of a subscription's publication
abbrev pub articles_in : Lists → SubscriptionRule → List Article
articles_in c r = articles_of (named publication_name r.publication c.publications)

-- ---- CREATE SUBSCRIPTION

abbrev pub class_of_column : Option Column → Class
class_of_column None = Any
class_of_column (Some c) = kind_class c.kind

-- the class of a table's column; NULL's where there is none
abbrev pub column_class : Option Table → List ℕ → Class
column_class None n = Any
column_class (Some t) n = class_of_column (named column_name n t.columns)

-- the class of a SUBSCRIBE BY, which is a literal or a column
abbrev pub by_class : Option Table → Term → Class
by_class t (literal v) = value_class v
by_class t (column alias n) = column_class t n
by_class t (unary op a) = Any
by_class t (binary op a b) = Any

-- whether a value's class differs from that of a SUBSCRIBE BY; NULL has each class
unfoldable pub differs : Option Table → Value → Option Expr → Bool
differs t v None = false
differs t v (Some e) = not (is_comparable (value_class v) (by_class t (term_of e)))

-- whether a subscription's value does not go with an article of its publication
abbrev pub is_bad_value : Lists → SubscriptionRule → Option Value → Bool
is_bad_value c r None = false
is_bad_value c r (Some v) = list_any (λ a. differs (named table_name a.table c.tables) v a.by) (articles_in c r)

-- how many subscriptions there may be
abbrev pub most_subscriptions : ℕ
most_subscriptions = 65536

-- what speaks against CREATE SUBSCRIPTION: the publication or the user is not there; they are, and so is the subscription; the
-- value's class; there are as many subscriptions as there may be
unfoldable pub create_subscription_causes : Lists → SubscriptionRule → Causes
create_subscription_causes c r = record no_cause {
  exists = where_true (has_both c r && is_there c r) r.publication;
  missing = missing_either c r;
  bad_type = where_true (is_bad_value c r r.value) r.publication;
  too_many = where_true (nat_le most_subscriptions (length c.subscriptions)) most_subscriptions;
}

-- the subscription that CREATE SUBSCRIPTION makes
abbrev pub subscription_of : SubscriptionRule → Subscription
subscription_of r = record { publication = r.publication; value = r.value; user = r.user; started = false }

-- ---- START, STOP, SYNCHRONIZE, DROP SUBSCRIPTION

abbrev pub has_article : Option Publication → List ℕ → Bool
has_article p table = list_any (λ a. bytes_eq table a.table) (articles_of p)

-- whether a subscription is to another publication, which has the table
abbrev pub is_another_with : Lists → SubscriptionRule → List ℕ → Subscription → Bool
is_another_with c r table s =
    not (bytes_eq r.publication s.publication) && has_article (named publication_name s.publication c.publications) table

-- a started subscription of this user to another publication that has the table
abbrev pub is_elsewhere : Lists → SubscriptionRule → List ℕ → Subscription → Bool
is_elsewhere c r table s =
    s.started && (bytes_eq r.user s.user && is_another_with c r table s)

-- the first table of the publication that such a subscription has already
unfoldable pub twice_subscribed : Lists → SubscriptionRule → Option (List ℕ)
twice_subscribed c r = first_among (λ a. where_true (list_any (is_elsewhere c r a.table) c.subscriptions) a.table) (articles_in c r)

-- what speaks against START: the publication, the user or the subscription is not there; a table comes into a second publication
unfoldable pub start_causes : Lists → SubscriptionRule → Causes
start_causes c r = record no_cause {
  missing = missing_unless (is_there c r) c r;
  twice = option_map (λ table. (r.user, table)) (twice_subscribed c r);
}

-- what speaks against STOP: the publication, the user or the started subscription is not there
unfoldable pub stop_causes : Lists → SubscriptionRule → Causes
stop_causes c r = record no_cause { missing = missing_unless (is_started c r) c r }

-- what speaks against SYNCHRONIZE: the same, or the user is not REMOTE
unfoldable pub synchronize_causes : Lists → SubscriptionRule → Causes
synchronize_causes c r = record no_cause {
  missing = first_of (missing_unless (is_started c r) c r) (where_true (not (is_remote (named user_name r.user c.users))) r.user);
}

-- what speaks against DROP SUBSCRIPTION: the publication, the user or the subscription is not there
unfoldable pub drop_subscription_causes : Lists → SubscriptionRule → Causes
drop_subscription_causes c r = record no_cause { missing = missing_unless (is_there c r) c r }
