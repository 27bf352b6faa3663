-- Where the statements of a catalog's things are in normal form, they are so behind each accepted statement in normal form.
use Rattle.std.proofs.Common.{◌≡◌, ℕ, Bool, true, false, cond, List, [], ◌∷◌, length, map, Option, Some, None, is_some, nat_eq, filter_map, option_map, find, slice_get, IsUtf8, refl, ap, sym, ◌∙◌, subst}
use Rattle.std.specs.Prelude.{bytes_eq}
use Rattle.std.specs.List.{cons_option, AllByRecursion}
use Rattle.std.proofs.lemmas.Bool.{not-false}
use Rattle.std.proofs.lemmas.Option.{slice_get-map}
use Rattle.std.proofs.lemmas.Slice.Eq.{bytes_eq-Decides}
use Rattle.sr_base.specs.Names.{is_name, lowered}
use Rattle.sr_base.proofs.NameCase.{is_lower_name-lowered}
use Rattle.sr_ast.proofs.Utf8.{name_utf8}
use Rattle.sr_ast.specs.declared.create.ArticleRule.{ArticleRule}
use Rattle.sr_ast.specs.declared.create.ColumnRule.{ColumnRule}
use Rattle.sr_ast.specs.declared.create.CreatePublication.{CreatePublication}
use Rattle.sr_ast.specs.declared.create.CreateTable.{CreateTable}
use Rattle.sr_ast.specs.declared.create.Grant.{Grant}
use Rattle.sr_ast.specs.declared.stmt.Stmt.{Stmt}
use Rattle.sr_ast.specs.declared.stmt.Stmt.TheVariants as stmt
use Rattle.sr_catalog_change.specs.Changes.{refusal, next}
use Rattle.sr_catalog_ddl.specs.Publications.{table_in, columns_of, article_of, publication_of}
use Rattle.sr_catalog_ddl.specs.Subscriptions.{marked, subscription_of}
use Rattle.sr_catalog_ddl.specs.Tables.{rule_name, column_of, table_of, create_table_causes}
use Rattle.sr_catalog_ddl.specs.Users.{is_bad_address, address_of, grant_causes, user_of}
use Rattle.sr_ast.specs.Normal.{IsPlain, IsNoneOr, IsSomeOf}
use Rattle.sr_ast.specs.NormalForms.{IsNormalRule, IsNormalTable, IsNormalArticle, IsNormalPublication, IsNormalGrant, IsNormalSubscription, IsNormal}
use Rattle.sr_catalog_script_laws.specs.Scripts.{column_rule, article_rule, grant_rule, subscription_rule}
use Rattle.sr_catalog_script_laws.proofs.ReplayCauses.{NoCause, no_cause_of, all_there, where_true-None}
use Rattle.sr_catalog_script_laws.proofs.ReplayLists.{AllByRecursion-append, AllByRecursion-filter, AllByRecursion-map, AllByRecursion-unmap}
use Rattle.sr_catalog_script_laws.proofs.ReplayStarts.{marked_rules}
use Rattle.sr_catalog_script_laws.proofs.Standing.{table_rule, publication_rule}
use Rattle.sr_catalog_schema.proofs.Places.{find-place, find-no_place, found_as_taken}
use Rattle.sr_catalog_schema.specs.Catalogs.{Lists}
use Rattle.sr_catalog_schema.specs.Members.{column_name, column_names, key_names, table_name}
use Rattle.sr_catalog_schema.specs.Names.{taken, place_of}
use Rattle.sr_catalog_schema.specs.declared.options.Options.{Options}
use Rattle.sr_catalog_schema.specs.declared.publication.Publication.{Publication}
use Rattle.sr_catalog_schema.specs.declared.subscription.Subscription.{Subscription}
use Rattle.sr_catalog_schema.specs.declared.table.Column.{Column}
use Rattle.sr_catalog_schema.specs.declared.table.Table.{Table}
use Rattle.sr_catalog_schema.specs.declared.trigger.Trigger.{Trigger}
use Rattle.sr_catalog_schema.specs.declared.user.User.{User}
use Rattle.sr_catalog_triggers.specs.Triggers.{trigger_of}

-- the statement of each thing is in normal form
pub record EachNormal (c : Lists) : Type 0 where
  pub users : AllByRecursion (λ u. IsNormalGrant (grant_rule u)) c.users
  pub tables : AllByRecursion (λ t. IsNormalTable (table_rule t)) c.tables
  pub publications : AllByRecursion (λ p. IsNormalPublication (publication_rule p)) c.publications
  pub triggers : AllByRecursion (λ t. IsNormal t.stmt) c.triggers
  pub subscriptions : AllByRecursion (λ s. IsNormalSubscription (subscription_rule s)) c.subscriptions

-- ---- what is found

found_passes : {A : Type 0} (P : A → Type 0) (p : A → Bool) (xs : List A) (x : A) → AllByRecursion P xs → find p xs ≡ Some x → P x × (p x ≡ true)
found_passes P p [] x all e = absurd (cc)
found_passes P p (y ∷ xs) x all e = by (p y) refl e (found_passes P p xs x all.1)
  where
    by : (b : Bool) → p y ≡ b → cond b (Some y) (find p xs) ≡ Some x → (find p xs ≡ Some x → P x × (p x ≡ true)) → P x × (p x ≡ true)
    by true is h rest = let same : y ≡ x = cc in (subst P same all.0, ap p (sym same) ∙ is)
    by false is h rest = rest h

-- ---- tables

columns_kept : (columns : List ColumnRule) → map column_rule (map column_of columns) ≡ columns
columns_kept [] = refl
columns_kept (c ∷ columns) = ap (λ (cs : List ColumnRule). c ∷ cs) (columns_kept columns)

-- the name of the column at a place
abbrev name_at : List ColumnRule → ℕ → Option (List ℕ)
name_at columns i = option_map column_name (slice_get (map column_of columns) i)

nothing_asked : {A : Type 0} (xs : List A) → AllByRecursion (λ _. Unit {0}) xs
nothing_asked [] = tt
nothing_asked (x ∷ xs) = (tt, nothing_asked xs)

-- a name among the columns has a place, and is the name there
placed : (columns : List ColumnRule) (n : List ℕ) → taken rule_name n columns ≡ true → (i : ℕ) × (place_of rule_name n columns ≡ Some i) × (name_at columns i ≡ Some n)
placed columns n there = by (find here columns) refl (place_of rule_name n columns) refl
  where
    here : ColumnRule → Bool
    here c = bytes_eq n (rule_name c)

    some : is_some (find here columns) ≡ true
    some = sym (found_as_taken here columns) ∙ there

    by : (o : Option ColumnRule) → find here columns ≡ o → (k : Option ℕ) → place_of rule_name n columns ≡ k
        → (i : ℕ) × (place_of rule_name n columns ≡ Some i) × (name_at columns i ≡ Some n)
    by None e k f = let none : is_some (find here columns) ≡ false = ap is_some e in absurd (cc (some, none))
    by (Some c) e None f = let none : find here columns ≡ None = find-no_place here columns f in absurd (cc (e, none))
    by (Some c) e (Some i) f =
        let at : slice_get columns i ≡ Some c = sym (find-place here columns i f) ∙ e in
        let name : n ≡ rule_name c = (bytes_eq-Decides n (rule_name c)).0 (found_passes (λ _. Unit {0}) here columns c (nothing_asked columns) e).1 in (
          i,
          f,
          ap (option_map column_name) (slice_get-map column_of columns i)
              ∙ (ap (λ (o : Option ColumnRule). option_map column_name (option_map column_of o)) at ∙ ap Some (sym name)),
        )

key_kept : (columns : List ColumnRule) (key : List (List ℕ)) → AllByRecursion (λ n. taken rule_name n columns ≡ true) key
    → filter_map (name_at columns) (filter_map (λ n. place_of rule_name n columns) key) ≡ key
key_kept columns [] all = refl
key_kept columns (n ∷ key) all =
    let one = placed columns n all.0 in
    let places = filter_map (λ m. place_of rule_name m columns) key in
    ap (λ (o : Option ℕ). filter_map (name_at columns) (cons_option o places)) one.1
    ∙ (ap (λ (o : Option (List ℕ)). cons_option o (filter_map (name_at columns) places)) one.2 ∙ ap (λ (ns : List (List ℕ)). n ∷ ns) (key_kept columns key all.1))

-- what an accepted CREATE TABLE makes has that statement again
pub table_again : (c : Lists) (t : CreateTable) → refusal c (stmt.CreateTable t) ≡ None → table_rule (table_of t) ≡ t
unfolding table_of create_table_causes
table_again c t h =
    let none : NoCause (create_table_causes c t) = no_cause_of c (stmt.CreateTable t) h in
    let key = key_kept t.columns t.key (all_there (λ n. taken rule_name n t.columns) t.key none.missing) in
    let columns = columns_kept t.columns in
    λ i. record { name = t.name; columns = columns i; key = key i }

table_normal : (c : Lists) (t : CreateTable) → IsNormalTable t → refusal c (stmt.CreateTable t) ≡ None → IsNormalTable (table_rule (table_of t))
table_normal c t normal h = subst (λ (r : CreateTable). IsNormalTable r) (sym (table_again c t h)) normal

-- ---- publications

plain_names : (key : List (List ℕ)) (columns : List Column) → AllByRecursion (IsNormalRule key) (map column_rule columns) → AllByRecursion IsPlain (map column_name columns)
plain_names key [] all = tt
plain_names key (c ∷ columns) all = (all.0.name, plain_names key columns all.1)

all_of_some : {A : Type 0} (P : A → Type 0) (xs : List A) → IsSomeOf P xs → AllByRecursion P xs
all_of_some P [] some = tt
all_of_some P (x ∷ xs) some = some

columns_plain : (t : Table) → IsNormalTable (table_rule t) → AllByRecursion IsPlain (column_names t)
columns_plain t normal = plain_names (key_names t) t.columns (all_of_some (IsNormalRule (key_names t)) (map column_rule t.columns) normal.columns)

article_normal : (c : Lists) → EachNormal c → (a : ArticleRule) → IsNormalArticle a → IsNormalArticle (article_rule (article_of c a))
article_normal c each a normal = record {
  table = normal.table;
  columns = by (table_in c a) refl;
  condition = normal.condition;
  by = normal.by;
}
  where
    by : (o : Option Table) → table_in c a ≡ o → AllByRecursion IsPlain (columns_of a o)
    by None e = normal.columns
    by (Some t) e =
        let names = columns_plain t (found_passes (λ (x : Table). IsNormalTable (table_rule x)) (λ x. bytes_eq a.table (table_name x)) c.tables t each.tables e).0 in
        elim (nat_eq (length a.columns) 0) as (λ b. AllByRecursion IsPlain (cond b (column_names t) a.columns)) [
          | true ↦ names
          | false ↦ normal.columns
        ]

articles_normal : (c : Lists) → EachNormal c → (xs : List ArticleRule) → AllByRecursion IsNormalArticle xs → AllByRecursion IsNormalArticle (map article_rule (map (article_of c) xs))
articles_normal c each [] all = tt
articles_normal c each (x ∷ xs) all = (article_normal c each x all.0, articles_normal c each xs all.1)

some_normal : (c : Lists) → EachNormal c → (xs : List ArticleRule) → IsSomeOf IsNormalArticle xs → IsSomeOf IsNormalArticle (map article_rule (map (article_of c) xs))
some_normal c each [] some = some
some_normal c each (x ∷ xs) some = (article_normal c each x some.0, articles_normal c each xs some.1)

publication_normal : (c : Lists) (p : CreatePublication) → EachNormal c → IsNormalPublication p → IsNormalPublication (publication_rule (publication_of c p))
unfolding publication_of
publication_normal c p each normal = (normal.0, some_normal c each p.articles normal.1)

-- ---- users

address_normal : (user : List ℕ) (a : Option (List ℕ)) → is_bad_address a ≡ false → IsNoneOr IsUtf8 (cond (bytes_eq (address_of user a) user) None (Some (address_of user a)))
address_normal user None h = subst (λ (b : Bool). IsNoneOr IsUtf8 (cond b None (Some user))) (sym ((bytes_eq-Decides user user).1 refl)) tt
address_normal user (Some text) h =
    let utf8 : IsUtf8 (lowered text) = name_utf8 (lowered text) (is_lower_name-lowered text ∙ not-false (is_name text) h) in
    elim (bytes_eq (lowered text) user) as (λ b. IsNoneOr IsUtf8 (cond b None (Some (lowered text)))) [
      | true ↦ tt
      | false ↦ utf8
    ]

user_normal : (above : Bool) (g : Grant) → IsNormalGrant g → is_bad_address g.address ≡ false → IsNormalGrant (grant_rule (user_of above g))
unfolding user_of
user_normal above g normal good = (normal.0, address_normal g.user g.address good)

remote_good : (c : Lists) (g : Grant) → refusal c (stmt.GrantRemote g) ≡ None → is_bad_address g.address ≡ false
unfolding grant_causes
remote_good c g h =
    let none : NoCause (grant_causes c false g) = no_cause_of c (stmt.GrantRemote g) h in
    where_true-None (is_bad_address g.address) g.user none.bad_type

consolidate_good : (c : Lists) (g : Grant) → refusal c (stmt.GrantConsolidate g) ≡ None → is_bad_address g.address ≡ false
unfolding grant_causes
consolidate_good c g h =
    let none : NoCause (grant_causes c true g) = no_cause_of c (stmt.GrantConsolidate g) h in
    where_true-None (is_bad_address g.address) g.user none.bad_type

-- ---- each statement

with_users : (c : Lists) (users : List User) → EachNormal c → AllByRecursion (λ u. IsNormalGrant (grant_rule u)) users → EachNormal (record c { users = users })
with_users c users each all = record { users = all; tables = each.tables; publications = each.publications; triggers = each.triggers; subscriptions = each.subscriptions }

with_tables : (c : Lists) (tables : List Table) → EachNormal c → AllByRecursion (λ t. IsNormalTable (table_rule t)) tables → EachNormal (record c { tables = tables })
with_tables c tables each all = record { users = each.users; tables = all; publications = each.publications; triggers = each.triggers; subscriptions = each.subscriptions }

with_publications : (c : Lists) (publications : List Publication) → EachNormal c → AllByRecursion (λ p. IsNormalPublication (publication_rule p)) publications
    → EachNormal (record c { publications = publications })
with_publications c publications each all = record { users = each.users; tables = each.tables; publications = all; triggers = each.triggers; subscriptions = each.subscriptions }

with_triggers : (c : Lists) (triggers : List Trigger) → EachNormal c → AllByRecursion (λ t. IsNormal t.stmt) triggers → EachNormal (record c { triggers = triggers })
with_triggers c triggers each all = record { users = each.users; tables = each.tables; publications = each.publications; triggers = all; subscriptions = each.subscriptions }

with_subscriptions : (c : Lists) (subscriptions : List Subscription) → EachNormal c → AllByRecursion (λ s. IsNormalSubscription (subscription_rule s)) subscriptions
    → EachNormal (record c { subscriptions = subscriptions })
with_subscriptions c subscriptions each all =
    record { users = each.users; tables = each.tables; publications = each.publications; triggers = each.triggers; subscriptions = all }

with_options : (c : Lists) (options : Options) → EachNormal c → EachNormal (record c { options = options })
with_options c options each = record { users = each.users; tables = each.tables; publications = each.publications; triggers = each.triggers; subscriptions = each.subscriptions }

-- a mark changes no statement
marks_normal : (c : Lists) → EachNormal c → (ss : List Subscription) → map subscription_rule ss ≡ map subscription_rule c.subscriptions
    → AllByRecursion (λ s. IsNormalSubscription (subscription_rule s)) ss
marks_normal c each ss same =
    AllByRecursion-unmap IsNormalSubscription subscription_rule ss
    (subst (AllByRecursion IsNormalSubscription) (sym same) (AllByRecursion-map IsNormalSubscription subscription_rule c.subscriptions each.subscriptions))

pub next_normal : (c : Lists) (s : Stmt) → EachNormal c → IsNormal s → refusal c s ≡ None → EachNormal (next c s)
unfolding next
next_normal c (stmt.CreateTable t) each normal h = with_tables c _ each (AllByRecursion-append _ c.tables (table_of t) each.tables (table_normal c t normal h))
next_normal c (stmt.DropTable n) each normal h = with_tables c _ each (AllByRecursion-filter _ _ c.tables each.tables)
next_normal c (stmt.CreatePublication p) each normal h =
    with_publications c _ each (AllByRecursion-append _ c.publications (publication_of c p) each.publications (publication_normal c p each normal))
next_normal c (stmt.DropPublication n) each normal h = with_publications c _ each (AllByRecursion-filter _ _ c.publications each.publications)
next_normal c (stmt.GrantRemote g) each normal h =
    with_users c _ each (AllByRecursion-append _ c.users (user_of false g) each.users (user_normal false g normal (remote_good c g h)))
next_normal c (stmt.GrantConsolidate g) each normal h =
    with_users c _ each (AllByRecursion-append _ c.users (user_of true g) each.users (user_normal true g normal (consolidate_good c g h)))
next_normal c (stmt.CreateSubscription r) each normal h =
    with_subscriptions c _ each (AllByRecursion-append _ c.subscriptions (subscription_of r) each.subscriptions normal)
next_normal c (stmt.StartSubscription r) each normal h =
    with_subscriptions c _ each (marks_normal c each (map (marked true r) c.subscriptions) (marked_rules true r c.subscriptions))
next_normal c (stmt.StopSubscription r) each normal h =
    with_subscriptions c _ each (marks_normal c each (map (marked false r) c.subscriptions) (marked_rules false r c.subscriptions))
next_normal c (stmt.DropSubscription r) each normal h = with_subscriptions c _ each (AllByRecursion-filter _ _ c.subscriptions each.subscriptions)
next_normal c (stmt.CreateTrigger g) each normal h = with_triggers c _ each (AllByRecursion-append _ c.triggers (trigger_of g) each.triggers normal)
next_normal c (stmt.DropTrigger n) each normal h = with_triggers c _ each (AllByRecursion-filter _ _ c.triggers each.triggers)
next_normal c (stmt.SetOption o) each normal h = with_options c _ each
next_normal c _ each normal h = each
