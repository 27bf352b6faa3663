-- A catalog that stands still stands after each accepted statement.
use Rattle.std.proofs.Common.{◌≡◌, ℕ, Bool, true, false, not, cond, List, [], ◌∷◌, ◌++◌, map, Option, Some, None, refl, ap, sym, ◌∙◌, subst, filter}
use Rattle.std.specs.Prelude.{bytes_eq, ◌||◌}
use Rattle.std.specs.List.{list_any, AllByRecursion}
use Rattle.std.proofs.lemmas.Bool.{or_parts}
use Rattle.std.proofs.lemmas.List.{map-append}
use Rattle.std.proofs.lemmas.Option.{same_Some}
use Rattle.sr_ast.specs.declared.create.CreateTable.{CreateTable}
use Rattle.sr_ast.specs.declared.create.CreatePublication.{CreatePublication}
use Rattle.sr_ast.specs.declared.create.CreateTrigger.{CreateTrigger}
use Rattle.sr_ast.specs.declared.create.SubscriptionRule.{SubscriptionRule}
use Rattle.sr_ast.specs.declared.stmt.Stmt.{Stmt}
use Rattle.sr_ast.specs.declared.stmt.Stmt.TheVariants as stmt
use Rattle.sr_catalog_schema.specs.Catalogs.{Lists, nothing_but}
use Rattle.sr_catalog_change.specs.Changes.{refusal, next, publication_names, drop_table_causes}
use Rattle.sr_catalog_schema.specs.Names.{named, without}
use Rattle.sr_catalog_schema.specs.Members.{publication_name, table_name, trigger_name}
use Rattle.sr_catalog_ddl.specs.Options.{options_set}
use Rattle.sr_catalog_ddl.specs.Publications.{publication_of, drop_publication_causes}
use Rattle.sr_catalog_script_laws.specs.Scripts.{subscription_rule, unless_refused, replayed, IsMadeByStatements}
use Rattle.sr_catalog_ddl.specs.Subscriptions.{is_of, marked, articles_of, subscription_of, twice_subscribed, start_causes}
use Rattle.sr_catalog_ddl.specs.Tables.{table_of}
use Rattle.sr_catalog_triggers.specs.Triggers.{trigger_names, trigger_of}
use Rattle.sr_catalog_ddl.specs.Users.{user_of}
use Rattle.sr_catalog_schema.specs.declared.fault.DdlFault.{DdlFault}
use Rattle.sr_catalog_schema.specs.declared.user.User.{User}
use Rattle.sr_catalog_schema.specs.declared.table.Table.{Table}
use Rattle.sr_catalog_schema.specs.declared.publication.Publication.{Publication}
use Rattle.sr_catalog_schema.specs.declared.publication.Article.{Article}
use Rattle.sr_catalog_schema.specs.declared.subscription.Subscription.{Subscription}
use Rattle.sr_catalog_schema.specs.declared.options.Options.{Options}
use Rattle.sr_catalog_script_laws.proofs.ReplayCauses.{NoCause, no_cause_of, where_true-None, option_map-None}
use Rattle.sr_catalog_script_laws.proofs.ReplayLists.{InOrder-append, InOrder-filter, AllByRecursion-append, AllByRecursion-step, AllByRecursion-both, AllByRecursion-filter, AllByRecursion-map, AllByRecursion-unmap, none_passes, list_any-filter, length-filter-le, room_stays, HasRoom-filter, find_more, taken_more, named-without}
use Rattle.sr_catalog_script_laws.proofs.ReplayPublications.{publication_made, articles_there, publication_with_table, publication_without_table}
use Rattle.sr_catalog_script_laws.proofs.ReplayStarts.{NoTwo, free_from_twice, marked_rules, NoTwo-started, NoTwo-stopped, NoTwo-more, NoTwo-fewer, NoTwo-moved}
use Rattle.sr_catalog_script_laws.proofs.ReplaySubscriptions.{TablesStay, subscription_made, subscription_moved, subscription_can_be}
use Rattle.sr_catalog_script_laws.proofs.ReplayTables.{table_made}
use Rattle.sr_catalog_script_laws.proofs.ReplayTriggers.{trigger_made, trigger_with_table, trigger_without_table}
use Rattle.sr_catalog_script_laws.proofs.ReplayUsers.{remote_made, consolidate_made}
use Rattle.sr_catalog_script_laws.proofs.Standing.{InOrder, UserStands, PublicationStands, SubscriptionStands, IsOneMore, Stands}

-- ---- what subscriptions rest on

-- each article of the publication of a name, where each is so in all of them
named_articles : (P : Article → Type 0) (publications : List Publication) (n : List ℕ) → AllByRecursion (λ p. AllByRecursion P p.articles) publications
    → AllByRecursion P (articles_of (named publication_name n publications))
named_articles P [] n all = tt
named_articles P (p ∷ ps) n (first, rest) =
    elim (bytes_eq n (publication_name p)) as (λ b. AllByRecursion P (articles_of (cond b (Some p) (named publication_name n ps)))) [
      | true ↦ first
      | false ↦ named_articles P ps n rest
    ]

abbrev each_subscription : List User → List Table → List Publication → List SubscriptionRule → Type 0
each_subscription users tables publications rules = AllByRecursion (SubscriptionStands users tables publications) rules

tables_stay : (before after : List Table) (publications : List Publication) (n : List ℕ) → AllByRecursion (λ p. TablesStay before after p.articles) publications
    → TablesStay before after (articles_of (named publication_name n publications))
tables_stay before after publications n all = named_articles _ publications n all

over_tables : (users : List User) (before after : List Table) (publications : List Publication) (rules : List SubscriptionRule)
    → AllByRecursion (λ p. TablesStay before after p.articles) publications → each_subscription users before publications rules → each_subscription users after publications rules
over_tables users before after publications rules stay all =
    AllByRecursion-step _ _ (λ r one. subscription_moved users users before after publications publications r (λ h. h) refl (tables_stay before after publications r.publication stay) one) rules all

articles_alone : (tables : List Table) (articles : List Article) → TablesStay tables tables articles
articles_alone tables [] = tt
articles_alone tables (a ∷ rest) = (refl, articles_alone tables rest)

over_publications : (users : List User) (tables : List Table) (before after : List Publication) (rules : List SubscriptionRule)
    → AllByRecursion (λ r. named publication_name r.publication after ≡ named publication_name r.publication before) rules → each_subscription users tables before rules
    → each_subscription users tables after rules
over_publications users tables before after rules same all =
    AllByRecursion-both _ _ _ (λ r e one. subscription_moved users users tables tables before after r (λ h. h) e (articles_alone tables (articles_of (named publication_name r.publication before))) one) rules same all

over_users : (users : List User) (u : User) (tables : List Table) (publications : List Publication) (rules : List SubscriptionRule)
    → each_subscription users tables publications rules → each_subscription (users ++ u ∷ []) tables publications rules
over_users users u tables publications rules all =
    AllByRecursion-step _ _ (λ r one. subscription_moved users (users ++ u ∷ []) tables tables publications publications r (taken_more _ users (u ∷ [])) refl (articles_alone tables (articles_of (named publication_name r.publication publications))) one) rules all

-- ---- grants

with_user : (c : Lists) (u : User) → Stands c → UserStands c.publisher c.users u → Stands (record c { users = c.users ++ u ∷ [] })
with_user c u stands one = record {
  users = InOrder-append _ [] c.users u stands.users one;
  tables = stands.tables;
  each_table = stands.each_table;
  publications = stands.publications;
  each_publication = stands.each_publication;
  triggers = stands.triggers;
  each_trigger = stands.each_trigger;
  subscriptions = stands.subscriptions;
  each_subscription = over_users c.users u c.tables c.publications (map subscription_rule c.subscriptions) stands.each_subscription;
  starts = stands.starts;
}

-- ---- tables

stay_with_table : (tables : List Table) (t : Table) (p : Publication) → PublicationStands tables p → TablesStay tables (tables ++ t ∷ []) p.articles
stay_with_table tables t p one = AllByRecursion-step _ _ (λ a there. find_more _ tables (t ∷ []) there) p.articles (articles_there tables p one)

create_table : (c : Lists) (t : CreateTable) → Stands c → refusal c (stmt.CreateTable t) ≡ None → Stands (record c { tables = c.tables ++ table_of t ∷ [] })
create_table c t stands h =
    let made = table_made c t h in
    record {
      users = stands.users;
      tables = InOrder-append _ [] c.tables (table_of t) stands.tables made.0;
      each_table = AllByRecursion-append _ c.tables (table_of t) stands.each_table made.1;
      publications = stands.publications;
      each_publication = AllByRecursion-step _ _ (λ p one. publication_with_table c.tables (table_of t) p one) c.publications stands.each_publication;
      triggers = stands.triggers;
      each_trigger = AllByRecursion-step _ _ (λ g one. trigger_with_table c.tables (table_of t) g one) c.triggers stands.each_trigger;
      subscriptions = stands.subscriptions;
      each_subscription = over_tables c.users c.tables (c.tables ++ table_of t ∷ []) c.publications (map subscription_rule c.subscriptions)
          (AllByRecursion-step _ _ (λ p one. stay_with_table c.tables (table_of t) p one) c.publications stands.each_publication) stands.each_subscription;
      starts = stands.starts;
    }

stay_without_table : (tables : List Table) (n : List ℕ) (p : Publication) → publication_names n p ≡ false → TablesStay tables (without table_name n tables) p.articles
stay_without_table tables n p other = AllByRecursion-step _ _ (λ a apart. named-without table_name n a.table tables apart) p.articles (none_passes _ p.articles other)

not_named : (c : Lists) (n : List ℕ) → NoCause (drop_table_causes c n) → (list_any (publication_names n) c.publications ≡ false) × (list_any (trigger_names n) c.triggers ≡ false)
unfolding drop_table_causes
not_named c n none = or_parts (list_any (publication_names n) c.publications) (list_any (trigger_names n) c.triggers) (where_true-None _ _ none.in_use)

drop_table : (c : Lists) (n : List ℕ) → Stands c → refusal c (stmt.DropTable n) ≡ None → Stands (record c { tables = without table_name n c.tables })
drop_table c n stands h =
    let parts = not_named c n (no_cause_of c (stmt.DropTable n) h) in
    let other_publications = none_passes (publication_names n) c.publications parts.0 in
    let other_triggers = none_passes (trigger_names n) c.triggers parts.1 in
    record {
      users = stands.users;
      tables = InOrder-filter _ _ (λ before t one. HasRoom-filter table_name 256 _ before t one) [] c.tables stands.tables;
      each_table = AllByRecursion-filter _ _ c.tables stands.each_table;
      publications = stands.publications;
      each_publication = AllByRecursion-both _ _ _ (λ p other one. publication_without_table c.tables n p other one) c.publications other_publications stands.each_publication;
      triggers = stands.triggers;
      each_trigger = AllByRecursion-both _ _ _ (λ g other one. trigger_without_table c.tables n g other one) c.triggers other_triggers stands.each_trigger;
      subscriptions = stands.subscriptions;
      each_subscription = over_tables c.users c.tables (without table_name n c.tables) c.publications (map subscription_rule c.subscriptions)
          (AllByRecursion-step _ _ (λ p other. stay_without_table c.tables n p other) c.publications other_publications) stands.each_subscription;
      starts = stands.starts;
    }

-- ---- publications

same_with_publication : (c : Lists) (p : Publication) → Stands c
    → AllByRecursion (λ r. named publication_name r.publication (c.publications ++ p ∷ []) ≡ named publication_name r.publication c.publications) (map subscription_rule c.subscriptions)
same_with_publication c p stands =
    AllByRecursion-step _ _ (λ r one. find_more _ c.publications (p ∷ []) (subscription_can_be c.users c.tables c.publications r one).publication) (map subscription_rule c.subscriptions) stands.each_subscription

create_publication : (c : Lists) (p : CreatePublication) → Stands c → refusal c (stmt.CreatePublication p) ≡ None
    → Stands (record c { publications = c.publications ++ publication_of c p ∷ [] })
create_publication c p stands h =
    let made = publication_made c p stands.each_table h in
    let same = same_with_publication c (publication_of c p) stands in
    record {
      users = stands.users;
      tables = stands.tables;
      each_table = stands.each_table;
      publications = InOrder-append _ [] c.publications (publication_of c p) stands.publications made.0;
      each_publication = AllByRecursion-append _ c.publications (publication_of c p) stands.each_publication made.1;
      triggers = stands.triggers;
      each_trigger = stands.each_trigger;
      subscriptions = stands.subscriptions;
      each_subscription = over_publications c.users c.tables c.publications (c.publications ++ publication_of c p ∷ []) (map subscription_rule c.subscriptions) same stands.each_subscription;
      starts = NoTwo-moved c.publications (c.publications ++ publication_of c p ∷ []) c.subscriptions (AllByRecursion-unmap _ subscription_rule c.subscriptions same) stands.starts;
    }

not_subscribed : (c : Lists) (n : List ℕ) → NoCause (drop_publication_causes c n) → list_any (λ s. bytes_eq n s.publication) c.subscriptions ≡ false
unfolding drop_publication_causes
not_subscribed c n none = where_true-None _ _ none.in_use

drop_publication : (c : Lists) (n : List ℕ) → Stands c → refusal c (stmt.DropPublication n) ≡ None → Stands (record c { publications = without publication_name n c.publications })
drop_publication c n stands h =
    let others = none_passes (λ (s : Subscription). bytes_eq n s.publication) c.subscriptions (not_subscribed c n (no_cause_of c (stmt.DropPublication n) h)) in
    let same : AllByRecursion (λ s. named publication_name s.publication (without publication_name n c.publications) ≡ named publication_name s.publication c.publications) c.subscriptions =
    AllByRecursion-step _ _ (λ s other. named-without publication_name n s.publication c.publications other) c.subscriptions others in
    record {
      users = stands.users;
      tables = stands.tables;
      each_table = stands.each_table;
      publications = InOrder-filter _ _ (λ before p one. HasRoom-filter publication_name 256 _ before p one) [] c.publications stands.publications;
      each_publication = AllByRecursion-filter _ _ c.publications stands.each_publication;
      triggers = stands.triggers;
      each_trigger = stands.each_trigger;
      subscriptions = stands.subscriptions;
      each_subscription = over_publications c.users c.tables c.publications (without publication_name n c.publications) (map subscription_rule c.subscriptions)
          (AllByRecursion-map _ subscription_rule c.subscriptions same) stands.each_subscription;
      starts = NoTwo-moved c.publications (without publication_name n c.publications) c.subscriptions same stands.starts;
    }

-- ---- triggers

create_trigger : (c : Lists) (g : CreateTrigger) → Stands c → refusal c (stmt.CreateTrigger g) ≡ None → Stands (record c { triggers = c.triggers ++ trigger_of g ∷ [] })
create_trigger c g stands h =
    let made = trigger_made c g h in
    record {
      users = stands.users;
      tables = stands.tables;
      each_table = stands.each_table;
      publications = stands.publications;
      each_publication = stands.each_publication;
      triggers = InOrder-append _ [] c.triggers (trigger_of g) stands.triggers made.0;
      each_trigger = AllByRecursion-append _ c.triggers (trigger_of g) stands.each_trigger made.1;
      subscriptions = stands.subscriptions;
      each_subscription = stands.each_subscription;
      starts = stands.starts;
    }

drop_trigger : (c : Lists) (n : List ℕ) → Stands c → Stands (record c { triggers = without trigger_name n c.triggers })
drop_trigger c n stands = record {
  users = stands.users;
  tables = stands.tables;
  each_table = stands.each_table;
  publications = stands.publications;
  each_publication = stands.each_publication;
  triggers = InOrder-filter _ _ (λ before t one. HasRoom-filter trigger_name 1024 _ before t one) [] c.triggers stands.triggers;
  each_trigger = AllByRecursion-filter _ _ c.triggers stands.each_trigger;
  subscriptions = stands.subscriptions;
  each_subscription = stands.each_subscription;
  starts = stands.starts;
}

-- ---- subscriptions

-- other subscriptions that are in order and of which no two clash
with_subscriptions : (c : Lists) (ss : List Subscription) → Stands c → InOrder IsOneMore [] (map subscription_rule ss)
    → each_subscription c.users c.tables c.publications (map subscription_rule ss) → NoTwo c.publications ss → Stands (record c { subscriptions = ss })
with_subscriptions c ss stands order each two = record {
  users = stands.users;
  tables = stands.tables;
  each_table = stands.each_table;
  publications = stands.publications;
  each_publication = stands.each_publication;
  triggers = stands.triggers;
  each_trigger = stands.each_trigger;
  subscriptions = order;
  each_subscription = each;
  starts = two;
}

create_subscription : (c : Lists) (r : SubscriptionRule) → Stands c → refusal c (stmt.CreateSubscription r) ≡ None → Stands (record c { subscriptions = c.subscriptions ++ subscription_of r ∷ [] })
create_subscription c r stands h =
    let made = subscription_made c r h in
    let rules : map subscription_rule (c.subscriptions ++ subscription_of r ∷ []) ≡ map subscription_rule c.subscriptions ++ r ∷ [] = map-append subscription_rule c.subscriptions (subscription_of r ∷ []) in
    with_subscriptions c (c.subscriptions ++ subscription_of r ∷ []) stands
    (subst (λ (rs : List SubscriptionRule). InOrder IsOneMore [] rs) (sym rules) (InOrder-append _ [] (map subscription_rule c.subscriptions) r stands.subscriptions made.0))
    (subst (λ (rs : List SubscriptionRule). each_subscription c.users c.tables c.publications rs) (sym rules) (AllByRecursion-append _ (map subscription_rule c.subscriptions) r stands.each_subscription made.1))
    (NoTwo-more c.publications c.subscriptions (subscription_of r) refl stands.starts)

-- the same ones, some marked
with_marked : (c : Lists) (started : Bool) (r : SubscriptionRule) → Stands c → NoTwo c.publications (map (marked started r) c.subscriptions)
    → Stands (record c { subscriptions = map (marked started r) c.subscriptions })
with_marked c started r stands two =
    let rules : map subscription_rule c.subscriptions ≡ map subscription_rule (map (marked started r) c.subscriptions) = sym (marked_rules started r c.subscriptions) in
    with_subscriptions c (map (marked started r) c.subscriptions) stands
    (subst (λ (rs : List SubscriptionRule). InOrder IsOneMore [] rs) rules stands.subscriptions)
    (subst (λ (rs : List SubscriptionRule). each_subscription c.users c.tables c.publications rs) rules stands.each_subscription) two

not_twice : (c : Lists) (r : SubscriptionRule) → NoCause (start_causes c r) → twice_subscribed c r ≡ None
unfolding start_causes
not_twice c r none = option_map-None _ _ none.twice

start_subscription : (c : Lists) (r : SubscriptionRule) → Stands c → refusal c (stmt.StartSubscription r) ≡ None → Stands (record c { subscriptions = map (marked true r) c.subscriptions })
start_subscription c r stands h =
    with_marked c true r stands (NoTwo-started c.publications r c.subscriptions (free_from_twice c r (not_twice c r (no_cause_of c (stmt.StartSubscription r) h))) stands.starts)

stop_subscription : (c : Lists) (r : SubscriptionRule) → Stands c → Stands (record c { subscriptions = map (marked false r) c.subscriptions })
stop_subscription c r stands = with_marked c false r stands (NoTwo-stopped c.publications r c.subscriptions stands.starts)

-- the rules of the subscriptions that stay
abbrev stays : SubscriptionRule → SubscriptionRule → Bool
stays r q = not (is_of r (subscription_of q))

rules_stay : (r : SubscriptionRule) (ss : List Subscription) → map subscription_rule (filter (λ s. not (is_of r s)) ss) ≡ filter (stays r) (map subscription_rule ss)
rules_stay r [] = refl
rules_stay r (s ∷ ss) =
    elim (is_of r s) as (λ b. map subscription_rule (cond (not b) (s ∷ filter (λ t. not (is_of r t)) ss) (filter (λ t. not (is_of r t)) ss)) ≡ cond (not b) (subscription_rule s ∷ filter (stays r) (map subscription_rule ss)) (filter (stays r) (map subscription_rule ss))) [
      | true ↦ rules_stay r ss
      | false ↦ ap (λ (qs : List SubscriptionRule). subscription_rule s ∷ qs) (rules_stay r ss)
    ]

any_rules : (q : SubscriptionRule) (rules : List SubscriptionRule) → list_any (is_of q) (map subscription_of rules) ≡ list_any (λ p. is_of q (subscription_of p)) rules
any_rules q [] = refl
any_rules q (p ∷ rules) = ap (λ (b : Bool). is_of q (subscription_of p) || b) (any_rules q rules)

one_of_fewer : (keep : SubscriptionRule → Bool) (before : List SubscriptionRule) (q : SubscriptionRule) → IsOneMore before q → IsOneMore (filter keep before) q
one_of_fewer keep before q one = record {
  is_new = any_rules q (filter keep before) ∙ list_any-filter _ keep before (sym (any_rules q before) ∙ one.is_new);
  has_room = room_stays 65536 _ _ (length-filter-le keep before) one.has_room;
}

drop_subscription : (c : Lists) (r : SubscriptionRule) → Stands c → Stands (record c { subscriptions = filter (λ s. not (is_of r s)) c.subscriptions })
drop_subscription c r stands =
    let rules = sym (rules_stay r c.subscriptions) in
    with_subscriptions c (filter (λ s. not (is_of r s)) c.subscriptions) stands
    (subst (λ (rs : List SubscriptionRule). InOrder IsOneMore [] rs) rules (InOrder-filter _ (stays r) (λ before q one. one_of_fewer (stays r) before q one) [] (map subscription_rule c.subscriptions) stands.subscriptions))
    (subst (λ (rs : List SubscriptionRule). each_subscription c.users c.tables c.publications rs) rules (AllByRecursion-filter _ (stays r) (map subscription_rule c.subscriptions) stands.each_subscription))
    (NoTwo-fewer c.publications (λ s. not (is_of r s)) c.subscriptions stands.starts)

-- ---- options

with_options : (c : Lists) (options : Options) → Stands c → Stands (record c { options = options })
with_options c options stands = record {
  users = stands.users;
  tables = stands.tables;
  each_table = stands.each_table;
  publications = stands.publications;
  each_publication = stands.each_publication;
  triggers = stands.triggers;
  each_trigger = stands.each_trigger;
  subscriptions = stands.subscriptions;
  each_subscription = stands.each_subscription;
  starts = stands.starts;
}

-- ---- each statement

pub stands_next : (c : Lists) (s : Stmt) → Stands c → refusal c s ≡ None → Stands (next c s)
unfolding next
stands_next c (stmt.CreateTable t) stands h = create_table c t stands h
stands_next c (stmt.DropTable n) stands h = drop_table c n stands h
stands_next c (stmt.CreatePublication p) stands h = create_publication c p stands h
stands_next c (stmt.DropPublication n) stands h = drop_publication c n stands h
stands_next c (stmt.GrantRemote g) stands h = with_user c (user_of false g) stands (remote_made c g h)
stands_next c (stmt.GrantConsolidate g) stands h = with_user c (user_of true g) stands (consolidate_made c g h)
stands_next c (stmt.CreateSubscription r) stands h = create_subscription c r stands h
stands_next c (stmt.StartSubscription r) stands h = start_subscription c r stands h
stands_next c (stmt.StopSubscription r) stands h = stop_subscription c r stands
stands_next c (stmt.DropSubscription r) stands h = drop_subscription c r stands
stands_next c (stmt.CreateTrigger g) stands h = create_trigger c g stands h
stands_next c (stmt.DropTrigger n) stands h = drop_trigger c n stands
stands_next c (stmt.SetOption o) stands h = with_options c (options_set o c.options) stands
stands_next c _ stands h = stands

pub publisher_next : (c : Lists) (s : Stmt) → (next c s).publisher ≡ c.publisher
unfolding next
publisher_next c (stmt.CreateTable t) = refl
publisher_next c _ = refl

-- ---- each catalog that statements have made

new_stands : (publisher : List ℕ) → Stands (nothing_but publisher)
new_stands publisher = record {
  users = tt;
  tables = tt;
  each_table = tt;
  publications = tt;
  each_publication = tt;
  triggers = tt;
  each_trigger = tt;
  subscriptions = tt;
  each_subscription = tt;
  starts = tt;
}

stands_unless : (o : Option DdlFault) (c d : Lists) (ss : List Stmt) → (o ≡ None → replayed c ss ≡ Some d → Stands d) → unless_refused o (replayed c ss) ≡ Some d → Stands d
stands_unless None c d ss goes_on h = goes_on refl h
stands_unless (Some f) c d ss goes_on h = absurd (cc)

stands_after : (c d : Lists) (ss : List Stmt) → Stands c → replayed c ss ≡ Some d → Stands d
stands_after c d [] stands h = subst (λ (x : Lists). Stands x) (same_Some c d h) stands
stands_after c d (s ∷ ss) stands h = stands_unless (refusal c s) (next c s) d ss (λ accepted rest. stands_after (next c s) d ss (stands_next c s stands accepted) rest) h

pub made_stands : (c : Lists) → IsMadeByStatements c → Stands c
made_stands c made = stands_after (nothing_but c.publisher) c made.history (new_stands c.publisher) made.makes
