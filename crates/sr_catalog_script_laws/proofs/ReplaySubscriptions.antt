-- Subscriptions behind one another: what CREATE SUBSCRIPTION made is made again by its own statement.
use Rattle.std.proofs.Common.{◌≡◌, ℕ, Bool, true, false, List, [], ◌∷◌, ◌++◌, length, map, Option, Some, None, refl, ap, sym, ◌∙◌}
use Rattle.std.specs.Prelude.{bytes_eq, not, ◌&&◌, ◌||◌, nat_le}
use Rattle.std.specs.List.{list_any, AllByRecursion}
use Rattle.std.specs.Option.{is_some}
use Rattle.std.specs.Cmp.{Equal-is, tied_itself}
use Rattle.std.proofs.lemmas.Bool.{and_parts, and_from, not-false, false_from_ne_true}
use Rattle.std.proofs.lemmas.List.{length-map}
use Rattle.std.proofs.lemmas.Slice.Eq.{bytes_eq-Decides}
use Rattle.sr_base.specs.Order.{value_cmp}
use Rattle.sr_base.specs.Inner.Order.{value_cmp_total}
use Rattle.sr_base.specs.declared.value.Value.{Value}
use Rattle.sr_base.proofs.Exact.{exact_values}
use Rattle.sr_ast.specs.declared.create.SubscriptionRule.{SubscriptionRule}
use Rattle.sr_ast.specs.declared.stmt.Stmt.TheVariants as stmt
use Rattle.sr_catalog_schema.specs.Catalogs.{Lists}
use Rattle.sr_catalog_change.specs.Changes.{refusal, next}
use Rattle.sr_catalog_schema.specs.Firsts.{where_true}
use Rattle.sr_catalog_schema.specs.Names.{named, taken}
use Rattle.sr_catalog_schema.specs.Members.{publication_name, table_name, user_name}
use Rattle.sr_catalog_script_laws.specs.Scripts.{subscription_rule}
use Rattle.sr_catalog_ddl.specs.Subscriptions.{is_same_value, is_of, is_there, has_both, missing_either, articles_of, articles_in, differs, is_bad_value, create_subscription_causes, subscription_of}
use Rattle.sr_catalog_schema.specs.declared.user.User.{User}
use Rattle.sr_catalog_schema.specs.declared.table.Table.{Table}
use Rattle.sr_catalog_schema.specs.declared.publication.Publication.{Publication}
use Rattle.sr_catalog_schema.specs.declared.publication.Article.{Article}
use Rattle.sr_catalog_schema.specs.declared.subscription.Subscription.{Subscription}
use Rattle.sr_catalog_script_laws.proofs.ReplayCauses.{NoCause, no_cause_of, refused_alike, where_true-None, first_of-None}
use Rattle.sr_catalog_script_laws.proofs.ReplayLists.{found_as_taken, AllByRecursion-step}
use Rattle.sr_catalog_script_laws.proofs.Standing.{SubscriptionStands, IsOneMore, only_these}

-- ---- the subscription of a statement

same_values : (v w : Value) → is_same_value (Some v) (Some w) ≡ true → v ≡ w
same_values v w h = exact_values v w ((Equal-is (value_cmp v w)).0 h)

same_value : (v w : Option Value) → is_same_value v w ≡ true → v ≡ w
same_value None None h = refl
same_value None (Some w) h = absurd (cc)
same_value (Some v) None h = absurd (cc)
same_value (Some v) (Some w) h = ap Some (same_values v w h)

value_itself : (v : Option Value) → is_same_value v v ≡ true
value_itself None = refl
value_itself (Some v) = (Equal-is (value_cmp v v)).1 (tied_itself value_cmp_total v)

abbrev rule_of : List ℕ → Option Value → List ℕ → SubscriptionRule
rule_of publication value user = record { publication = publication; value = value; user = user }

-- it is the one whose own statement would be the same
pub is_of_same : (r : SubscriptionRule) (s : Subscription) → is_of r s ≡ true → r ≡ subscription_rule s
is_of_same r s h =
    let outer = and_parts (bytes_eq r.publication s.publication) (bytes_eq r.user s.user && is_same_value r.value s.value) h in
    let inner = and_parts (bytes_eq r.user s.user) (is_same_value r.value s.value) outer.1 in
    let p : r.publication ≡ s.publication = (bytes_eq-Decides r.publication s.publication).0 outer.0 in
    let u : r.user ≡ s.user = (bytes_eq-Decides r.user s.user).0 inner.0 in
    let v : r.value ≡ s.value = same_value r.value s.value inner.1 in
    let whole : rule_of r.publication r.value r.user ≡ rule_of s.publication s.value s.user = rw (p, u, v) refl in
    whole

pub is_of_itself : (s : Subscription) → is_of (subscription_rule s) s ≡ true
is_of_itself s = and_from _ _ ((bytes_eq-Decides s.publication s.publication).1 refl) (and_from _ _ ((bytes_eq-Decides s.user s.user).1 refl) (value_itself s.value))

-- what is not of another, the other is not of it
pub is_of_other : (s t : Subscription) → is_of (subscription_rule s) t ≡ false → is_of (subscription_rule t) s ≡ false
is_of_other s t h = false_from_ne_true _ (λ e.
    let same : subscription_rule t ≡ subscription_rule s = is_of_same (subscription_rule t) s e in
    let is : is_of (subscription_rule s) t ≡ true = ap (λ (r : SubscriptionRule). is_of r t) (sym same) ∙ is_of_itself t in
    absurd (cc))

-- ---- what speaks against CREATE SUBSCRIPTION

create_alike : (c d : Lists) (r : SubscriptionRule)
    → taken publication_name r.publication c.publications ≡ taken publication_name r.publication d.publications
    → taken user_name r.user c.users ≡ taken user_name r.user d.users
    → is_there c r ≡ is_there d r
    → is_bad_value c r r.value ≡ is_bad_value d r r.value
    → nat_le 65536 (length c.subscriptions) ≡ nat_le 65536 (length d.subscriptions)
    → create_subscription_causes c r ≡ create_subscription_causes d r
unfolding create_subscription_causes
create_alike c d r publications users there bad room = rw (publications, users, there, bad, room) refl

pub record CanBe (c : Lists) (r : SubscriptionRule) : Type 0 where
  pub publication : taken publication_name r.publication c.publications ≡ true
  pub user : taken user_name r.user c.users ≡ true

pub has_either : (c : Lists) (r : SubscriptionRule) → missing_either c r ≡ None → CanBe c r
has_either c r h =
    let parts = first_of-None (where_true (not (taken publication_name r.publication c.publications)) r.publication) _ h in
    record {
      publication = not-false _ (where_true-None _ _ parts.0);
      user = not-false _ (where_true-None _ _ parts.1);
    }

can_be : (c : Lists) (r : SubscriptionRule) → NoCause (create_subscription_causes c r) → CanBe c r
unfolding create_subscription_causes
can_be c r none = has_either c r none.missing

not_there : (c : Lists) (r : SubscriptionRule) → NoCause (create_subscription_causes c r) → is_there c r ≡ false
unfolding create_subscription_causes
not_there c r none =
    let both = can_be c r none in
    let h : (has_both c r && is_there c r) ≡ false = where_true-None _ _ none.exists in
    rw (both.publication, both.user) at h

has_room : (c : Lists) (r : SubscriptionRule) → NoCause (create_subscription_causes c r) → nat_le 65536 (length c.subscriptions) ≡ false
unfolding create_subscription_causes
has_room c r none = where_true-None _ _ none.too_many

pub there_by_rules : (r : SubscriptionRule) (ss : List Subscription) → list_any (is_of r) (map subscription_of (map subscription_rule ss)) ≡ list_any (is_of r) ss
there_by_rules r [] = refl
there_by_rules r (s ∷ ss) = ap (λ (b : Bool). is_of r s || b) (there_by_rules r ss)

-- an accepted CREATE SUBSCRIPTION makes a subscription that stands
pub subscription_made : (c : Lists) (r : SubscriptionRule) → refusal c (stmt.CreateSubscription r) ≡ None
    → IsOneMore (map subscription_rule c.subscriptions) r × SubscriptionStands c.users c.tables c.publications r
subscription_made c r h =
    let none : NoCause (create_subscription_causes c r) = no_cause_of c (stmt.CreateSubscription r) h in (
      record {
        is_new = there_by_rules r c.subscriptions ∙ not_there c r none;
        has_room = ap (nat_le 65536) (length-map c.subscriptions subscription_rule) ∙ has_room c r none;
      },
      record {
        accepted = refused_alike (only_these c.users c.tables c.publications) c _ _ (create_alike _ c r refl refl (sym (not_there c r none)) refl (sym (has_room c r none))) ∙ h;
      },
    )

-- where a subscription stands, its statement is accepted, and makes it, not started
pub subscription_again : (c : Lists) (before : List SubscriptionRule) (r : SubscriptionRule) → c.subscriptions ≡ map subscription_of before → IsOneMore before r
    → SubscriptionStands c.users c.tables c.publications r → refusal c (stmt.CreateSubscription r) ≡ None
subscription_again c before r are more stands =
    refused_alike c (only_these c.users c.tables c.publications) _ _ (create_alike c _ r refl refl
    (ap (list_any (is_of r)) are ∙ more.is_new) refl
    (ap (λ (ss : List Subscription). nat_le 65536 (length ss)) are ∙ (ap (nat_le 65536) (length-map before subscription_of) ∙ more.has_room)))
    ∙ stands.accepted

pub subscription_next : (c : Lists) (r : SubscriptionRule) → next c (stmt.CreateSubscription r) ≡ record c { subscriptions = c.subscriptions ++ subscription_of r ∷ [] }
unfolding next
subscription_next c r = refl

-- ---- over other users, tables and publications

any_alike : {A : Type 0} (f g : A → Bool) (xs : List A) → AllByRecursion (λ x. f x ≡ g x) xs → list_any f xs ≡ list_any g xs
any_alike f g [] all = refl
any_alike f g (x ∷ xs) (first, rest) = cc (any_alike f g xs rest)

-- the tables of its publication are the same
abbrev pub TablesStay : List Table → List Table → List Article → Type 0
TablesStay before after articles = AllByRecursion (λ a. named table_name a.table after ≡ named table_name a.table before) articles

bad_alike : (c d : Lists) (r : SubscriptionRule) (v : Option Value)
    → named publication_name r.publication d.publications ≡ named publication_name r.publication c.publications
    → TablesStay c.tables d.tables (articles_in c r) → is_bad_value d r v ≡ is_bad_value c r v
bad_alike c d r None same tables = refl
bad_alike c d r (Some v) same tables =
    ap (λ (p : Option Publication). list_any (λ a. differs (named table_name a.table d.tables) v a.by) (articles_of p)) same
    ∙ any_alike _ _ (articles_in c r) (AllByRecursion-step _ _ (λ a e. ap (λ (t : Option Table). differs t v a.by) e) (articles_in c r) tables)

pub subscription_moved : (users more_users : List User) (tables other_tables : List Table) (publications other_publications : List Publication) (r : SubscriptionRule)
    → (taken user_name r.user users ≡ true → taken user_name r.user more_users ≡ true)
    → named publication_name r.publication other_publications ≡ named publication_name r.publication publications
    → TablesStay tables other_tables (articles_of (named publication_name r.publication publications))
    → SubscriptionStands users tables publications r → SubscriptionStands more_users other_tables other_publications r
subscription_moved users more_users tables other_tables publications other_publications r stays same same_tables stands =
    let c : Lists = only_these users tables publications in
    let d : Lists = only_these more_users other_tables other_publications in
    let none : NoCause (create_subscription_causes c r) = no_cause_of c (stmt.CreateSubscription r) stands.accepted in
    let can = can_be c r none in
    let taken_too : taken publication_name r.publication other_publications ≡ taken publication_name r.publication publications =
    found_as_taken _ other_publications ∙ (ap is_some same ∙ sym (found_as_taken _ publications)) in
    record {
      accepted = refused_alike d c _ _ (create_alike d c r taken_too (stays can.user ∙ sym can.user) refl (bad_alike c d r r.value same same_tables) refl) ∙ stands.accepted;
    }

-- its user and its publication are there
pub subscription_can_be : (users : List User) (tables : List Table) (publications : List Publication) (r : SubscriptionRule) → SubscriptionStands users tables publications r
    → CanBe (only_these users tables publications) r
subscription_can_be users tables publications r stands = can_be _ r (no_cause_of _ (stmt.CreateSubscription r) stands.accepted)
