-- Catalogs that accepted statements in normal form have made: the statements of their scripts are in normal form.
use Rattle.std.proofs.Common.{◌≡◌, ℕ, Bool, true, false, codes, cond, List, [], ◌∷◌, ◌++◌, filter, map, Option, Some, None, refl, sym, subst}
use Rattle.std.specs.List.{AllByRecursion}
use lib.Utf8.{encode}
use Rattle.sr_ast.specs.Keywords.{named, IsKeyword}
use Rattle.sr_ast.specs.declared.keyword.Keyword.{Keyword}
use Rattle.sr_ast.specs.declared.keyword.Keyword.TheVariants as key
use Rattle.sr_ast.specs.declared.stmt.Stmt.{Stmt}
use Rattle.sr_ast.specs.declared.stmt.Stmt.TheVariants as stmt
use Rattle.sr_catalog_ddl.specs.Options.{verify_all_columns}
use Rattle.sr_catalog_change.specs.Changes.{refusal, next}
use Rattle.sr_ast.specs.NormalForms.{IsNormal, IsNormalGrant, IsNormalOption, IsNormalPublication, IsNormalSubscription, IsNormalTable}
use Rattle.sr_catalog_script_laws.specs.Scripts.{create_publication_of, create_subscription_of, create_table_of, grant_of, grant_rule, replayed, set_options_of, start_of, statements, subscription_rule, trigger_stmt, unless_refused, verifies_rule, IsSpellable}
use Rattle.sr_catalog_script_laws.proofs.Made.{again, makes_next}
use Rattle.sr_catalog_script_laws.proofs.ReplayLists.{AllByRecursion-append, AllByRecursion-filter, AllByRecursion-map, AllByRecursion-step}
use Rattle.sr_catalog_script_laws.proofs.Standing.{publication_rule, table_rule}
use Rattle.sr_catalog_schema.specs.Catalogs.{Lists, nothing_but}
use Rattle.sr_catalog_schema.specs.declared.fault.DdlFault.{DdlFault}
use Rattle.sr_catalog_schema.specs.declared.options.Options.{Options}
use Rattle.sr_catalog_schema.specs.declared.publication.Publication.{Publication}
use Rattle.sr_catalog_schema.specs.declared.subscription.Subscription.{Subscription}
use Rattle.sr_catalog_schema.specs.declared.table.Table.{Table}
use Rattle.sr_catalog_schema.specs.declared.user.User.{User}
use Rattle.sr_catalog_script_laws.proofs.Normals.{EachNormal, next_normal}

-- ---- what statements make

new_normal : (publisher : List ℕ) → EachNormal (nothing_but publisher)
new_normal publisher = record { users = tt; tables = tt; publications = tt; triggers = tt; subscriptions = tt }

normal_unless : (o : Option DdlFault) (c d : Lists) (ss : List Stmt) → (o ≡ None → replayed c ss ≡ Some d → EachNormal d) → unless_refused o (replayed c ss) ≡ Some d → EachNormal d
normal_unless None c d ss goes_on h = goes_on refl h
normal_unless (Some fault) c d ss goes_on h = absurd (cc)

normal_after : (c d : Lists) (ss : List Stmt) → EachNormal c → AllByRecursion IsNormal ss → replayed c ss ≡ Some d → EachNormal d
normal_after c d [] each all h = let same : c ≡ d = cc in subst (λ (x : Lists). EachNormal x) same each
normal_after c d (s ∷ ss) each all h =
    normal_unless (refusal c s) (next c s) d ss (λ accepted rest. normal_after (next c s) d ss (next_normal c s each all.0 accepted) all.1 rest) h

each_of : (c : Lists) → IsSpellable c → EachNormal c
each_of c spelled = normal_after (nothing_but c.publisher) c spelled.made.history (new_normal c.publisher) spelled.normal spelled.made.makes

-- ---- the statements of a catalog

joined : {A : Type 0} (P : A → Type 0) (xs ys : List A) → AllByRecursion P xs → AllByRecursion P ys → AllByRecursion P (xs ++ ys)
joined P [] ys all more = more
joined P (x ∷ xs) ys all more = (all.0, joined P xs ys all.1 more)

grant_normal : (u : User) → IsNormalGrant (grant_rule u) → IsNormal (grant_of u)
unfolding grant_of
grant_normal u normal = elim u.above as (λ b. IsNormal (cond b (stmt.GrantConsolidate (grant_rule u)) (stmt.GrantRemote (grant_rule u)))) [
  | true ↦ normal
  | false ↦ normal
]

table_normal : (t : Table) → IsNormalTable (table_rule t) → IsNormal (create_table_of t)
unfolding create_table_of
table_normal t normal = normal

publication_normal : (p : Publication) → IsNormalPublication (publication_rule p) → IsNormal (create_publication_of p)
unfolding create_publication_of
publication_normal p normal = normal

subscription_normal : (s : Subscription) → IsNormalSubscription (subscription_rule s) → IsNormal (create_subscription_of s)
unfolding create_subscription_of
subscription_normal s normal = normal

start_normal : (s : Subscription) → IsNormalSubscription (subscription_rule s) → IsNormal (start_of s)
unfolding start_of
start_normal s normal = normal

option_free : (k : Keyword) → IsKeyword verify_all_columns k → named k ≡ Some verify_all_columns
option_free key.Create e = absurd cc
option_free _ e = absurd cc

verifies_normal : IsNormalOption verifies_rule
unfolding encode
verifies_normal = (record { written = refl; free = option_free }, ((codes "On", (refl, refl)), refl))

options_normal : (o : Options) → AllByRecursion IsNormal (set_options_of o)
options_normal o = elim o.verifies as (λ (b : Bool). AllByRecursion IsNormal (cond b (stmt.SetOption verifies_rule ∷ []) [])) [
  | true ↦ (verifies_normal, tt)
  | false ↦ tt
]

pub script_normal : (c : Lists) → IsSpellable c → AllByRecursion IsNormal (statements c)
script_normal c spelled =
    let each = each_of c spelled in
    let started = AllByRecursion-filter (λ s. IsNormalSubscription (subscription_rule s)) (λ s. s.started) c.subscriptions each.subscriptions in
    joined IsNormal (map grant_of c.users) _ (AllByRecursion-map IsNormal grant_of c.users (AllByRecursion-step _ _ grant_normal c.users each.users))
    (joined IsNormal (map create_table_of c.tables) _ (AllByRecursion-map IsNormal create_table_of c.tables (AllByRecursion-step _ _ table_normal c.tables each.tables))
    (joined IsNormal (map create_publication_of c.publications) _
    (AllByRecursion-map IsNormal create_publication_of c.publications (AllByRecursion-step _ _ publication_normal c.publications each.publications))
    (joined IsNormal (map trigger_stmt c.triggers) _ (AllByRecursion-map IsNormal trigger_stmt c.triggers each.triggers)
    (joined IsNormal (map create_subscription_of c.subscriptions) _
    (AllByRecursion-map IsNormal create_subscription_of c.subscriptions (AllByRecursion-step _ _ subscription_normal c.subscriptions each.subscriptions))
    (joined IsNormal (map start_of (filter (λ s. s.started) c.subscriptions)) _
    (AllByRecursion-map IsNormal start_of (filter (λ s. s.started) c.subscriptions) (AllByRecursion-step _ _ start_normal (filter (λ s. s.started) c.subscriptions) started))
    (options_normal c.options))))))

-- they make it again
pub script_again : (c : Lists) → IsSpellable c → replayed (nothing_but c.publisher) (statements c) ≡ Some c
script_again c spelled = again c spelled.made

-- ---- such catalogs

-- a new one is one
pub new_spelled : (publisher : List ℕ) → IsSpellable (nothing_but publisher)
new_spelled publisher = record { made = record { history = []; makes = refl }; normal = tt }

-- an accepted statement in normal form makes such a catalog of it
pub still_spelled : (c : Lists) (s : Stmt) → IsSpellable c → IsNormal s → refusal c s ≡ None → IsSpellable (next c s)
still_spelled c s spelled normal accepted = record {
  made = record { history = spelled.made.history ++ s ∷ []; makes = makes_next c spelled.made.history s spelled.made.makes accepted };
  normal = AllByRecursion-append IsNormal spelled.made.history s spelled.normal normal;
}

-- what is the catalog after an accepted statement in normal form is one
pub spelled_after : (c after : Lists) (s : Stmt) → refusal c s ≡ None → IsNormal s → after ≡ next c s → IsSpellable c → IsSpellable after
spelled_after c after s accepted normal is spelled = subst (λ (x : Lists). IsSpellable x) (sym is) (still_spelled c s spelled normal accepted)
