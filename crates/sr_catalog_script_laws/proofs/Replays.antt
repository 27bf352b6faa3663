-- Statements one after the other: each kind's are accepted and make it, in order.
use Rattle.std.proofs.Common.{◌≡◌, Bool, true, false, cond, List, [], ◌∷◌, ◌++◌, map, Option, Some, None, refl, ap, sym, ◌∙◌, subst, filter, append_assoc, append-nil}
use Rattle.std.specs.List.{list_any, AllByRecursion}
use Rattle.std.proofs.lemmas.Bool.{or_parts, or_left, or_right}
use Rattle.std.proofs.lemmas.List.{map-append}
use Rattle.std.proofs.lemmas.List.Folds.{list_any-append}
use Rattle.std.proofs.lemmas.Option.{same_Some}
use Rattle.sr_ast.specs.declared.create.SubscriptionRule.{SubscriptionRule}
use Rattle.sr_ast.specs.declared.stmt.Stmt.{Stmt}
use Rattle.sr_ast.specs.declared.stmt.Stmt.TheVariants as stmt
use Rattle.sr_catalog_schema.specs.Catalogs.{Lists, nothing_but, unset}
use Rattle.sr_catalog_schema.specs.Causes.{first_fault}
use Rattle.sr_catalog_change.specs.Changes.{refusal, next}
use Rattle.sr_catalog_script_laws.specs.Scripts.{grant_of, create_table_of, create_publication_of, trigger_stmt, create_subscription_of, start_of, subscription_rule, verifies_rule, statements, unless_refused, replayed}
use Rattle.sr_catalog_ddl.specs.Options.{set_option_causes}
use Rattle.sr_catalog_ddl.specs.Subscriptions.{is_of, is_there, twice_subscribed, start_causes, marked, subscription_of}
use Rattle.sr_catalog_schema.specs.declared.fault.DdlFault.{DdlFault}
use Rattle.sr_catalog_schema.specs.declared.user.User.{User}
use Rattle.sr_catalog_schema.specs.declared.table.Table.{Table}
use Rattle.sr_catalog_schema.specs.declared.publication.Publication.{Publication}
use Rattle.sr_catalog_schema.specs.declared.trigger.Trigger.{Trigger}
use Rattle.sr_catalog_schema.specs.declared.subscription.Subscription.{Subscription}
use Rattle.sr_catalog_script_laws.proofs.ReplayLists.{InOrder-with, none_passes, AllByRecursion-step, AllByRecursion-map}
use Rattle.sr_catalog_script_laws.proofs.ReplayPublications.{publication_again, publication_next}
use Rattle.sr_catalog_script_laws.proofs.ReplayStarts.{twice_from_free}
use Rattle.sr_catalog_script_laws.proofs.ReplaySubscriptions.{is_of_itself, is_of_other, there_by_rules, CanBe, subscription_can_be, subscription_again, subscription_next}
use Rattle.sr_catalog_script_laws.proofs.ReplayTables.{table_again, table_next}
use Rattle.sr_catalog_script_laws.proofs.ReplayTriggers.{trigger_again, trigger_next}
use Rattle.sr_catalog_script_laws.proofs.ReplayUsers.{user_again, user_next}
use Rattle.sr_catalog_script_laws.proofs.Standing.{InOrder, HasRoom, UserStands, TableStands, PublicationStands, TriggerStands, SubscriptionStands, IsOneMore, IsFree, Stands}

-- ---- one statement, and the others

pub replayed-cons : (c d : Lists) (s : Stmt) (ss : List Stmt) → refusal c s ≡ None → next c s ≡ d → replayed c (s ∷ ss) ≡ replayed d ss
replayed-cons c d s ss accepted makes =
    ap (λ (o : Option DdlFault). unless_refused o (replayed (next c s) ss)) accepted ∙ ap (λ (x : Lists). replayed x ss) makes

replayed_first : (o : Option DdlFault) (c : Lists) (ss ts : List Stmt) (d : Lists) → (replayed c ss ≡ Some d → replayed c (ss ++ ts) ≡ replayed d ts)
    → unless_refused o (replayed c ss) ≡ Some d → unless_refused o (replayed c (ss ++ ts)) ≡ replayed d ts
replayed_first None c ss ts d rest h = rest h
replayed_first (Some f) c ss ts d rest h = absurd (cc)

-- further statements go on where the first ones end
pub replayed-append : (c d : Lists) (ss ts : List Stmt) → replayed c ss ≡ Some d → replayed c (ss ++ ts) ≡ replayed d ts
replayed-append c d [] ts h = ap (λ (x : Lists). replayed x ts) (same_Some c d h)
replayed-append c d (s ∷ ss) ts h = replayed_first (refusal c s) (next c s) ss ts d (replayed-append (next c s) d ss ts) h

-- the statements of things in order, where each is accepted behind those before it and makes it
in_order : {A : Type 0} (stmt_of : A → Stmt) (at : List A → Lists) (P : List A → A → Type 0)
    → ((before : List A) (x : A) → P before x → (refusal (at before) (stmt_of x) ≡ None) × (next (at before) (stmt_of x) ≡ at (before ++ x ∷ [])))
    → (before xs : List A) → InOrder P before xs → replayed (at before) (map stmt_of xs) ≡ Some (at (before ++ xs))
in_order stmt_of at P step before [] all = ap (λ (l : List _). Some (at l)) (sym (append-nil before))
in_order stmt_of at P step before (x ∷ xs) (first, rest) =
    let one = step before x first in
    replayed-cons (at before) (at (before ++ x ∷ [])) (stmt_of x) (map stmt_of xs) one.0 one.1
    ∙ (in_order stmt_of at P step (before ++ x ∷ []) xs rest ∙ ap (λ (l : List _). Some (at l)) (append_assoc before (x ∷ []) xs))

-- ---- the catalog as each kind comes

abbrev with_users : Lists → List User → Lists
with_users c users = record (nothing_but c.publisher) { users = users }

abbrev with_tables : Lists → List Table → Lists
with_tables c tables = record (nothing_but c.publisher) { users = c.users; tables = tables }

abbrev with_publications : Lists → List Publication → Lists
with_publications c publications = record (nothing_but c.publisher) { users = c.users; tables = c.tables; publications = publications }

abbrev with_triggers : Lists → List Trigger → Lists
with_triggers c triggers = record c { triggers = triggers; subscriptions = []; options = unset }

abbrev with_subscriptions : Lists → List Subscription → Lists
with_subscriptions c subscriptions = record c { subscriptions = subscriptions; options = unset }

abbrev with_rules : Lists → List SubscriptionRule → Lists
with_rules c rules = record c { subscriptions = map subscription_of rules; options = unset }

-- all but the options
abbrev without_options : Lists → Lists
without_options c = record c { options = unset }

replay_users : (c : Lists) → Stands c → replayed (nothing_but c.publisher) (map grant_of c.users) ≡ Some (with_users c c.users)
replay_users c stands =
    in_order grant_of (with_users c) (UserStands c.publisher)
    (λ before u one. (user_again (with_users c before) u one, user_next (with_users c before) u one)) [] c.users stands.users

replay_tables : (c : Lists) → Stands c → replayed (with_users c c.users) (map create_table_of c.tables) ≡ Some (with_tables c c.tables)
replay_tables c stands =
    in_order create_table_of (with_tables c) (λ before t. HasRoom _ 256 before t × TableStands t)
    (λ before t both. (table_again (with_tables c before) t both.0 both.1, table_next (with_tables c before) t both.1)) [] c.tables
    (InOrder-with _ _ [] c.tables stands.tables stands.each_table)

replay_publications : (c : Lists) → Stands c → replayed (with_tables c c.tables) (map create_publication_of c.publications) ≡ Some (with_publications c c.publications)
replay_publications c stands =
    in_order create_publication_of (with_publications c) (λ before p. HasRoom _ 256 before p × PublicationStands c.tables p)
    (λ before p both. (publication_again (with_publications c before) p both.0 both.1, publication_next (with_publications c before) p both.1)) [] c.publications
    (InOrder-with _ _ [] c.publications stands.publications stands.each_publication)

replay_triggers : (c : Lists) → Stands c → replayed (with_publications c c.publications) (map trigger_stmt c.triggers) ≡ Some (with_triggers c c.triggers)
replay_triggers c stands =
    in_order trigger_stmt (with_triggers c) (λ before t. HasRoom _ 1024 before t × TriggerStands c.tables t)
    (λ before t both. (trigger_again (with_triggers c before) t both.0 both.1, trigger_next (with_triggers c before) t both.1)) [] c.triggers
    (InOrder-with _ _ [] c.triggers stands.triggers stands.each_trigger)

by_rules : (ss : List Subscription) → map create_subscription_of ss ≡ map (λ r. stmt.CreateSubscription r) (map subscription_rule ss)
unfolding create_subscription_of
by_rules [] = refl
by_rules (s ∷ ss) = ap (λ (rest : List Stmt). stmt.CreateSubscription (subscription_rule s) ∷ rest) (by_rules ss)

replay_rules : (c : Lists) → Stands c → replayed (with_triggers c c.triggers) (map create_subscription_of c.subscriptions) ≡ Some (with_rules c (map subscription_rule c.subscriptions))
replay_rules c stands =
    ap (replayed (with_triggers c c.triggers)) (by_rules c.subscriptions)
    ∙ in_order (λ r. stmt.CreateSubscription r) (with_rules c) (λ before r. IsOneMore before r × SubscriptionStands c.users c.tables c.publications r)
    (λ before r both. (
      subscription_again (with_rules c before) before r refl both.0 both.1,
      subscription_next (with_rules c before) r ∙ ap (with_subscriptions c) (sym (map-append subscription_of before (r ∷ []))),
    )) [] (map subscription_rule c.subscriptions)
    (InOrder-with _ _ [] (map subscription_rule c.subscriptions) stands.subscriptions stands.each_subscription)

-- ---- the starts

start_accepted : (c : Lists) (r : SubscriptionRule) → CanBe c r → is_there c r ≡ true → twice_subscribed c r ≡ None → refusal c (stmt.StartSubscription r) ≡ None
unfolding refusal first_fault start_causes
start_accepted c r can there once = rw (can.publication, can.user, there, once) refl

-- a subscription before its start
abbrev stopped : Subscription → Subscription
stopped s = subscription_of (subscription_rule s)

abbrev started_is : Bool → Subscription → Subscription
started_is started s = record s { started = started }

all_prefix : {A : Type 0} (P : A → Type 0) (xs ys : List A) → AllByRecursion P (xs ++ ys) → AllByRecursion P xs
all_prefix P [] ys all = tt
all_prefix P (x ∷ xs) ys (first, rest) = (first, all_prefix P xs ys rest)

all_join : {A : Type 0} (P : A → Type 0) (xs ys : List A) → AllByRecursion P xs → AllByRecursion P ys → AllByRecursion P (xs ++ ys)
all_join P [] ys all others = others
all_join P (x ∷ xs) ys (first, rest) others = (first, all_join P xs ys rest others)

map_same : {A : Type 0} (f : A → A) (xs : List A) → AllByRecursion (λ x. f x ≡ x) xs → map f xs ≡ xs
map_same f [] all = refl
map_same f (x ∷ xs) (first, rest) = cc (map_same f xs rest)

unmarked : (r : SubscriptionRule) (s : Subscription) → is_of r s ≡ false → marked true r s ≡ s
unmarked r s other = ap (λ (b : Bool). cond b (started_is true s) s) other

free_before : (publications : List Publication) (r : SubscriptionRule) (ss : List Subscription) → IsFree publications r (map stopped ss)
free_before publications r [] = tt
free_before publications r (s ∷ ss) = ((λ h. absurd (cc)), free_before publications r ss)

-- those behind a subscription are not of it
later_others : (s : Subscription) (before : List SubscriptionRule) (rest : List Subscription)
    → ((r : SubscriptionRule) → list_any (is_of r) (map subscription_of before) ≡ false → is_of r s ≡ false)
    → InOrder IsOneMore before (map subscription_rule rest) → AllByRecursion (λ t. is_of (subscription_rule t) s ≡ false) rest
later_others s before [] apart all = tt
later_others s before (t ∷ rest) apart (first, others) = (
  apart (subscription_rule t) first.is_new,
  later_others s (before ++ subscription_rule t ∷ []) rest (λ r none.
      let e : list_any (is_of r) (map subscription_of before ++ subscription_of (subscription_rule t) ∷ []) ≡ false = ap (list_any (is_of r)) (sym (map-append subscription_of before (subscription_rule t ∷ []))) ∙ none in
      apart r (or_parts (list_any (is_of r) (map subscription_of before)) _ (sym (list_any-append (is_of r) (map subscription_of before) (subscription_of (subscription_rule t) ∷ [])) ∙ e)).0) others,
)

-- START of a subscription marks it alone
marks_one : (before rest : List Subscription) (s : Subscription) → s.started ≡ true → AllByRecursion (λ t. is_of (subscription_rule s) t ≡ false) before
    → AllByRecursion (λ t. is_of (subscription_rule s) t ≡ false) rest
    → map (marked true (subscription_rule s)) (before ++ map stopped (s ∷ rest)) ≡ (before ++ s ∷ []) ++ map stopped rest
marks_one before rest s started first others =
    let r = subscription_rule s in
    let a : map (marked true r) before ≡ before = map_same (marked true r) before (AllByRecursion-step _ _ (λ t h. unmarked r t h) before first) in
    let b : marked true r (stopped s) ≡ s = ap (λ (x : Bool). cond x (started_is true s) (stopped s)) (is_of_itself s) ∙ ap (λ (x : Bool). started_is x s) (sym started) in
    let d : map (marked true r) (map stopped rest) ≡ map stopped rest =
    map_same (marked true r) (map stopped rest) (AllByRecursion-map _ stopped rest (AllByRecursion-step _ _ (λ t h. unmarked r (stopped t) h) rest others)) in
    map-append (marked true r) before (map stopped (s ∷ rest))
    ∙ (rw (a, b, d) (sym (append_assoc before (s ∷ []) (map stopped rest))))

one_more : (before rest : List Subscription) (s t : Subscription) → t ≡ s → before ++ t ∷ rest ≡ (before ++ s ∷ []) ++ rest
one_more before rest s t same = ap (λ (x : Subscription). before ++ x ∷ rest) same ∙ sym (append_assoc before (s ∷ []) rest)

started_or_not : (c : Lists) (b : Bool) (s : Subscription) (before rest : List Subscription) → s.started ≡ b
    → c.subscriptions ≡ before ++ s ∷ rest
    → InOrder IsOneMore (map subscription_rule before) (map subscription_rule (s ∷ rest))
    → SubscriptionStands c.users c.tables c.publications (subscription_rule s)
    → (s.started ≡ true → IsFree c.publications (subscription_rule s) c.subscriptions)
    → replayed (with_subscriptions c ((before ++ s ∷ []) ++ map stopped rest)) (map start_of (filter (λ t. t.started) rest)) ≡ Some (without_options c)
    → replayed (with_subscriptions c (before ++ map stopped (s ∷ rest))) (map start_of (cond b (s ∷ filter (λ t. t.started) rest) (filter (λ t. t.started) rest))) ≡ Some (without_options c)
unfolding start_of next
started_or_not c true s before rest started are (first, others) stands alone goes_on =
    let r = subscription_rule s in
    let d : Lists = with_subscriptions c (before ++ map stopped (s ∷ rest)) in
    let can : CanBe d r = let found = subscription_can_be c.users c.tables c.publications r stands in record { publication = found.publication; user = found.user } in
    let there : is_there d r ≡ true = list_any-append (is_of r) before (map stopped (s ∷ rest)) ∙ or_right (list_any (is_of r) before) _ (or_left (is_of r s) _ (is_of_itself s)) in
    let free : IsFree c.publications r before = all_prefix _ before (s ∷ rest) (subst (λ (ss : List Subscription). IsFree c.publications r ss) are (alone started)) in
    let once : twice_subscribed d r ≡ None = twice_from_free d r (all_join _ before (map stopped (s ∷ rest)) free (free_before c.publications r (s ∷ rest))) in
    let apart = none_passes (is_of r) before (sym (there_by_rules r before) ∙ first.is_new) in
    let later = later_others s (map subscription_rule before ++ r ∷ []) rest (λ q none.
    let e : list_any (is_of q) (map subscription_of (map subscription_rule before) ++ stopped s ∷ []) ≡ false = ap (list_any (is_of q)) (sym (map-append subscription_of (map subscription_rule before) (r ∷ []))) ∙ none in
    let behind = or_parts (list_any (is_of q) (map subscription_of (map subscription_rule before))) _ (sym (list_any-append (is_of q) (map subscription_of (map subscription_rule before)) (stopped s ∷ [])) ∙ e) in
    (or_parts (is_of q s) false behind.1).0) others in
    replayed-cons d (with_subscriptions c ((before ++ s ∷ []) ++ map stopped rest)) (start_of s) (map start_of (filter (λ t. t.started) rest)) (start_accepted d r can there once)
    (ap (with_subscriptions c) (marks_one before rest s started apart (AllByRecursion-step _ _ (λ t h. is_of_other t s h) rest later)))
    ∙ goes_on
started_or_not c false s before rest not_yet are order stands alone goes_on =
    let same : stopped s ≡ s = ap (λ (x : Bool). started_is x s) (sym not_yet) in
    ap (λ (ss : List Subscription). replayed (with_subscriptions c ss) (map start_of (filter (λ t. t.started) rest))) (one_more before (map stopped rest) s (stopped s) same)
    ∙ goes_on

replay_starts_behind : (c : Lists) (before rest : List Subscription) → c.subscriptions ≡ before ++ rest
    → InOrder IsOneMore (map subscription_rule before) (map subscription_rule rest)
    → AllByRecursion (SubscriptionStands c.users c.tables c.publications) (map subscription_rule rest)
    → AllByRecursion (λ s. s.started ≡ true → IsFree c.publications (subscription_rule s) c.subscriptions) rest
    → replayed (with_subscriptions c (before ++ map stopped rest)) (map start_of (filter (λ s. s.started) rest)) ≡ Some (without_options c)
replay_starts_behind c before [] are order each alone = ap (λ (ss : List Subscription). Some (with_subscriptions c ss)) (sym are)
replay_starts_behind c before (s ∷ rest) are (first, others) (one, each) (apart, alone) =
    started_or_not c s.started s before rest refl are (first, others) one apart
    (replay_starts_behind c (before ++ s ∷ []) rest (are ∙ sym (append_assoc before (s ∷ []) rest))
    (subst (λ (rules : List SubscriptionRule). InOrder IsOneMore rules (map subscription_rule rest)) (sym (map-append subscription_rule before (s ∷ []))) others) each alone)

all_stopped : (ss : List Subscription) → map subscription_of (map subscription_rule ss) ≡ map stopped ss
all_stopped [] = refl
all_stopped (s ∷ ss) = ap (λ (rest : List Subscription). stopped s ∷ rest) (all_stopped ss)

replay_starts : (c : Lists) → Stands c → replayed (with_rules c (map subscription_rule c.subscriptions)) (map start_of (filter (λ s. s.started) c.subscriptions)) ≡ Some (without_options c)
replay_starts c stands =
    ap (λ (ss : List Subscription). replayed (with_subscriptions c ss) (map start_of (filter (λ s. s.started) c.subscriptions))) (all_stopped c.subscriptions)
    ∙ replay_starts_behind c [] c.subscriptions refl stands.subscriptions stands.each_subscription stands.starts

-- ---- the options

verifies_accepted : (c : Lists) → refusal c (stmt.SetOption verifies_rule) ≡ None
unfolding refusal first_fault set_option_causes
verifies_accepted c = refl

abbrev with_verifies : Lists → Bool → Lists
with_verifies c verifies = record c { options = record { verifies = verifies } }

replay_options : (c : Lists) (verifies : Bool) → c.options.verifies ≡ verifies → replayed (without_options c) (cond verifies (stmt.SetOption verifies_rule ∷ []) []) ≡ Some c
unfolding next
replay_options c true e =
    replayed-cons (without_options c) (with_verifies c true) (stmt.SetOption verifies_rule) [] (verifies_accepted (without_options c)) refl
    ∙ ap (λ (b : Bool). Some (with_verifies c b)) (sym e)
replay_options c false e = ap (λ (b : Bool). Some (with_verifies c b)) (sym e)

-- ---- all of them

-- a catalog that stands is made again by its statements
pub made_again : (c : Lists) → Stands c → replayed (nothing_but c.publisher) (statements c) ≡ Some c
made_again c stands =
    replayed-append (nothing_but c.publisher) (with_users c c.users) (map grant_of c.users) _ (replay_users c stands)
    ∙ (replayed-append (with_users c c.users) (with_tables c c.tables) (map create_table_of c.tables) _ (replay_tables c stands)
    ∙ (replayed-append (with_tables c c.tables) (with_publications c c.publications) (map create_publication_of c.publications) _ (replay_publications c stands)
    ∙ (replayed-append (with_publications c c.publications) (with_triggers c c.triggers) (map trigger_stmt c.triggers) _ (replay_triggers c stands)
    ∙ (replayed-append (with_triggers c c.triggers) (with_rules c (map subscription_rule c.subscriptions)) (map create_subscription_of c.subscriptions) _ (replay_rules c stands)
    ∙ (replayed-append (with_rules c (map subscription_rule c.subscriptions)) (without_options c) (map start_of (filter (λ s. s.started) c.subscriptions)) _ (replay_starts c stands)
    ∙ replay_options c c.options.verifies refl)))))
