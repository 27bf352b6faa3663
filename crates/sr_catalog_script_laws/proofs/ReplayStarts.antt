-- Started subscriptions: no two of one user bring one table, so each START is accepted again.
use Rattle.std.proofs.Common.{◌≡◌, ◌⊎◌, inl, inr, ℕ, Bool, true, false, cond, List, [], ◌∷◌, ◌++◌, map, Option, None, refl, ap, sym, ◌∙◌, subst, filter}
use Rattle.std.specs.Prelude.{bytes_eq, not}
use Rattle.std.specs.List.{list_any, AllByRecursion}
use Rattle.std.proofs.lemmas.Bool.{and_parts, and_from, not-true, not_from_false, or_left, or_right, or_parts, or_cases, false_from_ne_true}
use Rattle.std.proofs.lemmas.Slice.Eq.{bytes_eq-Decides}
use Rattle.sr_ast.specs.declared.create.SubscriptionRule.{SubscriptionRule}
use Rattle.sr_catalog_schema.specs.Catalogs.{Lists}
use Rattle.sr_catalog_schema.specs.Firsts.{where_true, first_among}
use Rattle.sr_catalog_schema.specs.Names.{named}
use Rattle.sr_catalog_schema.specs.Members.{publication_name}
use Rattle.sr_catalog_script_laws.specs.Scripts.{subscription_rule}
use Rattle.sr_catalog_ddl.specs.Subscriptions.{is_of, articles_in, has_article, is_elsewhere, twice_subscribed, marked}
use Rattle.sr_catalog_schema.specs.declared.publication.Publication.{Publication}
use Rattle.sr_catalog_schema.specs.declared.publication.Article.{Article}
use Rattle.sr_catalog_schema.specs.declared.subscription.Subscription.{Subscription}
use Rattle.sr_catalog_script_laws.proofs.ReplayCauses.{where_true-None, first_of-None}
use Rattle.sr_catalog_script_laws.proofs.ReplayLists.{AllByRecursion-step, AllByRecursion-both, AllByRecursion-append, AllByRecursion-map, AllByRecursion-filter}
use Rattle.sr_catalog_script_laws.proofs.ReplaySubscriptions.{is_of_same}
use Rattle.sr_catalog_script_laws.proofs.Standing.{Clash, IsFree}

-- ---- clashes

pub bytes_eq-turned : (a b : List ℕ) → bytes_eq a b ≡ false → bytes_eq b a ≡ false
bytes_eq-turned a b h = false_from_ne_true _ (λ e.
    let same : b ≡ a = (bytes_eq-Decides b a).0 e in
    let is : bytes_eq a b ≡ true = (bytes_eq-Decides a b).1 (sym same) in
    absurd (cc))

Clash-turned : (publications : List Publication) (r s : SubscriptionRule) → Clash publications r s → Clash publications s r
Clash-turned publications r s clash = record {
  one_user = sym clash.one_user;
  two_publications = bytes_eq-turned r.publication s.publication clash.two_publications;
  table = clash.table;
  here = clash.there;
  there = clash.here;
}

-- a subscription does not clash with itself
Clash-itself : (publications : List Publication) (r : SubscriptionRule) → Clash publications r r → ⊥
Clash-itself publications r clash =
    let is : bytes_eq r.publication r.publication ≡ true = (bytes_eq-Decides r.publication r.publication).1 refl in
    let no = clash.two_publications in
    absurd (cc)

-- ---- what START is refused for

-- a test over the table of an article, for each table that an article has
at_each_table : (f : List ℕ → Bool) (articles : List Article) → first_among (λ a. where_true (f a.table) a.table) articles ≡ None
    → (table : List ℕ) → list_any (λ a. bytes_eq table a.table) articles ≡ true → f table ≡ false
at_each_table f [] h table there = absurd (cc)
at_each_table f (a ∷ articles) h table there =
    let parts = first_of-None (where_true (f a.table) a.table) _ h in
    elim (or_cases (bytes_eq table a.table) (list_any (λ (b : Article). bytes_eq table b.table) articles) there) as (λ _. f table ≡ false) [
      | inl e ↦ ap f ((bytes_eq-Decides table a.table).0 e) ∙ where_true-None _ _ parts.0
      | inr e ↦ at_each_table f articles parts.1 table e
    ]

is_clash : (c : Lists) (r : SubscriptionRule) (s : Subscription) (started : s.started ≡ true) (clash : Clash c.publications r (subscription_rule s)) → is_elsewhere c r clash.table s ≡ true
is_clash c r s started clash =
    and_from _ _ started (and_from _ _ ((bytes_eq-Decides r.user s.user).1 clash.one_user) (and_from _ _ (not_from_false _ clash.two_publications) clash.there))

free_among : (c : Lists) (r : SubscriptionRule) (ss : List Subscription)
    → ((table : List ℕ) → has_article (named publication_name r.publication c.publications) table ≡ true → list_any (is_elsewhere c r table) ss ≡ false) → IsFree c.publications r ss
free_among c r [] h = tt
free_among c r (s ∷ ss) h = (
  (λ started clash.
      let parts = or_parts (is_elsewhere c r clash.table s) (list_any (is_elsewhere c r clash.table) ss) (h clash.table clash.here) in
      let yes = is_clash c r s started clash in
      absurd (cc (parts.0, yes))),
  free_among c r ss (λ table there. (or_parts (is_elsewhere c r table s) (list_any (is_elsewhere c r table) ss) (h table there)).1),
)

pub free_from_twice : (c : Lists) (r : SubscriptionRule) → twice_subscribed c r ≡ None → IsFree c.publications r c.subscriptions
unfolding twice_subscribed
free_from_twice c r h = free_among c r c.subscriptions (at_each_table (λ table. list_any (is_elsewhere c r table) c.subscriptions) (articles_in c r) h)

-- the converse
clash_of : (c : Lists) (r : SubscriptionRule) (table : List ℕ) (s : Subscription) → has_article (named publication_name r.publication c.publications) table ≡ true → is_elsewhere c r table s ≡ true
    → (s.started ≡ true) × Clash c.publications r (subscription_rule s)
clash_of c r table s here h =
    let a = and_parts s.started _ h in
    let b = and_parts (bytes_eq r.user s.user) _ a.1 in
    let d = and_parts (not (bytes_eq r.publication s.publication)) (has_article (named publication_name s.publication c.publications) table) b.1 in (
      a.0,
      record {
        one_user = (bytes_eq-Decides r.user s.user).0 b.0;
        two_publications = not-true _ d.0;
        table = table;
        here = here;
        there = d.1;
      },
    )

none_elsewhere : (c : Lists) (r : SubscriptionRule) (table : List ℕ) (ss : List Subscription) → has_article (named publication_name r.publication c.publications) table ≡ true
    → IsFree c.publications r ss → list_any (is_elsewhere c r table) ss ≡ false
none_elsewhere c r table [] here free = refl
none_elsewhere c r table (s ∷ ss) here (first, rest) =
    let no : is_elsewhere c r table s ≡ false = false_from_ne_true _ (λ h. let both = clash_of c r table s here h in first both.0 both.1) in
    rw no (none_elsewhere c r table ss here rest)

first_where_none : (f : List ℕ → Bool) (articles : List Article) → AllByRecursion (λ a. f a.table ≡ false) articles → first_among (λ a. where_true (f a.table) a.table) articles ≡ None
first_where_none f [] all = refl
first_where_none f (a ∷ articles) (first, rest) = rw first (first_where_none f articles rest)

-- each article's table is among theirs
has_each : (articles : List Article) → AllByRecursion (λ a. list_any (λ b. bytes_eq a.table b.table) articles ≡ true) articles
has_each [] = tt
has_each (a ∷ articles) = (
  or_left _ _ ((bytes_eq-Decides a.table a.table).1 refl),
  AllByRecursion-step _ _ (λ b h. or_right (bytes_eq b.table a.table) _ h) articles (has_each articles),
)

pub twice_from_free : (c : Lists) (r : SubscriptionRule) → IsFree c.publications r c.subscriptions → twice_subscribed c r ≡ None
unfolding twice_subscribed
twice_from_free c r free =
    first_where_none (λ table. list_any (is_elsewhere c r table) c.subscriptions) (articles_in c r)
    (AllByRecursion-step _ _ (λ a here. none_elsewhere c r a.table c.subscriptions here free) (articles_in c r) (has_each (articles_in c r)))

-- ---- no two clash

-- no two started subscriptions clash
abbrev pub NoTwo : List Publication → List Subscription → Type 0
NoTwo publications ss = AllByRecursion (λ s. s.started ≡ true → IsFree publications (subscription_rule s) ss) ss

abbrev started_is : Bool → Subscription → Subscription
started_is started s = record s { started = started }

marked_rule : (started : Bool) (r : SubscriptionRule) (s : Subscription) → subscription_rule (marked started r s) ≡ subscription_rule s
marked_rule started r s = elim (is_of r s) as (λ b. subscription_rule (cond b (record s { started = started }) s) ≡ subscription_rule s) [
  | true ↦ refl
  | false ↦ refl
]

pub marked_rules : (started : Bool) (r : SubscriptionRule) (ss : List Subscription) → map subscription_rule (map (marked started r) ss) ≡ map subscription_rule ss
marked_rules started r [] = refl
marked_rules started r (s ∷ ss) = cc (marked_rule started r s, marked_rules started r ss)

-- started by START: before, or now
started_by : (r : SubscriptionRule) (s : Subscription) → (marked true r s).started ≡ true → (s.started ≡ true) ⊎ (r ≡ subscription_rule s)
started_by r s = elim (is_of r s) as (λ b. is_of r s ≡ b → (cond b (record s { started = true }) s).started ≡ true → (s.started ≡ true) ⊎ (r ≡ subscription_rule s)) [
  | true ↦ λ e h. inr (is_of_same r s e)
  | false ↦ λ e h. inl h
] refl

started_still : (r : SubscriptionRule) (s : Subscription) → (marked false r s).started ≡ true → s.started ≡ true
started_still r s = elim (is_of r s) as (λ b. (cond b (record s { started = false }) s).started ≡ true → s.started ≡ true) [
  | true ↦ λ h. absurd (cc)
  | false ↦ λ h. h
]

Clash-at : (publications : List Publication) (r s : SubscriptionRule) (q t : SubscriptionRule) → r ≡ q → s ≡ t → Clash publications r s → Clash publications q t
Clash-at publications r s q t e f clash = subst (λ (x : SubscriptionRule). Clash publications q x) f (subst (λ (x : SubscriptionRule). Clash publications x s) e clash)

-- a subscription that was started, after START of another
free_after : (publications : List Publication) (r : SubscriptionRule) (s : Subscription) (ss : List Subscription) → (Clash publications r (subscription_rule s) → ⊥)
    → IsFree publications (subscription_rule s) ss → IsFree publications (subscription_rule s) (map (marked true r) ss)
free_after publications r s ss apart free =
    AllByRecursion-map _ (marked true r) ss (AllByRecursion-step _ _ (λ t alone started clash.
    let there : Clash publications (subscription_rule s) (subscription_rule t) = Clash-at publications _ _ _ _ refl (marked_rule true r t) clash in
    elim (started_by r t started) as (λ _. ⊥) [
      | inl e ↦ alone e there
      | inr e ↦ apart (Clash-turned publications _ _ (Clash-at publications _ _ _ _ refl (sym e) there))
    ]) ss free)

-- the one that START starts
free_now : (publications : List Publication) (r : SubscriptionRule) (ss : List Subscription) → IsFree publications r ss → IsFree publications r (map (marked true r) ss)
free_now publications r ss free =
    AllByRecursion-map _ (marked true r) ss (AllByRecursion-step _ _ (λ t alone started clash.
    let there : Clash publications r (subscription_rule t) = Clash-at publications _ _ _ _ refl (marked_rule true r t) clash in
    elim (started_by r t started) as (λ _. ⊥) [
      | inl e ↦ alone e there
      | inr e ↦ Clash-itself publications r (Clash-at publications _ _ _ _ refl (sym e) there)
    ]) ss free)

pub NoTwo-started : (publications : List Publication) (r : SubscriptionRule) (ss : List Subscription) → IsFree publications r ss → NoTwo publications ss → NoTwo publications (map (marked true r) ss)
NoTwo-started publications r ss free two =
    AllByRecursion-map _ (marked true r) ss (AllByRecursion-both _ _ _ (λ s alone apart started.
    let goal : IsFree publications (subscription_rule s) (map (marked true r) ss) = elim (started_by r s started) as (λ _. IsFree publications (subscription_rule s) (map (marked true r) ss)) [
      | inl e ↦ free_after publications r s ss (apart e) (alone e)
      | inr e ↦ subst (λ (q : SubscriptionRule). IsFree publications q (map (marked true r) ss)) e (free_now publications r ss free)
    ] in
    subst (λ (q : SubscriptionRule). IsFree publications q (map (marked true r) ss)) (sym (marked_rule true r s)) goal) ss two free)

pub NoTwo-stopped : (publications : List Publication) (r : SubscriptionRule) (ss : List Subscription) → NoTwo publications ss → NoTwo publications (map (marked false r) ss)
NoTwo-stopped publications r ss two =
    AllByRecursion-map _ (marked false r) ss (AllByRecursion-step _ _ (λ s alone started.
    let goal : IsFree publications (subscription_rule s) (map (marked false r) ss) =
    AllByRecursion-map _ (marked false r) ss (AllByRecursion-step _ _ (λ t apart still clash.
    apart (started_still r t still) (Clash-at publications _ _ _ _ refl (marked_rule false r t) clash)) ss (alone (started_still r s started))) in
    subst (λ (q : SubscriptionRule). IsFree publications q (map (marked false r) ss)) (sym (marked_rule false r s)) goal) ss two)

-- one more that is not started
pub NoTwo-more : (publications : List Publication) (ss : List Subscription) (s : Subscription) → s.started ≡ false → NoTwo publications ss → NoTwo publications (ss ++ s ∷ [])
NoTwo-more publications ss s not_yet two =
    AllByRecursion-append _ ss s
    (AllByRecursion-step _ _ (λ t alone started. AllByRecursion-append _ ss s (alone started) (λ h clash. absurd (cc))) ss two)
    (λ h. absurd (cc))

pub NoTwo-fewer : (publications : List Publication) (keep : Subscription → Bool) (ss : List Subscription) → NoTwo publications ss → NoTwo publications (filter keep ss)
NoTwo-fewer publications keep ss two =
    AllByRecursion-filter _ keep ss (AllByRecursion-step _ _ (λ s alone started. AllByRecursion-filter _ keep ss (alone started)) ss two)

-- over other publications with the same under their names
pub NoTwo-moved : (publications others : List Publication) (ss : List Subscription)
    → AllByRecursion (λ s. named publication_name s.publication others ≡ named publication_name s.publication publications) ss → NoTwo publications ss → NoTwo others ss
NoTwo-moved publications others ss same two =
    AllByRecursion-both _ _ _ (λ s here alone started.
    AllByRecursion-both _ _ _ (λ t there apart still clash. apart still (record {
      one_user = clash.one_user;
      two_publications = clash.two_publications;
      table = clash.table;
      here = ap (λ (p : Option Publication). has_article p clash.table) (sym here) ∙ clash.here;
      there = ap (λ (p : Option Publication). has_article p clash.table) (sym there) ∙ clash.there;
    })) ss same (alone started)) ss same two
