-- A user has a table by one article alone, and a row is seen where a subscription holds it.
use Rattle.std.proofs.Common.{◌≡◌, ℕ, Bool, true, false, ◌||◌, cond, List, [], ◌∷◌, Option, Some, None, is_some, option_map, find, bytes_eq, refl, sym, ap, ap₂, ◌∙◌}
use Rattle.std.specs.List.{list_any, AllByRecursion}
use Rattle.std.proofs.lemmas.Bool.{and_parts}
use Rattle.std.proofs.lemmas.Slice.Eq.{bytes_eq-Decides}
use Rattle.sr_ast.specs.declared.stmt.Stmt.TheVariants.{DropTable}
use Rattle.sr_base.proofs.Truths.{some_is}
use Rattle.sr_catalog_change.specs.Changes.{publication_names, is_used, drop_table_causes, refusal}
use Rattle.sr_catalog_ddl.specs.Subscriptions.{articles_of, has_article}
use Rattle.sr_exec_dml.specs.Statements.{table_named}
use Rattle.sr_catalog_script_laws.specs.Scripts.{IsMadeByStatements, subscription_rule}
use Rattle.sr_catalog_script_laws.proofs.ReplayCauses.{where_true-None, no_cause_of}
use Rattle.sr_catalog_script_laws.proofs.ReplayLists.{AllByRecursion-step, AllByRecursion-both, found_as_taken}
use Rattle.sr_catalog_script_laws.proofs.ReplayNexts.{made_stands}
use Rattle.sr_catalog_script_laws.proofs.Standing.{Clash, IsFree}
use Rattle.sr_catalog_schema.specs.Catalogs.{Lists}
use Rattle.sr_catalog_schema.specs.Firsts.{first_of, first_among}
use Rattle.sr_catalog_schema.specs.Members.{publication_name}
use Rattle.sr_catalog_schema.specs.Names.{named}
use Rattle.sr_catalog_schema.specs.declared.publication.Article.{Article}
use Rattle.sr_catalog_schema.specs.declared.publication.Publication.{Publication}
use Rattle.sr_catalog_schema.specs.declared.subscription.Subscription.{Subscription}
use Rattle.sr_catalog_schema.specs.declared.table.Table.{Table}
use Rattle.sr_publish.specs.Inner.Laws.{holds, IsTheSource}
use Rattle.sr_publish.specs.SubscribedTables.{is_live, article_in, source_in, source_of, subscribed_table_by, subscribed_table_in, subscribed_table_of}
use Rattle.sr_publish.specs.Views.{seen}

same_bytes : (a b : List ℕ) → bytes_eq a b ≡ true → a ≡ b
same_bytes a b e = (bytes_eq-Decides a b).0 e

itself : (a : List ℕ) → bytes_eq a a ≡ true
itself a = (bytes_eq-Decides a a).1 refl

-- ---- firsts

-- what an item gives shows that some first gives something
first_given : {A B : Type 0} (f : A → Option B) (xs : List A) → AllByRecursion (λ x. (q : B) → f x ≡ Some q → (w : B) × (first_among f xs ≡ Some w)) xs
first_given f [] = tt
first_given {A} {B} f (x ∷ xs) = (
  (λ q e. (q, ap (λ o. first_of o (first_among f xs)) e)),
  AllByRecursion-step (λ y. (q : B) → f y ≡ Some q → (w : B) × (first_among f xs ≡ Some w)) (λ y. (q : B) → f y ≡ Some q → (w : B) × (first_of (f x) (first_among f xs) ≡ Some w))
      (λ y h q e. behind (f x) (h q e)) xs (first_given f xs),
) where
  behind : (o : Option B) → (w : B) × (first_among f xs ≡ Some w) → (w : B) × (first_of o (first_among f xs) ≡ Some w)
  behind None h = h
  behind (Some v) h = (v, refl)

-- where all that is given is one thing, that is the first
one_first : {A B : Type 0} (f : A → Option B) (xs : List A) (q w : B) → AllByRecursion (λ x. (p : B) → f x ≡ Some p → p ≡ q) xs → first_among f xs ≡ Some w → w ≡ q
one_first f [] q w all e = cc
one_first {A} {B} f (x ∷ xs) q w all e = go (f x) refl e (one_first f xs q w all.1) where
  go : (o : Option B) → f x ≡ o → first_of o (first_among f xs) ≡ Some w → (first_among f xs ≡ Some w → w ≡ q) → w ≡ q
  go None is h rest = rest h
  go (Some v) is h rest = let same : v ≡ w = some_is h in sym same ∙ all.0 v is

-- ---- one article

module _ (c : Lists) (user table : List ℕ) where
  abbrev f : Subscription → Option (List ℕ × Article)
  f = source_in c user table

  -- what a subscription gives that is a started one of the user and has an article
  pub source_is : (s : Subscription) (a : Article) → is_live user s ≡ true → article_in c table s ≡ Some a → f s ≡ Some (s.publication, a)
  source_is s a live art = ap (λ b. cond b (option_map {U = List ℕ × Article} (λ (x : Article). (s.publication, x)) (article_in c table s)) None) live
      ∙ ap (λ o. option_map {U = List ℕ × Article} (λ (x : Article). (s.publication, x)) o) art

  pub source_parts : (s : Subscription) (p : List ℕ × Article) → f s ≡ Some p → (is_live user s ≡ true) × (a : Article) × (article_in c table s ≡ Some a) × (p ≡ (s.publication, a))
  source_parts s p e = go (is_live user s) refl (article_in c table s) refl e where
    go : (b : Bool) → is_live user s ≡ b → (o : Option Article) → article_in c table s ≡ o → cond b (option_map {U = List ℕ × Article} (λ (x : Article). (s.publication, x)) o) None ≡ Some p
        → (is_live user s ≡ true) × (a : Article) × (article_in c table s ≡ Some a) × (p ≡ (s.publication, a))
    go true live (Some a) art h = (live, a, art, sym (some_is h))
    go true live None art h = cc
    go false live o art h = cc

  has_it : (s : Subscription) (a : Article) → article_in c table s ≡ Some a → has_article (named publication_name s.publication c.publications) table ≡ true
  has_it s a e = found_as_taken (λ (x : Article). bytes_eq table x.table) (articles_of (named publication_name s.publication c.publications)) ∙ ap is_some e

  -- two started subscriptions of the user that have the table are to one publication
  one_publication : (s r : Subscription) (a b : Article) → (r.started ≡ true → Clash c.publications (subscription_rule s) (subscription_rule r) → ⊥)
      → is_live user s ≡ true → is_live user r ≡ true → article_in c table s ≡ Some a → article_in c table r ≡ Some b → s.publication ≡ r.publication
  one_publication s r a b free ls lr sa rb = go (bytes_eq s.publication r.publication) refl where
    go : (e : Bool) → bytes_eq s.publication r.publication ≡ e → s.publication ≡ r.publication
    go true e = same_bytes s.publication r.publication e
    go false e =
        let us = and_parts s.started (bytes_eq user s.user) ls in
        let ur = and_parts r.started (bytes_eq user r.user) lr in
        absurd (free ur.0 (record {
          one_user = sym (same_bytes user s.user us.1) ∙ same_bytes user r.user ur.1;
          two_publications = e;
          table = table;
          here = has_it s a sa;
          there = has_it r b rb;
        }))

  the_source : (s : Subscription) → (s.started ≡ true → IsFree c.publications (subscription_rule s) c.subscriptions)
      → ((q : List ℕ × Article) → f s ≡ Some q → (w : List ℕ × Article) × (first_among f c.subscriptions ≡ Some w)) → IsTheSource c user table s
  the_source s free given = λ a live art.
      let is = source_is s a live art in
      let found = given (s.publication, a) is in
      let others = AllByRecursion-step
      (λ (r : Subscription). r.started ≡ true → Clash c.publications (subscription_rule s) (subscription_rule r) → ⊥)
      (λ (r : Subscription). (p : List ℕ × Article) → f r ≡ Some p → p ≡ (s.publication, a))
      (λ r apart p e. same r apart p e a live art) c.subscriptions (free (and_parts s.started (bytes_eq user s.user) live).0) in
      found.1 ∙ ap Some (one_first f c.subscriptions (s.publication, a) found.0 others found.1) where
        same : (r : Subscription) → (r.started ≡ true → Clash c.publications (subscription_rule s) (subscription_rule r) → ⊥) → (p : List ℕ × Article) → f r ≡ Some p
            → (a : Article) → is_live user s ≡ true → article_in c table s ≡ Some a → p ≡ (s.publication, a)
        same r apart p e a live art =
            let parts = source_parts r p e in
            let publication : s.publication ≡ r.publication = one_publication s r a parts.1 apart live parts.0 art parts.2 in
            let article : Some parts.1 ≡ Some a =
            sym parts.2 ∙ (ap (λ (n : List ℕ). find (λ (x : Article). bytes_eq table x.table) (articles_of (named publication_name n c.publications))) (sym publication) ∙ art) in
            parts.3 ∙ ap₂ (λ (n : List ℕ) (x : Article). (n, x)) (sym publication) (some_is article)

  pub one_source : IsMadeByStatements c → AllByRecursion (IsTheSource c user table) c.subscriptions
  one_source made = AllByRecursion-both
      (λ (s : Subscription). s.started ≡ true → IsFree c.publications (subscription_rule s) c.subscriptions)
      (λ (s : Subscription). (q : List ℕ × Article) → f s ≡ Some q → (w : List ℕ × Article) × (first_among f c.subscriptions ≡ Some w))
      (IsTheSource c user table) the_source c.subscriptions (made_stands c made).starts (first_given f c.subscriptions)

-- ---- dropped tables

pub none_of : {A : Type 0} (p : A → Bool) (xs : List A) → list_any p xs ≡ false → find p xs ≡ None
none_of p [] e = refl
none_of p (x ∷ xs) e = go (p x) e (none_of p xs) where
  go : (b : Bool) → (b || list_any p xs) ≡ false → (list_any p xs ≡ false → find p xs ≡ None) → cond b (Some x) (find p xs) ≡ None
  go true h rest = cc
  go false h rest = rest h

-- what is found of a list no item of which passes another test does not pass it
found_fails : {A : Type 0} (p q : A → Bool) (xs : List A) (x : A) → list_any q xs ≡ false → find p xs ≡ Some x → q x ≡ false
found_fails p q [] x e h = cc
found_fails p q (y ∷ xs) x e h = go (q y) refl (p y) e h (found_fails p q xs x) where
  go : (b : Bool) → q y ≡ b → (d : Bool) → (b || list_any q xs) ≡ false → cond d (Some y) (find p xs) ≡ Some x
      → (list_any q xs ≡ false → find p xs ≡ Some x → q x ≡ false) → q x ≡ false
  go true is d k l rest = cc
  go false is true k l rest = let same : y ≡ x = some_is l in ap q (sym same) ∙ is
  go false is false k l rest = rest k l

no_article : (c : Lists) (table : List ℕ) (s : Subscription) → list_any (publication_names table) c.publications ≡ false → article_in c table s ≡ None
no_article c table s none = go (named publication_name s.publication c.publications) refl where
  go : (o : Option Publication) → named publication_name s.publication c.publications ≡ o → article_in c table s ≡ None
  go None e = ap (λ (x : Option Publication). find (λ (a : Article). bytes_eq table a.table) (articles_of x)) e
  go (Some p) e = ap (λ (x : Option Publication). find (λ (a : Article). bytes_eq table a.table) (articles_of x)) e
      ∙ none_of (λ (a : Article). bytes_eq table a.table) p.articles
      (found_fails (λ (x : Publication). bytes_eq s.publication (publication_name x)) (publication_names table) c.publications p none e)

no_source : (c : Lists) (user table : List ℕ) (xs : List Subscription) → list_any (publication_names table) c.publications ≡ false
    → first_among (source_in c user table) xs ≡ None
no_source c user table [] none = refl
no_source c user table (s ∷ xs) none =
    ap₂ (λ x y. first_of x y) (nothing (is_live user s)) (no_source c user table xs none) where
      nothing : (b : Bool) → cond b (option_map {U = List ℕ × Article} (λ (x : Article). (s.publication, x)) (article_in c table s)) None ≡ None
      nothing true = ap (λ o. option_map {U = List ℕ × Article} (λ (x : Article). (s.publication, x)) o) (no_article c table s none)
      nothing false = refl

or_left_false : (a b : Bool) → (a || b) ≡ false → a ≡ false
or_left_false true b e = cc
or_left_false false b e = refl

in_none : (c : Lists) (user : List ℕ) (t : Option Table) (source : Option (List ℕ × Article)) → source ≡ None → subscribed_table_in c user t source ≡ None
in_none c user None source e = refl
in_none c user (Some t) source e = ap (λ o. option_map (subscribed_table_by c user t) o) e

unused : (c : Lists) (table : List ℕ) → (drop_table_causes c table).in_use ≡ None → list_any (publication_names table) c.publications ≡ false
unfolding drop_table_causes
unused c table e = or_left_false (list_any (publication_names table) c.publications) _ (where_true-None (is_used c table) table e)

pub dropped_subscribed_table : (c : Lists) (user table : List ℕ) → refusal c (DropTable table) ≡ None → subscribed_table_of c user table ≡ None
unfolding subscribed_table_of
dropped_subscribed_table c user table accepted =
    let none = unused c table (no_cause_of c (DropTable table) accepted).in_use in
    in_none c user (table_named c table) (source_of c user table) (no_source c user table c.subscriptions none)
