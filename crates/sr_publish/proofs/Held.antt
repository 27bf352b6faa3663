-- A row is seen where it fits and some subscription holds it.
use Rattle.std.proofs.Common.{◌≡◌, ℕ, Bool, true, false, ◌&&◌, ◌||◌, cond, List, [], ◌∷◌, Option, Some, None, is_some, option_map, find, filter_map, bytes_eq, refl, sym, ap, ap₂, ◌∙◌}
use Rattle.std.specs.List.{list_any, cons_option, AllByRecursion}
use Rattle.std.proofs.lemmas.Bool.{false_from_ne_true}
use Rattle.std.proofs.lemmas.Slice.Eq.{bytes_eq-Decides}
use Rattle.sr_ast.specs.Exprs.{term_of}
use Rattle.sr_ast.specs.declared.expr.Expr.{Expr}
use Rattle.sr_base.specs.declared.value.Value.{Value as Cell}
use Rattle.sr_base.proofs.Truths.{some_is}
use Rattle.sr_catalog_ddl.specs.Subscriptions.{articles_of}
use Rattle.sr_exec_dml.specs.Statements.{table_named}
use Rattle.sr_catalog_script_laws.specs.Scripts.{IsMadeByStatements}
use Rattle.sr_catalog_script_laws.proofs.ReplayCauses.{first_of-None}
use Rattle.sr_catalog_script_laws.proofs.ReplayLists.{AllByRecursion-step}
use Rattle.sr_catalog_schema.specs.Catalogs.{Lists}
use Rattle.sr_catalog_schema.specs.Firsts.{first_of, first_among}
use Rattle.sr_catalog_schema.specs.Members.{publication_name}
use Rattle.sr_catalog_schema.specs.Names.{named}
use Rattle.sr_catalog_schema.specs.declared.publication.Article.{Article}
use Rattle.sr_catalog_schema.specs.declared.subscription.Subscription.{Subscription}
use Rattle.sr_catalog_schema.specs.declared.table.Table.{Table}
use Rattle.sr_exec_fits.specs.Rows.{is_row}
use Rattle.sr_publish.specs.Inner.Laws.{values_in, holds_by, holds, IsTheSource}
use Rattle.sr_publish.specs.SubscribedTables.{is_live, article_in, source_in, source_of, value_in, subscribed_table_by, subscribed_table_in, subscribed_table_of}
use Rattle.sr_publish.specs.Views.{meets, by_value, equals, is_one_of, goes_to, is_in, shown, shown_in, seen}
use Rattle.sr_publish.proofs.Sources.{source_parts, one_source}

-- ---- tests

and_false : (a : Bool) → (a && false) ≡ false
and_false true = refl
and_false false = refl

or_false : (a : Bool) → (a || false) ≡ a
or_false true = refl
or_false false = refl

some_where : {A : Type 0} (b : Bool) (x : A) → is_some (cond b (Some x) None) ≡ b
some_where true x = refl
some_where false x = refl

and_true : (a : Bool) → (a && true) ≡ a
and_true true = refl
and_true false = refl

-- one value, if it counts, before others
one_goes : (v : Cell) (b : Bool) (o : Option Cell) (values : List Cell)
    → ((b && list_any (equals v) (values_in o)) || list_any (equals v) values) ≡ list_any (equals v) (cons_option (cond b o None) values)
one_goes v true (Some w) values = ap (λ x. x || list_any (equals v) values) (or_false (equals v w))
one_goes v true None values = refl
one_goes v false o values = refl

any_alike : {A : Type 0} (p q : A → Bool) (xs : List A) → AllByRecursion (λ x. p x ≡ q x) xs → list_any p xs ≡ list_any q xs
any_alike p q [] all = refl
any_alike p q (x ∷ xs) all = ap₂ (λ a b. a || b) all.0 (any_alike p q xs all.1)

none_any : {A : Type 0} (p : A → Bool) (xs : List A) → AllByRecursion (λ x. p x ≡ false) xs → list_any p xs ≡ false
none_any p [] all = refl
none_any p (x ∷ xs) all = ap₂ (λ a b. a || b) all.0 (none_any p xs all.1)

-- a test of all items before theirs
pulled : {A : Type 0} (m : Bool) (p g : A → Bool) (xs : List A) → list_any (λ x. p x && (m && g x)) xs ≡ (m && list_any (λ x. p x && g x) xs)
pulled {A} true p g xs = refl
pulled {A} false p g xs = none_any (λ x. p x && (false && g x)) xs (all xs) where
  all : (xs : List A) → AllByRecursion (λ x. (p x && (false && g x)) ≡ false) xs
  all [] = tt
  all (x ∷ xs) = (and_false (p x), all xs)

nothing_first : {A B : Type 0} (f : A → Option B) (xs : List A) → first_among f xs ≡ None → AllByRecursion (λ x. f x ≡ None) xs
nothing_first f [] e = tt
nothing_first f (x ∷ xs) e = let parts = first_of-None (f x) (first_among f xs) e in (parts.0, nothing_first f xs parts.1)

module _ (c : Lists) (user table : List ℕ) (t : Table) (row : List Cell) where
  abbrev f : Subscription → Option (List ℕ × Article)
  f = source_in c user table

  -- a subscription that gives nothing holds no row
  gives_nothing : (s : Subscription) → f s ≡ None → holds c user table t row s ≡ false
  gives_nothing s e = go (is_live user s) refl (article_in c table s) refl e where
    go : (b : Bool) → is_live user s ≡ b → (o : Option Article) → article_in c table s ≡ o → cond b (option_map {U = List ℕ × Article} (λ (x : Article). (s.publication, x)) o) None ≡ None
        → holds c user table t row s ≡ false
    go true l (Some a) o h = cc
    go true l None o h = ap₂ (λ x y. x && holds_by t y s.value row) l o
    go false l o a h = ap (λ x. x && holds_by t (article_in c table s) s.value row) l

  none_holds : source_of c user table ≡ None → list_any (holds c user table t row) c.subscriptions ≡ false
  none_holds e = none_any (holds c user table t row) c.subscriptions (all c.subscriptions (nothing_first f c.subscriptions e)) where
    all : (xs : List Subscription) → AllByRecursion (λ s. f s ≡ None) xs → AllByRecursion (λ s. holds c user table t row s ≡ false) xs
    all [] h = tt
    all (s ∷ xs) h = (gives_nothing s h.0, all xs h.1)

  module _ (p : List ℕ) (a : Article) (source : source_of c user table ≡ Some (p, a)) where
    -- the subscriptions that count
    abbrev counts : Subscription → Bool
    counts s = is_live user s && bytes_eq p s.publication

    abbrev m : Bool
    m = meets t a.condition row

    abbrev goes : Subscription → Bool
    goes s = goes_to t a.by (values_in s.value) row

    -- the article stands in the publication
    article_there : (xs : List Subscription) → first_among f xs ≡ Some (p, a)
        → find (λ (x : Article). bytes_eq table x.table) (articles_of (named publication_name p c.publications)) ≡ Some a
    article_there [] e = cc
    article_there (s ∷ xs) e = go (f s) refl e (article_there xs) where
      go : (o : Option (List ℕ × Article)) → f s ≡ o → first_of o (first_among f xs) ≡ Some (p, a)
          → (first_among f xs ≡ Some (p, a) → find (λ (x : Article). bytes_eq table x.table) (articles_of (named publication_name p c.publications)) ≡ Some a)
          → find (λ (x : Article). bytes_eq table x.table) (articles_of (named publication_name p c.publications)) ≡ Some a
      go None is h rest = rest h
      go (Some v) is h rest =
          let parts = source_parts c user table s v is in
          let same : (p, a) ≡ (s.publication, parts.1) = sym (some_is h) ∙ parts.3 in
          let name : p ≡ s.publication = ap (λ (x : List ℕ × Article). x.0) same in
          let article : a ≡ parts.1 = ap (λ (x : List ℕ × Article). x.1) same in
          ap (λ (n : List ℕ). find (λ (x : Article). bytes_eq table x.table) (articles_of (named publication_name n c.publications))) name
          ∙ (parts.2 ∙ ap Some (sym article))

    -- some subscription counts
    one_counts : (xs : List Subscription) → first_among f xs ≡ Some (p, a) → list_any counts xs ≡ true
    one_counts [] e = cc
    one_counts (s ∷ xs) e = go (f s) refl e (one_counts xs) where
      go : (o : Option (List ℕ × Article)) → f s ≡ o → first_of o (first_among f xs) ≡ Some (p, a) → (first_among f xs ≡ Some (p, a) → list_any counts xs ≡ true)
          → (counts s || list_any counts xs) ≡ true
      go None is h rest = ap (λ b. counts s || b) (rest h) ∙ or_true (counts s) where
        or_true : (b : Bool) → (b || true) ≡ true
        or_true true = refl
        or_true false = refl
      go (Some v) is h rest =
          let parts = source_parts c user table s v is in
          let name : p ≡ s.publication = ap (λ (x : List ℕ × Article). x.0) (sym (some_is h) ∙ parts.3) in
          ap (λ b. b || list_any counts xs) (ap₂ (λ x y. x && y) parts.0 ((bytes_eq-Decides p s.publication).1 name))

    -- a subscription holds the row where it counts and the article gives it the row
    holds_so : (s : Subscription) → IsTheSource c user table s → holds c user table t row s ≡ (counts s && (m && goes s))
    holds_so s the = go (is_live user s) refl (article_in c table s) refl where
      go : (b : Bool) → is_live user s ≡ b → (o : Option Article) → article_in c table s ≡ o → holds c user table t row s ≡ (counts s && (m && goes s))
      go false l o e = ap (λ x. x && holds_by t (article_in c table s) s.value row) l ∙ sym (ap (λ x. (x && bytes_eq p s.publication) && (m && goes s)) l)
      go true l (Some b) e =
          let same : (p, a) ≡ (s.publication, b) = some_is (sym source ∙ the b l e) in
          let name : bytes_eq p s.publication ≡ true = (bytes_eq-Decides p s.publication).1 (ap (λ (x : List ℕ × Article). x.0) same) in
          let article : b ≡ a = sym (ap (λ (x : List ℕ × Article). x.1) same) in
          ap₂ (λ x y. x && holds_by t y s.value row) l e ∙ (ap (λ (x : Article). holds_by t (Some x) s.value row) article
          ∙ sym (ap₂ (λ x y. (x && y) && (m && goes s)) l name))
      go true l None e =
          let name : bytes_eq p s.publication ≡ false = false_from_ne_true _ (λ is.
          let there : article_in c table s ≡ Some a =
          ap (λ (n : List ℕ). find (λ (x : Article). bytes_eq table x.table) (articles_of (named publication_name n c.publications))) (sym ((bytes_eq-Decides p s.publication).0 is))
          ∙ article_there c.subscriptions source in
          absurd (cc)) in
          ap₂ (λ x y. x && holds_by t y s.value row) l e ∙ sym (ap₂ (λ x y. (x && y) && (m && goes s)) l name)

    -- what the subscriptions that count have of SUBSCRIBE BY
    each_goes : (v : Cell) (xs : List Subscription)
        → list_any (λ s. counts s && list_any (equals v) (values_in s.value)) xs ≡ list_any (equals v) (filter_map (value_in user p) xs)
    each_goes v [] = refl
    each_goes v (s ∷ xs) = ap (λ r. (counts s && list_any (equals v) (values_in s.value)) || r) (each_goes v xs)
        ∙ one_goes v (counts s) s.value (filter_map (value_in user p) xs)

    of_value : (o : Option Cell) (xs : List Subscription)
        → list_any (λ s. counts s && is_one_of (values_in s.value) o) xs ≡ is_one_of (filter_map (value_in user p) xs) o
    of_value None xs = none_any (λ s. counts s && false) xs (all xs) where
      all : (ys : List Subscription) → AllByRecursion (λ s. (counts s && false) ≡ false) ys
      all [] = tt
      all (s ∷ ys) = (and_false (counts s), all ys)
    of_value (Some v) xs = each_goes v xs

    goes_by : (by : Option Expr) → list_any (λ s. counts s && goes_to t by (values_in s.value) row) c.subscriptions
        ≡ goes_to t by (filter_map (value_in user p) c.subscriptions) row
    goes_by None = any_alike (λ s. counts s && true) counts c.subscriptions (all c.subscriptions) ∙ one_counts c.subscriptions source where
      all : (ys : List Subscription) → AllByRecursion (λ s. (counts s && true) ≡ counts s) ys
      all [] = tt
      all (s ∷ ys) = (and_true (counts s), all ys)
    goes_by (Some e) = of_value (by_value t row (term_of e)) c.subscriptions

    pub held_so : AllByRecursion (IsTheSource c user table) c.subscriptions
        → (m && goes_to t a.by (filter_map (value_in user p) c.subscriptions) row) ≡ list_any (holds c user table t row) c.subscriptions
    held_so the = sym (any_alike (holds c user table t row) (λ s. counts s && (m && goes s)) c.subscriptions
        (AllByRecursion-step (IsTheSource c user table) (λ s. holds c user table t row s ≡ (counts s && (m && goes s))) holds_so c.subscriptions the)
        ∙ (pulled m counts goes c.subscriptions ∙ ap (λ b. m && b) (goes_by a.by)))

  by_source : (o : Option (List ℕ × Article)) → source_of c user table ≡ o → AllByRecursion (IsTheSource c user table) c.subscriptions
      → is_some (shown_in (subscribed_table_in c user (Some t) o) row) ≡ (is_row t.columns row && list_any (holds c user table t row) c.subscriptions)
  by_source None e the = sym (ap (λ b. is_row t.columns row && b) (none_holds e) ∙ and_false (is_row t.columns row))
  by_source (Some (p, a)) e the =
      let s = subscribed_table_by c user t (p, a) in
      some_where (is_in s row) (shown s row) ∙ ap (λ b. is_row t.columns row && b) (held_so p a e the)

seen_as_shared : (c : Lists) (user table : List ℕ) (t : Table) (row : List Cell) → table_named c table ≡ Some t
    → seen c user table row ≡ shown_in (subscribed_table_in c user (Some t) (source_of c user table)) row
unfolding subscribed_table_of
seen_as_shared c user table t row e = ap (λ o. shown_in (subscribed_table_in c user o (source_of c user table)) row) e

pub seen_so : (c : Lists) (user table : List ℕ) (t : Table) (row : List Cell) → IsMadeByStatements c → table_named c table ≡ Some t
    → is_some (seen c user table row) ≡ (is_row t.columns row && list_any (holds c user table t row) c.subscriptions)
seen_so c user table t row made named = ap is_some (seen_as_shared c user table t row named)
    ∙ by_source c user table t row (source_of c user table) refl (one_source c user table made)
