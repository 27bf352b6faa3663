-- What a catalog keeps of tables and articles.
use Rattle.std.proofs.Common.{◌≡◌, ◌≤◌, inl, inr, ℕ, suc, Bool, true, false, not, ◌||◌, cond, List, [], ◌∷◌, ◌++◌, length, map, Option, Some, None, is_some, find, filter_map, slice_get, nat_eq, bytes_eq, refl, sym, ap, ap₂, subst, ◌∙◌, arith}
use Rattle.std.specs.Prelude.{nat_lt}
use Rattle.std.specs.List.{list_any, cons_option, AllByRecursion, IsDistinct}
use Rattle.std.specs.Cmp.{IsEquivalence}
use Rattle.std.proofs.lemmas.Bool.{or_parts, or_cases, false_from_ne_true}
use Rattle.std.proofs.lemmas.Bool.Decides.{nat_tests}
use Rattle.std.proofs.lemmas.List.{length-map}
use Rattle.std.proofs.lemmas.Map.Made.{length-le_from_is_member}
use Rattle.std.proofs.lemmas.Slice.Eq.{bytes_eq-Decides}
use Rattle.sr_ast.specs.declared.create.ArticleRule.{ArticleRule}
use Rattle.sr_ast.specs.declared.create.ColumnRule.{ColumnRule}
use Rattle.sr_ast.specs.declared.stmt.Stmt.TheVariants as stmt
use Rattle.sr_catalog_ddl.specs.Publications.{twice_in_articles, absent_in, key_lacking, key_outside, table_in, create_publication_causes, columns_of, article_of, publication_of}
use Rattle.sr_catalog_ddl.specs.Subscriptions.{articles_of}
use Rattle.sr_catalog_ddl.specs.Tables.{rule_name, table_of, create_table_causes}
use Rattle.sr_exec_dml.specs.Statements.{table_named}
use Rattle.sr_logform.specs.Rules.{AreDistinct}
use Rattle.sr_catalog_script_laws.specs.Scripts.{IsMadeByStatements, column_rule, article_rule}
use Rattle.sr_catalog_script_laws.proofs.ReplayCauses.{NoCause, no_cause_of, where_true-None, first_of-None, option_map-None}
use Rattle.sr_catalog_script_laws.proofs.ReplayLists.{found_as_taken}
use Rattle.sr_catalog_script_laws.proofs.ReplayNexts.{made_stands}
use Rattle.sr_catalog_script_laws.proofs.ReplayTables.{columns_once, key_inside}
use Rattle.sr_catalog_script_laws.proofs.Standing.{TableStands, table_rule, PublicationStands, publication_rule, only_tables}
use Rattle.sr_catalog_schema.proofs.Places.{find-no_place, find-place}
use Rattle.sr_catalog_schema.specs.Catalogs.{Lists, nothing_but}
use Rattle.sr_catalog_schema.specs.Firsts.{first_of, first_among, where_true, has, first_again, first_twice, first_absent}
use Rattle.sr_catalog_schema.specs.Members.{column_name, column_names, has_column, key_names, table_name, publication_name}
use Rattle.sr_catalog_schema.specs.Names.{named, place_of}
use Rattle.sr_catalog_schema.specs.declared.publication.Article.{Article}
use Rattle.sr_catalog_schema.specs.declared.publication.Publication.{Publication}
use Rattle.sr_catalog_schema.specs.declared.subscription.Subscription.{Subscription}
use Rattle.sr_catalog_schema.specs.declared.table.Column.{Column}
use Rattle.sr_catalog_schema.specs.declared.table.Table.{Table}
use Rattle.sr_publish.specs.Inner.Laws.{AreAt, HasKey, IsInOrder}
use Rattle.sr_publish.specs.SubscribedTables.{SubscribedTable, article_in, source_in, source_of, subscribed_table_by, subscribed_table_in, subscribed_table_of}
use Rattle.sr_publish.proofs.Sources.{source_parts}
use Rattle.sr_base.proofs.Truths.{some_is}

-- ---- names

any-append : {A : Type 0} (p : A → Bool) (xs ys : List A) → list_any p (xs ++ ys) ≡ (list_any p xs || list_any p ys)
any-append p [] ys = refl
any-append p (x ∷ xs) ys = ap (λ b. p x || b) (any-append p xs ys) ∙ grouped (p x) (list_any p xs) (list_any p ys) where
  grouped : (a b c : Bool) → (a || (b || c)) ≡ ((a || b) || c)
  grouped true b c = refl
  grouped false b c = refl

apart : (m n : List ℕ) → bytes_eq m n ≡ false → ¬ (n ≡ m)
apart m n h = λ e. let yes : bytes_eq m n ≡ true = (bytes_eq-Decides m n).1 (sym e) in cc

-- names of which none stands twice, and none among those before
again_none : (before names : List (List ℕ)) → first_again before names ≡ None → AllByRecursion (λ n. has before n ≡ false) names × AreDistinct names
again_none before [] h = (tt, tt)
again_none before (n ∷ names) h =
    let parts = first_of-None (where_true (has before n) n) (first_again (before ++ n ∷ []) names) h in
    let rest = again_none (before ++ n ∷ []) names parts.1 in
    ((where_true-None (has before n) n parts.0, old names rest.0), (new names rest.0, rest.1)) where
      split : (m : List ℕ) → has (before ++ n ∷ []) m ≡ false → (has before m ≡ false) × (bytes_eq m n ≡ false)
      split m e =
          let halves = or_parts (has before m) (has (n ∷ []) m) (sym (any-append (λ x. bytes_eq m x) before (n ∷ [])) ∙ e) in
          (halves.0, (or_parts (bytes_eq m n) false halves.1).0)

      old : (ms : List (List ℕ)) → AllByRecursion (λ m. has (before ++ n ∷ []) m ≡ false) ms → AllByRecursion (λ m. has before m ≡ false) ms
      old [] all = tt
      old (m ∷ ms) all = ((split m all.0).0, old ms all.1)

      new : (ms : List (List ℕ)) → AllByRecursion (λ m. has (before ++ n ∷ []) m ≡ false) ms → AllByRecursion (λ m. ¬ (n ≡ m)) ms
      new [] all = tt
      new (m ∷ ms) all = (apart m n (split m all.0).1, new ms all.1)

pub distinct_from : (names : List (List ℕ)) → first_twice names ≡ None → AreDistinct names
distinct_from names h = (again_none [] names h).1

-- distinct names that are all among others are no more than these
bytes_laws : IsEquivalence bytes_eq
bytes_laws = record {
  refl = λ x. (bytes_eq-Decides x x).1 refl;
  symm = λ x y. turned x y (bytes_eq x y) (bytes_eq y x) refl refl;
  congr = λ x y z e. ap (λ (n : List ℕ). bytes_eq n z) ((bytes_eq-Decides x y).0 e);
} where
  turned : (x y : List ℕ) (a b : Bool) → bytes_eq x y ≡ a → bytes_eq y x ≡ b → a ≡ b
  turned x y true true e f = refl
  turned x y false false e f = refl
  turned x y true false e f = let no : bytes_eq y x ≡ true = (bytes_eq-Decides y x).1 (sym ((bytes_eq-Decides x y).0 e)) in cc
  turned x y false true e f = let no : bytes_eq x y ≡ true = (bytes_eq-Decides x y).1 (sym ((bytes_eq-Decides y x).0 f)) in cc

as_distinct : (names : List (List ℕ)) → AreDistinct names → IsDistinct bytes_eq names
unfolding IsDistinct
as_distinct [] d = tt
as_distinct (n ∷ names) d = (all names d.0, as_distinct names d.1) where
  all : (ms : List (List ℕ)) → AllByRecursion (λ m. ¬ (n ≡ m)) ms → AllByRecursion (λ m. bytes_eq n m ≡ false) ms
  all [] h = tt
  all (m ∷ ms) h = (false_from_ne_true (bytes_eq n m) (λ e. h.0 ((bytes_eq-Decides n m).0 e)), all ms h.1)

among_all : (xs ys : List (List ℕ)) → AllByRecursion (λ n. has ys n ≡ true) xs → (q : List ℕ) → has xs q ≡ true → has ys q ≡ true
among_all [] ys all q h = cc
among_all (x ∷ xs) ys all q h = elim (or_cases (bytes_eq q x) (has xs q) h) as (λ _. has ys q ≡ true) [
  | inl e ↦ ap (has ys) ((bytes_eq-Decides q x).0 e) ∙ all.0
  | inr e ↦ among_all xs ys all.1 q e
]

pub no_more : (xs ys : List (List ℕ)) → AreDistinct xs → AllByRecursion (λ n. has ys n ≡ true) xs → length xs ≤ length ys
no_more xs ys d all = length-le_from_is_member bytes_laws xs ys (as_distinct xs d) (among_all xs ys all)

absent_none : (there : List ℕ → Bool) (names : List (List ℕ)) → first_absent there names ≡ None → AllByRecursion (λ n. there n ≡ true) names
absent_none there [] h = tt
absent_none there (n ∷ names) h =
    let parts = first_of-None (where_true (not (there n)) n) (first_absent there names) h in
    (yes (there n) (where_true-None (not (there n)) n parts.0), absent_none there names parts.1) where
      yes : (b : Bool) → not b ≡ false → b ≡ true
      yes true e = refl
      yes false e = cc

-- ---- finding

pub found_in : {A : Type 0} (P : A → Type 0) (p : A → Bool) (xs : List A) (x : A) → AllByRecursion P xs → find p xs ≡ Some x → P x
found_in P p [] x all e = cc
found_in P p (y ∷ xs) x all e = go (p y) e (found_in P p xs x all.1) where
  go : (b : Bool) → cond b (Some y) (find p xs) ≡ Some x → (find p xs ≡ Some x → P x) → P x
  go true h rest = subst P (some_is h) all.0
  go false h rest = rest h

pub find_passes : {A : Type 0} (p : A → Bool) (xs : List A) (x : A) → find p xs ≡ Some x → p x ≡ true
find_passes p [] x e = cc
find_passes p (y ∷ xs) x e = go (p y) refl e (find_passes p xs x) where
  go : (b : Bool) → p y ≡ b → cond b (Some y) (find p xs) ≡ Some x → (find p xs ≡ Some x → p x ≡ true) → p x ≡ true
  go true is h rest = ap p (sym (some_is h)) ∙ is
  go false is h rest = rest h

name_found : (n : List ℕ) (columns : List Column) (c : Column) → named column_name n columns ≡ Some c → c.name ≡ n
name_found n columns c e = sym ((bytes_eq-Decides n c.name).0 (find_passes (λ (x : Column). bytes_eq n (column_name x)) columns c e))

-- ---- columns of an article

module _ (t : Table) where
  abbrev columns : List (List ℕ) → List Column
  columns names = filter_map (λ n. named column_name n t.columns) names

  abbrev places : List (List ℕ) → List ℕ
  places names = filter_map (λ n. place_of column_name n t.columns) names

  -- a column of the table, found by its name and its place
  both_found : (n : List ℕ) → has_column t n ≡ true → (c : Column) × (i : ℕ) × (named column_name n t.columns ≡ Some c) × (place_of column_name n t.columns ≡ Some i)
      × (slice_get t.columns i ≡ Some c)
  both_found n h = go (named column_name n t.columns) refl (place_of column_name n t.columns) refl where
    there : is_some (named column_name n t.columns) ≡ true
    there = sym (found_as_taken (λ (c : Column). bytes_eq n (column_name c)) t.columns) ∙ h

    go : (o : Option Column) → named column_name n t.columns ≡ o → (k : Option ℕ) → place_of column_name n t.columns ≡ k
        → (c : Column) × (i : ℕ) × (named column_name n t.columns ≡ Some c) × (place_of column_name n t.columns ≡ Some i) × (slice_get t.columns i ≡ Some c)
    go None e k f = let none : is_some (named column_name n t.columns) ≡ false = ap is_some e in absurd (cc (there, none))
    go (Some c) e None f =
        let none : named column_name n t.columns ≡ None = find-no_place (λ (x : Column). bytes_eq n (column_name x)) t.columns f in absurd (cc (e, none))
    go (Some c) e (Some i) f = (c, i, e, f, sym (find-place (λ (x : Column). bytes_eq n (column_name x)) t.columns i f) ∙ e)

  are_at : (names : List (List ℕ)) → AllByRecursion (λ n. has_column t n ≡ true) names → AreAt t (columns names) (places names)
  are_at [] all = tt
  are_at (n ∷ names) all =
      let b = both_found n all.0 in
      subst (λ (o : Option Column). AreAt t (cons_option o (columns names)) (places (n ∷ names))) (sym b.2)
      (subst (λ (o : Option ℕ). AreAt t (b.0 ∷ columns names) (cons_option o (places names))) (sym b.3) (b.4, are_at names all.1))

  names_again : (names : List (List ℕ)) → AllByRecursion (λ n. has_column t n ≡ true) names → map column_name (columns names) ≡ names
  names_again [] all = refl
  names_again (n ∷ names) all =
      let b = both_found n all.0 in
      ap (λ (o : Option Column). map column_name (cons_option o (columns names))) b.2
      ∙ ap₂ (λ (x : List ℕ) (xs : List (List ℕ)). x ∷ xs) (name_found n t.columns b.0 b.2) (names_again names all.1)

-- ---- tables

filter_length : {A B : Type 0} (f : A → Option B) (xs : List A) → AllByRecursion (λ x. is_some (f x) ≡ true) xs → length (filter_map f xs) ≡ length xs
filter_length f [] all = refl
filter_length {A} {B} f (x ∷ xs) all = go (f x) all.0 (filter_length f xs all.1) where
  go : (o : Option B) → is_some o ≡ true → length (filter_map f xs) ≡ length xs → length (cons_option o (filter_map f xs)) ≡ length (x ∷ xs)
  go None e rest = cc
  go (Some y) e rest = ap (λ n. suc n) rest

-- nothing speaks against the statement of a table that stands
record TableFacts (t : Table) : Type 0 where
  once : first_twice (key_names t) ≡ None
  some : nat_eq (length (key_names t)) 0 ≡ false
  few : nat_lt 256 (length (map column_rule t.columns)) ≡ false

table_facts : (t : Table) → TableStands t → TableFacts t
unfolding create_table_causes
table_facts t stands =
    let none : NoCause (create_table_causes (nothing_but []) (table_rule t)) = no_cause_of (nothing_but []) (stmt.CreateTable (table_rule t)) stands.accepted in
    let one = first_of-None (where_true false t.name) (first_of (first_twice (map rule_name (map column_rule t.columns))) (first_twice (key_names t))) none.exists in
    let two = first_of-None (first_twice (map rule_name (map column_rule t.columns))) (first_twice (key_names t)) one.1 in
    record {
      once = two.1;
      some = where_true-None (nat_eq (length (key_names t)) 0) t.name none.no_key;
      few = (or_parts false (nat_lt 256 (length (map column_rule t.columns))) (where_true-None (false || nat_lt 256 (length (map column_rule t.columns))) 256 none.too_many)).1;
    }

within : (n : ℕ) → nat_lt 256 n ≡ false → n ≤ 256
within n e = grind (arith, nat_tests)

-- the key has a place for each of its names
key_length : (t : Table) → TableStands t → length (key_names t) ≡ length t.key
unfolding table_of
key_length t stands =
    let place = λ (n : List ℕ). place_of rule_name n (map column_rule t.columns) in
    sym (ap (λ (x : Table). length x.key) (sym stands.makes) ∙ filter_length place (key_names t) (all (key_names t) (absent_none (has_column t) (key_names t) (key_inside t stands)))) where
      placed : (n : List ℕ) → has_column t n ≡ true → is_some (place_of rule_name n (map column_rule t.columns)) ≡ true
      placed n h = go (place_of rule_name n (map column_rule t.columns)) refl where
        as_rules : (cs : List Column) → list_any (λ (r : ColumnRule). bytes_eq n (rule_name r)) (map column_rule cs) ≡ has_column (record t { columns = cs }) n
        as_rules [] = refl
        as_rules (c ∷ cs) = ap (λ b. bytes_eq n c.name || b) (as_rules cs)

        go : (o : Option ℕ) → place_of rule_name n (map column_rule t.columns) ≡ o → is_some (place_of rule_name n (map column_rule t.columns)) ≡ true
        go (Some i) e = ap is_some e
        go None e =
            let none : is_some (find (λ (r : ColumnRule). bytes_eq n (rule_name r)) (map column_rule t.columns)) ≡ false =
            ap is_some (find-no_place (λ (r : ColumnRule). bytes_eq n (rule_name r)) (map column_rule t.columns) e) in
            let yes : is_some (find (λ (r : ColumnRule). bytes_eq n (rule_name r)) (map column_rule t.columns)) ≡ true =
            sym (found_as_taken (λ (r : ColumnRule). bytes_eq n (rule_name r)) (map column_rule t.columns)) ∙ (as_rules t.columns ∙ h) in
            cc

      all : (ns : List (List ℕ)) → AllByRecursion (λ n. has_column t n ≡ true) ns → AllByRecursion (λ n. is_some (place_of rule_name n (map column_rule t.columns)) ≡ true) ns
      all [] h = tt
      all (n ∷ ns) h = (placed n h.0, all ns h.1)

has_key : (t : Table) → TableStands t → HasKey t
has_key t stands =
    let facts = table_facts t stands in
    record {
      columns = distinct_from (column_names t) (columns_once t stands);
      few = within (length t.columns) (ap (nat_lt 256) (sym (length-map t.columns column_rule)) ∙ facts.few);
      some = λ e. let zero : nat_eq (length (key_names t)) 0 ≡ true = ap (λ (ns : List (List ℕ)). nat_eq (length ns) 0) e in let no = facts.some in cc;
      same = key_length t stands;
      key = absent_none (has_column t) (key_names t) (key_inside t stands);
      distinct = distinct_from (key_names t) facts.once;
    }

-- ---- articles

-- what is asked of an article over its table
record ArticleFacts (t : Table) (a : Article) : Type 0 where
  once : first_twice a.columns ≡ None
  there : first_absent (has_column t) a.columns ≡ None
  key : key_outside (article_rule a) (Some t) ≡ None
  makes : columns_of (article_rule a) (Some t) ≡ a.columns

found_none : {A B : Type 0} (f : A → Option B) (p : A → Bool) (xs : List A) (x : A) → first_among f xs ≡ None → find p xs ≡ Some x → f x ≡ None
found_none f p [] x h e = cc
found_none f p (y ∷ xs) x h e =
    let parts = first_of-None (f y) (first_among f xs) h in
    go (p y) e parts.0 (found_none f p xs x parts.1) where
      go : (b : Bool) → cond b (Some y) (find p xs) ≡ Some x → f y ≡ None → (find p xs ≡ Some x → f x ≡ None) → f x ≡ None
      go true k none rest = ap f (sym (some_is k)) ∙ none
      go false k none rest = rest k

-- what is found of articles is found of their rules
found_rule : (p : List ℕ) (xs : List Article) (a : Article) → find (λ (x : Article). bytes_eq p x.table) xs ≡ Some a
    → find (λ (x : ArticleRule). bytes_eq p x.table) (map article_rule xs) ≡ Some (article_rule a)
found_rule p [] a e = cc
found_rule p (x ∷ xs) a e = go (bytes_eq p x.table) e (found_rule p xs a) where
  go : (b : Bool) → cond b (Some x) (find (λ (y : Article). bytes_eq p y.table) xs) ≡ Some a
      → (find (λ (y : Article). bytes_eq p y.table) xs ≡ Some a → find (λ (y : ArticleRule). bytes_eq p y.table) (map article_rule xs) ≡ Some (article_rule a))
      → cond b (Some (article_rule x)) (find (λ (y : ArticleRule). bytes_eq p y.table) (map article_rule xs)) ≡ Some (article_rule a)
  go true h rest = ap (λ (y : Article). Some (article_rule y)) (some_is h)
  go false h rest = rest h

found_once : (before : List (List ℕ)) (xs : List ArticleRule) (p : ArticleRule → Bool) (x : ArticleRule) → twice_in_articles before xs ≡ None → find p xs ≡ Some x → first_twice x.columns ≡ None
found_once before [] p x h e = cc
found_once before (y ∷ xs) p x h e =
    let one = first_of-None (where_true (has before y.table) y.table) _ h in
    let two = first_of-None (first_twice y.columns) _ one.1 in
    go (p y) e two.0 (found_once (before ++ y.table ∷ []) xs p x two.1) where
      go : (b : Bool) → cond b (Some y) (find p xs) ≡ Some x → first_twice y.columns ≡ None → (find p xs ≡ Some x → first_twice x.columns ≡ None) → first_twice x.columns ≡ None
      go true k none rest = ap (λ (r : ArticleRule). first_twice r.columns) (sym (some_is k)) ∙ none
      go false k none rest = rest k

-- what a publication makes of its articles it makes of one that is found
made_again : (f : ArticleRule → Article) (xs : List Article) (p : Article → Bool) (a : Article) → map f (map article_rule xs) ≡ xs → find p xs ≡ Some a → f (article_rule a) ≡ a
made_again f [] p a h e = cc
made_again f (x ∷ xs) p a h e =
    let first : f (article_rule x) ≡ x = cc in
    let rest : map f (map article_rule xs) ≡ xs = cc in
    go (p x) e first (made_again f xs p a rest) where
      go : (b : Bool) → cond b (Some x) (find p xs) ≡ Some a → f (article_rule x) ≡ x → (find p xs ≡ Some a → f (article_rule a) ≡ a) → f (article_rule a) ≡ a
      go true k is more = ap (λ (y : Article). f (article_rule y)) (sym (some_is k)) ∙ (is ∙ some_is k)
      go false k is more = more k

absent_parts : (a : ArticleRule) (t : Table) → absent_in a (Some t) ≡ None → first_absent (has_column t) a.columns ≡ None
unfolding absent_in
absent_parts a t h = (first_of-None (first_absent (has_column t) a.columns) _ h).0

article_facts : (tables : List Table) (p : Publication) (table : List ℕ) (a : Article) (t : Table) → PublicationStands tables p
    → find (λ (x : Article). bytes_eq table x.table) p.articles ≡ Some a → named table_name table tables ≡ Some t → ArticleFacts t a
unfolding create_publication_causes publication_of
article_facts tables p table a t stands found there =
    let c = only_tables tables in
    let none : NoCause (create_publication_causes c (publication_rule p)) = no_cause_of c (stmt.CreatePublication (publication_rule p)) stands.accepted in
    let rule = found_rule table p.articles a found in
    let named_so : table ≡ a.table = (bytes_eq-Decides table a.table).0 (find_passes (λ (x : Article). bytes_eq table x.table) p.articles a found) in
    let over : named table_name a.table tables ≡ Some t = ap (λ (n : List ℕ). named table_name n tables) (sym named_so) ∙ there in
    let once = (first_of-None (where_true false p.name) (twice_in_articles [] (map article_rule p.articles)) none.exists).1 in
    let absent : absent_in (article_rule a) (table_in c (article_rule a)) ≡ None =
    found_none (λ (x : ArticleRule). absent_in x (table_in c x)) (λ (x : ArticleRule). bytes_eq table x.table) (map article_rule p.articles) (article_rule a) none.missing rule in
    let key : key_outside (article_rule a) (table_in c (article_rule a)) ≡ None =
    found_none (λ (x : ArticleRule). key_outside x (table_in c x)) (λ (x : ArticleRule). bytes_eq table x.table) (map article_rule p.articles) (article_rule a) none.key_outside rule in
    let made : article_of c (article_rule a) ≡ a =
    made_again (article_of c) p.articles (λ (x : Article). bytes_eq table x.table) a (ap (λ (x : Publication). x.articles) stands.makes) found in
    record {
      once = found_once [] (map article_rule p.articles) (λ (x : ArticleRule). bytes_eq table x.table) (article_rule a) once rule;
      there = absent_parts (article_rule a) t (subst (λ (o : Option Table). absent_in (article_rule a) o ≡ None) over absent);
      key = subst (λ (o : Option Table). key_outside (article_rule a) o ≡ None) over key;
      makes = ap (λ (o : Option Table). columns_of (article_rule a) o) (sym over) ∙ ap (λ (x : Article). x.columns) made;
    }

-- the key's columns are among those of the article
keys_among : (t : Table) (a : Article) → TableStands t → ArticleFacts t a → AllByRecursion (λ n. has a.columns n ≡ true) (key_names t)
unfolding key_outside
keys_among t a stands facts = go (nat_eq (length a.columns) 0) refl facts.key facts.makes where
  as_columns : (n : List ℕ) (cs : List Column) → list_any (λ (c : Column). bytes_eq n (column_name c)) cs ≡ has (map column_name cs) n
  as_columns n [] = refl
  as_columns n (c ∷ cs) = ap (λ b. bytes_eq n c.name || b) (as_columns n cs)

  of_table : (ns : List (List ℕ)) → AllByRecursion (λ n. has_column t n ≡ true) ns → column_names t ≡ a.columns → AllByRecursion (λ n. has a.columns n ≡ true) ns
  of_table [] all e = tt
  of_table (n ∷ ns) all e = (ap (λ (xs : List (List ℕ)). has xs n) (sym e) ∙ (sym (as_columns n t.columns) ∙ all.0), of_table ns all.1 e)

  go : (b : Bool) → nat_eq (length a.columns) 0 ≡ b → cond b None (key_lacking (article_rule a) t) ≡ None → cond b (column_names t) a.columns ≡ a.columns
      → AllByRecursion (λ n. has a.columns n ≡ true) (key_names t)
  go true e key makes = of_table (key_names t) (absent_none (has_column t) (key_names t) (key_inside t stands)) makes
  go false e key makes = absent_none (has a.columns) (key_names t) (option_map-None (λ (n : List ℕ). (a.table, n)) (first_absent (has a.columns) (key_names t)) key)

in_order : (c : Lists) (user : List ℕ) (t : Table) (p : List ℕ) (a : Article) → TableStands t → ArticleFacts t a → IsInOrder (subscribed_table_by c user t (p, a))
in_order c user t p a stands facts =
    let there = absent_none (has_column t) a.columns facts.there in
    let names : map column_name (columns t a.columns) ≡ a.columns = names_again t a.columns there in
    let distinct = distinct_from a.columns facts.once in
    record {
      places = are_at t a.columns there;
      distinct = subst AreDistinct (sym names) distinct;
      few = few_columns distinct there;
      key = subst (λ (xs : List (List ℕ)). AllByRecursion (λ n. has xs n ≡ true) (key_names t)) (sym names) (keys_among t a stands facts);
    } where
      among : (ns : List (List ℕ)) → AllByRecursion (λ n. has_column t n ≡ true) ns → AllByRecursion (λ n. has (column_names t) n ≡ true) ns
      among [] all = tt
      among (n ∷ ns) all = (sym (as_columns n t.columns) ∙ all.0, among ns all.1) where
        as_columns : (n : List ℕ) (cs : List Column) → list_any (λ (x : Column). bytes_eq n (column_name x)) cs ≡ has (map column_name cs) n
        as_columns n [] = refl
        as_columns n (x ∷ cs) = ap (λ b. bytes_eq n x.name || b) (as_columns n cs)

      few_columns : AreDistinct a.columns → AllByRecursion (λ n. has_column t n ≡ true) a.columns → length (columns t a.columns) ≤ length t.columns
      few_columns d all =
          let most : length a.columns ≤ length (column_names t) = no_more a.columns (column_names t) d (among a.columns all) in
          let one : length (map column_name (columns t a.columns)) ≡ length a.columns = ap length (names_again t a.columns all) in
          let two : length (map column_name (columns t a.columns)) ≡ length (columns t a.columns) = length-map (columns t a.columns) column_name in
          let three : length (column_names t) ≡ length t.columns = length-map t.columns column_name in
          omega arith

-- ---- the laws

pub table_has_key : (c : Lists) (name : List ℕ) (t : Table) → IsMadeByStatements c → table_named c name ≡ Some t → HasKey t
table_has_key c name t made e = has_key t (found_in TableStands (λ (x : Table). bytes_eq name x.name) c.tables t (made_stands c made).each_table e)

article_source : (c : Lists) (user table : List ℕ) (xs : List Subscription) (q : List ℕ × Article) → first_among (source_in c user table) xs ≡ Some q
    → (s : Subscription) × (article_in c table s ≡ Some q.1)
article_source c user table [] q e = cc
article_source c user table (s ∷ xs) q e = go (source_in c user table s) refl e (article_source c user table xs q) where
  go : (o : Option (List ℕ × Article)) → source_in c user table s ≡ o → first_of o (first_among (source_in c user table) xs) ≡ Some q
      → (first_among (source_in c user table) xs ≡ Some q → (r : Subscription) × (article_in c table r ≡ Some q.1)) → (r : Subscription) × (article_in c table r ≡ Some q.1)
  go None is h rest = rest h
  go (Some v) is h rest =
      let parts = source_parts c user table s v is in
      (s, parts.2 ∙ ap (λ (x : List ℕ × Article). Some x.1) (sym parts.3 ∙ some_is h))

stands_found : (c : Lists) (table : List ℕ) (s : Subscription) (a : Article) (t : Table) → IsMadeByStatements c → article_in c table s ≡ Some a → table_named c table ≡ Some t → ArticleFacts t a
stands_found c table s a t made e is_named = go (named publication_name s.publication c.publications) refl where
  go : (o : Option Publication) → named publication_name s.publication c.publications ≡ o → ArticleFacts t a
  go None f = let none : article_in c table s ≡ None = ap (λ (x : Option Publication). find (λ (y : Article). bytes_eq table y.table) (articles_of x)) f in absurd (cc (e, none))
  go (Some p) f = article_facts c.tables p table a t
      (found_in (PublicationStands c.tables) (λ (x : Publication). bytes_eq s.publication (publication_name x)) c.publications p (made_stands c made).each_publication f)
      (ap (λ (x : Option Publication). find (λ (y : Article). bytes_eq table y.table) (articles_of x)) (sym f) ∙ e) is_named

pub subscribed_table_in_order : (c : Lists) (user table : List ℕ) (s : SubscribedTable) → IsMadeByStatements c → subscribed_table_of c user table ≡ Some s → IsInOrder s
unfolding subscribed_table_of
subscribed_table_in_order c user table s made e = go (table_named c table) refl (source_of c user table) refl e where
  go : (o : Option Table) → table_named c table ≡ o → (q : Option (List ℕ × Article)) → source_of c user table ≡ q → subscribed_table_in c user o q ≡ Some s → IsInOrder s
  go None n q f h = cc
  go (Some t) n None f h = cc
  go (Some t) n (Some (p, a)) f h =
      let by = article_source c user table c.subscriptions (p, a) f in
      subst IsInOrder (some_is h) (in_order c user t p a
      (found_in TableStands (λ (x : Table). bytes_eq table x.name) c.tables t (made_stands c made).each_table n)
      (stands_found c table by.0 a t made by.1 n))
