-- What catalogs keep that accepted statements have made.
use Rattle.std.proofs.Common.{◌≡◌, ℕ, Bool, true, false, cond, not, List, [], ◌∷◌, ◌++◌, length, map, Option, Some, None, is_some, nat_eq, refl, ap, sym, ◌∙◌}
use Rattle.std.specs.Prelude.{bytes_eq}
use Rattle.std.specs.List.{AllByRecursion}
use Rattle.std.proofs.lemmas.Bool.{or_parts, not-false, true≢false}
use Rattle.std.proofs.lemmas.List.Folds.{list_any-append}
use Rattle.std.proofs.lemmas.Slice.Eq.{bytes_eq-Decides}
use Rattle.sr_ast.specs.Chains.{Chain}
use Rattle.sr_ast.specs.Chains.Chain.{done, set, insert, when, choose}
use Rattle.sr_ast.specs.Classes.{class_in}
use Rattle.sr_ast.specs.Exprs.{term_of}
use Rattle.sr_ast.specs.Uses.{gives_truth, is_plain}
use Rattle.sr_ast.specs.declared.create.ArticleRule.{ArticleRule}
use Rattle.sr_ast.specs.declared.expr.Expr.{Expr}
use Rattle.sr_ast.specs.declared.stmt.Stmt.TheVariants as stmt
use Rattle.sr_catalog_change.specs.Changes.{refusal}
use Rattle.sr_catalog_ddl.specs.Publications.{twice_in_articles, absent_column, absent_in, is_bad_where, is_bad_by, is_bad_article, key_lacking, key_outside, key_outside_columns, table_in, create_publication_causes, columns_of, article_of, publication_of}
use Rattle.sr_catalog_ddl.specs.Users.{grant_causes, is_taken}
use Rattle.sr_ast.specs.Normal.{IsNoneOr}
use Rattle.sr_logform.specs.Rules.{AreDistinct}
use Rattle.sr_publish.specs.Inner.Laws.{HasKey}
use Rattle.sr_publish.proofs.Orderly.{distinct_from, table_has_key}
use Rattle.sr_publish.proofs.Sources.{one_source}
use Rattle.sr_catalog_script_laws.specs.Scripts.{IsMadeByStatements, article_rule, grant_of, grant_rule}
use Rattle.sr_catalog_script_laws.proofs.ReplayCauses.{NoCause, no_cause_of, all_there, first_of-None, option_map-None, where_true-None}
use Rattle.sr_catalog_script_laws.proofs.ReplayLists.{AllByRecursion-step}
use Rattle.sr_catalog_script_laws.proofs.ReplayNexts.{made_stands}
use Rattle.sr_catalog_script_laws.proofs.Standing.{InOrder, HasRoom, UserStands, PublicationStands, TriggerStands, only_tables, publication_rule}
use Rattle.sr_catalog_schema.proofs.Places.{list_any-map}
use Rattle.sr_catalog_schema.specs.Catalogs.{Lists, nothing_but}
use Rattle.sr_catalog_schema.specs.Firsts.{first_of, first_among, first_absent, first_twice, has, where_true}
use Rattle.sr_catalog_schema.specs.Members.{column_name, column_names, has_column, key_names, publication_name, scope_of, table_name, trigger_name, user_name}
use Rattle.sr_catalog_schema.specs.Names.{named, taken}
use Rattle.sr_catalog_schema.specs.declared.publication.Article.{Article}
use Rattle.sr_catalog_schema.specs.declared.publication.Publication.{Publication}
use Rattle.sr_catalog_schema.specs.declared.table.Table.{Table}
use Rattle.sr_catalog_schema.specs.declared.trigger.Trigger.{Trigger}
use Rattle.sr_catalog_schema.specs.declared.user.User.{User}
use Rattle.sr_catalog_triggers.specs.Triggers.{Part, absent_in_part, is_bad_part, trigger_scope, absent_in_trigger, bad_in_trigger, create_trigger_causes, first_in, twice_in, variable_name}
use Rattle.sr_catalog_triggers.specs.Triggers.Part.{assigned, inserted, tested}
use Rattle.sr_catalog_laws.specs.Inner.Keeping.{IsCondition, IsSource, IsSoundArticle, AreSoundArticles, EachPart, IsTypedPart, IsSoundTrigger, IsSoundCatalog}

-- ---- names, each once

InOrder-step : {A : Type 0} (P Q : List A → A → Type 0) → ((before : List A) (x : A) → P before x → Q before x) → (before xs : List A) → InOrder P before xs → InOrder Q before xs
InOrder-step P Q step before [] all = tt
InOrder-step P Q step before (x ∷ xs) all = (step before x all.0, InOrder-step P Q step (before ++ x ∷ []) xs all.1)

module _ {T : Type 0} (name_of : T → List ℕ) where
  abbrev IsNew : List T → T → Type 0
  IsNew before x = taken name_of (name_of x) before ≡ false

  -- what is new behind one more is new before it, and has another name
  split_new : (before : List T) (x : T) (ys : List T) → AllByRecursion (IsNew (before ++ x ∷ [])) ys
      → AllByRecursion (IsNew before) ys × AllByRecursion (λ y. bytes_eq (name_of y) (name_of x) ≡ false) ys
  split_new before x [] all = (tt, tt)
  split_new before x (y ∷ ys) all =
      let apart =
      or_parts (taken name_of (name_of y) before) (taken name_of (name_of y) (x ∷ [])) (sym (list_any-append (λ t. bytes_eq (name_of y) (name_of t)) before (x ∷ [])) ∙ all.0) in
      let rest = split_new before x ys all.1 in
      ((apart.0, rest.0), ((or_parts (bytes_eq (name_of y) (name_of x)) false apart.1).0, rest.1))

  other_names : (x : T) (ys : List T) → AllByRecursion (λ y. bytes_eq (name_of y) (name_of x) ≡ false) ys → AllByRecursion (λ n. ¬ (name_of x ≡ n)) (map name_of ys)
  other_names x [] all = tt
  other_names x (y ∷ ys) all = (λ e. true≢false (sym ((bytes_eq-Decides (name_of y) (name_of x)).1 (sym e)) ∙ all.0), other_names x ys all.1)

  distinct_names : (before xs : List T) → InOrder IsNew before xs → AllByRecursion (IsNew before) xs × AreDistinct (map name_of xs)
  distinct_names before [] all = (tt, tt)
  distinct_names before (x ∷ xs) all =
      let rest = distinct_names (before ++ x ∷ []) xs all.1 in
      let split = split_new before x xs rest.0 in
      ((all.0, split.0), (other_names x xs split.1, rest.1))

  -- things that had room, each behind those before it
  names_once : (limit : ℕ) (xs : List T) → InOrder (HasRoom name_of limit) [] xs → AreDistinct (map name_of xs)
  names_once limit xs all = (distinct_names [] xs (InOrder-step (HasRoom name_of limit) IsNew (λ before x room. room.is_new) [] xs all)).1

user_is_new : (publisher : List ℕ) (before : List User) (u : User) → UserStands publisher before u → taken user_name u.name before ≡ false
unfolding grant_of grant_causes
user_is_new publisher before u stands = by u.above stands.accepted
  where
    by : (b : Bool) → refusal (record (nothing_but publisher) { users = before }) (cond b (stmt.GrantConsolidate (grant_rule u)) (stmt.GrantRemote (grant_rule u))) ≡ None
        → taken user_name u.name before ≡ false
    by true h =
        let c = record (nothing_but publisher) { users = before } in
        let none : NoCause (grant_causes c true (grant_rule u)) = no_cause_of c (stmt.GrantConsolidate (grant_rule u)) h in
        (or_parts (taken user_name u.name before) _ (where_true-None (is_taken c true u.name) u.name none.exists)).0
    by false h =
        let c = record (nothing_but publisher) { users = before } in
        let none : NoCause (grant_causes c false (grant_rule u)) = no_cause_of c (stmt.GrantRemote (grant_rule u)) h in
        (or_parts (taken user_name u.name before) _ (where_true-None (is_taken c false u.name) u.name none.exists)).0

users_once : (publisher : List ℕ) (us : List User) → InOrder (UserStands publisher) [] us → AreDistinct (map user_name us)
users_once publisher us all = (distinct_names user_name [] us (InOrder-step (UserStands publisher) (IsNew user_name) (user_is_new publisher) [] us all)).1

-- ---- articles

-- nothing speaks against an article, and its columns are written out
record Clear (tables : List Table) (a : Article) : Type 0 where
  once : first_twice a.columns ≡ None
  absent : absent_in (article_rule a) (named table_name a.table tables) ≡ None
  good : is_bad_article (article_rule a) (named table_name a.table tables) ≡ false
  key : key_outside (article_rule a) (named table_name a.table tables) ≡ None
  makes : columns_of (article_rule a) (named table_name a.table tables) ≡ a.columns

all_clear : (tables : List Table) (before : List (List ℕ)) (xs : List Article) → twice_in_articles before (map article_rule xs) ≡ None
    → first_among (λ (a : ArticleRule). absent_in a (table_in (only_tables tables) a)) (map article_rule xs) ≡ None
    → first_among (λ (a : ArticleRule). where_true (is_bad_article a (table_in (only_tables tables) a)) a.table) (map article_rule xs) ≡ None
    → first_among (λ (a : ArticleRule). key_outside a (table_in (only_tables tables) a)) (map article_rule xs) ≡ None
    → map (article_of (only_tables tables)) (map article_rule xs) ≡ xs → AllByRecursion (Clear tables) xs
all_clear tables before [] twice absent bad key makes = tt
all_clear tables before (x ∷ xs) twice absent bad key makes =
    let new = first_of-None (where_true (has before x.table) x.table) _ twice in
    let once = first_of-None (first_twice x.columns) _ new.1 in
    let there = first_of-None (absent_in (article_rule x) (table_in (only_tables tables) (article_rule x))) _ absent in
    let good = first_of-None (where_true (is_bad_article (article_rule x) (table_in (only_tables tables) (article_rule x))) x.table) _ bad in
    let inside = first_of-None (key_outside (article_rule x) (table_in (only_tables tables) (article_rule x))) _ key in
    let first : article_of (only_tables tables) (article_rule x) ≡ x = cc in
    let rest : map (article_of (only_tables tables)) (map article_rule xs) ≡ xs = cc in (
      record { once = once.0; absent = there.0; good = where_true-None _ _ good.0; key = inside.0; makes = ap (λ (a : Article). a.columns) first },
      all_clear tables (before ++ x.table ∷ []) xs once.1 there.1 good.1 inside.1 rest,
    )

condition_of : (t : Table) (o : Option Expr) → is_bad_where t o ≡ false → IsNoneOr (IsCondition t) o
unfolding is_bad_where
condition_of t None h = tt
condition_of t (Some e) h =
    let parts = or_parts (not (is_plain (term_of e))) (not (gives_truth (class_in (scope_of t) (term_of e)))) h in
    (not-false _ parts.0, not-false _ parts.1)

source_of : (t : Table) (o : Option Expr) → is_bad_by o ≡ false → absent_column t o ≡ None → IsNoneOr (IsSource t) o
unfolding absent_column
source_of t None h absent = tt
source_of t (Some e) h absent = (h, absent)

of_table : (t : Table) (columns : List (List ℕ)) → column_names t ≡ columns → (ns : List (List ℕ)) → AllByRecursion (λ n. has_column t n ≡ true) ns
    → AllByRecursion (λ n. has columns n ≡ true) ns
of_table t columns e [] all = tt
of_table t columns e (n ∷ ns) all =
    (ap (λ (xs : List (List ℕ)). has xs n) (sym e) ∙ (list_any-map (bytes_eq n) column_name t.columns ∙ all.0), of_table t columns e ns all.1)

keys_among : (t : Table) (a : Article) → HasKey t → key_outside_columns (article_rule a) t ≡ None → columns_of (article_rule a) (Some t) ≡ a.columns
    → AllByRecursion (λ n. has a.columns n ≡ true) (key_names t)
keys_among t a key outside makes =
    elim (nat_eq (length a.columns) 0) as (λ b. cond b None (key_lacking (article_rule a) t) ≡ None → cond b (column_names t) a.columns ≡ a.columns
    → AllByRecursion (λ n. has a.columns n ≡ true) (key_names t)) [
      | true ↦ λ o m. of_table t a.columns m (key_names t) key.key
      | false ↦ λ o m. all_there (has a.columns) (key_names t) (option_map-None (λ (n : List ℕ). (a.table, n)) (first_absent (has a.columns) (key_names t)) o)
    ] outside makes

sound_article : (tables : List Table) → ((name : List ℕ) (t : Table) → named table_name name tables ≡ Some t → HasKey t) → (a : Article) → Clear tables a → IsSoundArticle tables a
unfolding absent_in is_bad_article key_outside
sound_article tables keys a clear = by (named table_name a.table tables) refl clear.absent clear.good clear.key clear.makes
  where
    by : (o : Option Table) → named table_name a.table tables ≡ o → absent_in (article_rule a) o ≡ None → is_bad_article (article_rule a) o ≡ false
        → key_outside (article_rule a) o ≡ None → columns_of (article_rule a) o ≡ a.columns → IsSoundArticle tables a
    by None e absent good key makes = absurd (cc)
    by (Some t) e absent good key makes =
        let there = first_of-None (first_absent (has_column t) a.columns) _ absent in
        let exprs = first_of-None (absent_column t a.condition) (absent_column t a.by) there.1 in
        let uses = or_parts (is_bad_where t a.condition) (is_bad_by a.by) good in
        record {
          table = t;
          there = e;
          columns = all_there (has_column t) a.columns there.0;
          distinct = distinct_from a.columns clear.once;
          key = keys_among t a (keys a.table t e) key makes;
          condition = condition_of t a.condition uses.0;
          by = source_of t a.by uses.1 exprs.1;
        }

sound_articles : (tables : List Table) → ((name : List ℕ) (t : Table) → named table_name name tables ≡ Some t → HasKey t) → (p : Publication) → PublicationStands tables p
    → AreSoundArticles tables p
unfolding create_publication_causes publication_of
sound_articles tables keys p stands =
    let c = only_tables tables in
    let none : NoCause (create_publication_causes c (publication_rule p)) = no_cause_of c (stmt.CreatePublication (publication_rule p)) stands.accepted in
    let twice = first_of-None (where_true (taken publication_name p.name []) p.name) (twice_in_articles [] (map article_rule p.articles)) none.exists in
    AllByRecursion-step (Clear tables) (IsSoundArticle tables) (sound_article tables keys) p.articles
    (all_clear tables [] p.articles twice.1 none.missing none.bad_type none.key_outside (ap (λ (q : Publication). q.articles) stands.makes))

-- ---- triggers

each_part : {A B : Type 0} (f : Part → Option A) (g : Part → Option B) (P : Part → Type 0) → ((part : Part) → f part ≡ None → g part ≡ None → P part) → (actions : Chain)
    → first_in f actions ≡ None → first_in g actions ≡ None → EachPart P actions
each_part f g P step done a b = tt
each_part f g P step (set alias n v rest) a b =
    let x = first_of-None (f (assigned alias n v)) _ a in
    let y = first_of-None (g (assigned alias n v)) _ b in
    (step _ x.0 y.0, each_part f g P step rest x.1 y.1)
each_part f g P step (insert t cs vs rest) a b =
    let x = first_of-None (f (inserted t cs vs)) _ a in
    let y = first_of-None (g (inserted t cs vs)) _ b in
    (step _ x.0 y.0, each_part f g P step rest x.1 y.1)
each_part f g P step (when c taken_ rest) a b =
    let x = first_of-None (f (tested c)) _ a in
    let y = first_of-None (g (tested c)) _ b in
    let v = first_of-None (first_in f taken_) _ x.1 in
    let w = first_of-None (first_in g taken_) _ y.1 in
    (step _ x.0 y.0, each_part f g P step taken_ v.0 w.0, each_part f g P step rest v.1 w.1)
each_part f g P step (choose c taken_ other rest) a b =
    let x = first_of-None (f (tested c)) _ a in
    let y = first_of-None (g (tested c)) _ b in
    let v = first_of-None (first_in f taken_) _ x.1 in
    let w = first_of-None (first_in g taken_) _ y.1 in
    let k = first_of-None (first_in f other) _ v.1 in
    let l = first_of-None (first_in g other) _ w.1 in
    (step _ x.0 y.0, each_part f g P step taken_ v.0 w.0, each_part f g P step other k.0 l.0, each_part f g P step rest k.1 l.1)

none_is : {A : Type 0} (o : Option A) → is_some o ≡ false → o ≡ None
none_is None h = refl
none_is (Some x) h = absurd (cc)

sound_trigger : (tables : List Table) (t : Trigger) → TriggerStands tables t → IsSoundTrigger tables t
unfolding create_trigger_causes absent_in_trigger bad_in_trigger
sound_trigger tables t stands =
    let c = only_tables tables in
    let none : NoCause (create_trigger_causes c stands.rule) = no_cause_of c (stmt.CreateTrigger stands.rule) stands.accepted in
    let twice = first_of-None (where_true (taken trigger_name stands.rule.name []) stands.rule.name) (first_of (first_twice stands.rule.columns) (first_in twice_in stands.rule.actions)) none.exists in
    by (first_of-None (first_twice stands.rule.columns) (first_in twice_in stands.rule.actions) twice.1).0 (named table_name stands.rule.table tables) refl none.missing none.bad_type
  where
    by : first_twice stands.rule.columns ≡ None → (o : Option Table) → named table_name stands.rule.table tables ≡ o → absent_in_trigger tables stands.rule o ≡ None
        → bad_in_trigger tables stands.rule o ≡ None → IsSoundTrigger tables t
    by once None e missing bad = absurd (cc)
    by once (Some table) e missing bad =
        let names = first_of-None (first_absent (has_column table) stands.rule.columns) _ missing in
        let parts = first_of-None (where_true (is_some (first_twice (map variable_name stands.rule.variables))) stands.rule.name) _ bad in
        record {
          rule = stands.rule;
          is = stands.is;
          table = table;
          there = e;
          columns = all_there (has_column table) stands.rule.columns names.0;
          distinct = distinct_from stands.rule.columns once;
          variables = distinct_from (map variable_name stands.rule.variables) (none_is _ (where_true-None _ _ parts.0));
          actions = each_part (absent_in_part tables stands.rule.aliases (trigger_scope stands.rule table))
              (λ part. where_true (is_bad_part stands.rule tables table (trigger_scope stands.rule table) part) stands.rule.name)
              (IsTypedPart tables stands.rule table) (λ part all_there fine. (all_there, where_true-None _ _ fine)) stands.rule.actions names.1 parts.1;
        }

-- ---- catalogs

pub sound_catalog : (c : Lists) → IsMadeByStatements c → IsSoundCatalog c
sound_catalog c made =
    let stands = made_stands c made in
    let keys : (name : List ℕ) (t : Table) → named table_name name c.tables ≡ Some t → HasKey t = λ name t e. table_has_key c name t made e in
    record {
      users = users_once c.publisher c.users stands.users;
      tables = names_once table_name 256 c.tables stands.tables;
      publications = names_once publication_name 256 c.publications stands.publications;
      triggers = names_once trigger_name 1024 c.triggers stands.triggers;
      keys = keys;
      articles = AllByRecursion-step (PublicationStands c.tables) (AreSoundArticles c.tables) (sound_articles c.tables keys) c.publications stands.each_publication;
      actions = AllByRecursion-step (TriggerStands c.tables) (IsSoundTrigger c.tables) (sound_trigger c.tables) c.triggers stands.each_trigger;
      sources = λ user table. one_source c user table made;
    }
