-- Publications behind one another: what CREATE PUBLICATION made is made again by its own statement, with its columns written out.
use Rattle.std.proofs.Common.{◌≡◌, ℕ, Bool, true, false, cond, List, [], ◌∷◌, ◌++◌, length, map, Option, Some, None, refl, ap, sym, ◌∙◌, subst, find}
use Rattle.std.specs.Prelude.{bytes_eq, nat_eq, nat_le, nat_lt}
use Rattle.std.specs.List.{list_any, AllByRecursion}
use Rattle.std.specs.Option.{is_some}
use Rattle.std.proofs.lemmas.Bool.{or_left, or_right}
use Rattle.std.proofs.lemmas.List.{length-map}
use Rattle.std.proofs.lemmas.Slice.Eq.{bytes_eq-Decides}
use Rattle.sr_ast.specs.declared.create.CreatePublication.{CreatePublication}
use Rattle.sr_ast.specs.declared.create.ArticleRule.{ArticleRule}
use Rattle.sr_ast.specs.declared.stmt.Stmt.TheVariants as stmt
use Rattle.sr_catalog_schema.specs.Catalogs.{Lists}
use Rattle.sr_catalog_schema.specs.Causes.{first_fault}
use Rattle.sr_catalog_change.specs.Changes.{refusal, next, publication_names}
use Rattle.sr_catalog_schema.specs.Firsts.{first_among, where_true, has, first_twice, first_absent}
use Rattle.sr_catalog_schema.specs.Names.{named, taken, without}
use Rattle.sr_catalog_schema.specs.Members.{publication_name, key_names, table_name, column_name, has_column, column_names}
use Rattle.sr_catalog_ddl.specs.Publications.{twice_in_articles, absent_in, is_bad_article, key_outside, table_in, create_publication_causes, columns_of, article_of, publication_of}
use Rattle.sr_catalog_script_laws.specs.Scripts.{article_rule, create_publication_of}
use Rattle.sr_catalog_schema.specs.declared.table.Table.{Table}
use Rattle.sr_catalog_schema.specs.declared.table.Column.{Column}
use Rattle.sr_catalog_schema.specs.declared.publication.Publication.{Publication}
use Rattle.sr_catalog_schema.specs.declared.publication.Article.{Article}
use Rattle.sr_catalog_schema.proofs.Places.{list_any-map}
use Rattle.sr_catalog_script_laws.proofs.ReplayCauses.{NoCause, no_cause_of, where_true-None, first_of-None}
use Rattle.sr_catalog_script_laws.proofs.ReplayLists.{AllByRecursion-step, AllByRecursion-both, AllByRecursion-map, AllByRecursion-unmap, none_passes, map_alike, found_as_taken, find_more, named-without}
use Rattle.sr_catalog_script_laws.proofs.ReplayTables.{columns_once, key_inside}
use Rattle.sr_catalog_script_laws.proofs.Standing.{HasRoom, TableStands, PublicationStands, publication_rule, only_tables}

-- ---- what speaks against CREATE PUBLICATION, article by article

-- nothing speaks against an article over its table
record ArticleFits (found : Option Table) (a : ArticleRule) : Type 0 where
  absent : absent_in a found ≡ None
  good : is_bad_article a found ≡ false
  key : key_outside a found ≡ None
  once : first_twice a.columns ≡ None

-- nothing speaks against CREATE PUBLICATION
record Fits (c : Lists) (p : CreatePublication) : Type 0 where
  is_new : taken publication_name p.name c.publications ≡ false
  once : twice_in_articles [] p.articles ≡ None
  articles : AllByRecursion (λ a. ArticleFits (table_in c a) a) p.articles
  room : nat_le 256 (length c.publications) ≡ false
  few : nat_lt 64 (length p.articles) ≡ false

none_among : {A B : Type 0} (f : A → Option B) (xs : List A) → first_among f xs ≡ None → AllByRecursion (λ x. f x ≡ None) xs
none_among f [] h = tt
none_among f (x ∷ xs) h = let parts = first_of-None (f x) _ h in (parts.0, none_among f xs parts.1)

first_among-none : {A B : Type 0} (f : A → Option B) (xs : List A) → AllByRecursion (λ x. f x ≡ None) xs → first_among f xs ≡ None
first_among-none f [] all = refl
first_among-none f (x ∷ xs) (first, rest) = rw first (first_among-none f xs rest)

columns_twice : (before : List (List ℕ)) (articles : List ArticleRule) → twice_in_articles before articles ≡ None → AllByRecursion (λ a. first_twice a.columns ≡ None) articles
columns_twice before [] h = tt
columns_twice before (a ∷ rest) h =
    let one = first_of-None (where_true (has before a.table) a.table) _ h in
    let two = first_of-None (first_twice a.columns) _ one.1 in
    (two.0, columns_twice (before ++ a.table ∷ []) rest two.1)

fits_of : (c : Lists) (p : CreatePublication) → refusal c (stmt.CreatePublication p) ≡ None → Fits c p
unfolding create_publication_causes
fits_of c p h =
    let none : NoCause (create_publication_causes c p) = no_cause_of c (stmt.CreatePublication p) h in
    let names = first_of-None (where_true (taken publication_name p.name c.publications) p.name) _ none.exists in
    let many = first_of-None (where_true (nat_le 256 (length c.publications)) 256) _ none.too_many in
    let absent = none_among (λ (a : ArticleRule). absent_in a (table_in c a)) p.articles none.missing in
    let bad = none_among (λ (a : ArticleRule). where_true (is_bad_article a (table_in c a)) a.table) p.articles none.bad_type in
    let key = none_among (λ (a : ArticleRule). key_outside a (table_in c a)) p.articles none.key_outside in
    let columns = columns_twice [] p.articles names.1 in
    record {
      is_new = where_true-None _ _ names.0;
      once = names.1;
      articles =
          AllByRecursion-both (λ (a : ArticleRule). (absent_in a (table_in c a) ≡ None) × (key_outside a (table_in c a) ≡ None)) (λ (a : ArticleRule). (is_bad_article a (table_in c a) ≡ false) × (first_twice a.columns ≡ None)) _
          (λ a one two. record { absent = one.0; good = two.0; key = one.1; once = two.1 }) p.articles
          (AllByRecursion-both _ _ _ (λ a one two. (one, two)) p.articles absent key)
          (AllByRecursion-both _ _ _ (λ a one two. (where_true-None _ _ one, two)) p.articles bad columns);
      room = where_true-None _ _ many.0;
      few = where_true-None _ _ many.1;
    }

accepted_where : (c : Lists) (p : CreatePublication) → Fits c p → refusal c (stmt.CreatePublication p) ≡ None
unfolding refusal first_fault create_publication_causes
accepted_where c p fits =
    let absent : first_among (λ a. absent_in a (table_in c a)) p.articles ≡ None = first_among-none _ p.articles (AllByRecursion-step _ _ (λ a one. one.absent) p.articles fits.articles) in
    let bad : first_among (λ a. where_true (is_bad_article a (table_in c a)) a.table) p.articles ≡ None =
    first_among-none _ p.articles (AllByRecursion-step _ _ (λ a one. ap (λ (b : Bool). where_true b a.table) one.good) p.articles fits.articles) in
    let key : first_among (λ a. key_outside a (table_in c a)) p.articles ≡ None = first_among-none _ p.articles (AllByRecursion-step _ _ (λ a one. one.key) p.articles fits.articles) in
    rw (fits.is_new, fits.once, absent, bad, key, fits.room, fits.few) refl

-- ---- an article with its columns written out

abbrev written : ArticleRule → Option Table → ArticleRule
written a found = record { table = a.table; columns = columns_of a found; condition = a.condition; by = a.by }

abbrev with_columns : ArticleRule → List (List ℕ) → ArticleRule
with_columns a columns = record { table = a.table; columns = columns; condition = a.condition; by = a.by }

-- each column of a table is one of its columns
all_inside : (t : Table) (columns : List Column) → ((n : List ℕ) → list_any (λ c. bytes_eq n (column_name c)) columns ≡ true → has_column t n ≡ true)
    → first_absent (has_column t) (map column_name columns) ≡ None
all_inside t [] inside = refl
all_inside t (c ∷ columns) inside =
    let here : has_column t (column_name c) ≡ true = inside (column_name c) (or_left _ _ ((bytes_eq-Decides (column_name c) (column_name c)).1 refl)) in
    rw here (all_inside t columns (λ n h. inside n (or_right (bytes_eq n (column_name c)) _ h)))

key_in_columns : (t : Table) → TableStands t → first_absent (has (column_names t)) (key_names t) ≡ None
key_in_columns t stands =
    let e : (n : List ℕ) → has (column_names t) n ≡ has_column t n = λ n. list_any-map (bytes_eq n) column_name t.columns in
    let same : first_absent (has (column_names t)) (key_names t) ≡ first_absent (has_column t) (key_names t) = λ i. first_absent (λ n. e n i) (key_names t) in
    same ∙ key_inside t stands

cond-same : {A : Type 0} (b : Bool) (x : A) → cond b x x ≡ x
cond-same true x = refl
cond-same false x = refl

all_columns_fit : (t : Table) (a : ArticleRule) → TableStands t → ArticleFits (Some t) a → ArticleFits (Some t) (with_columns a (column_names t))
unfolding absent_in is_bad_article key_outside
all_columns_fit t a stands fits =
    let rest = (first_of-None (first_absent (has_column t) a.columns) _ fits.absent).1 in
    let inside : first_absent (has_column t) (column_names t) ≡ None = all_inside t t.columns (λ n h. h) in
    record {
      absent = rw inside rest;
      good = fits.good;
      key = rw (key_in_columns t stands) (cond-same (nat_eq (length (column_names t)) 0) None);
      once = columns_once t stands;
    }

columns_fit : (t : Table) (a : ArticleRule) (b : Bool) → TableStands t → ArticleFits (Some t) a → ArticleFits (Some t) (with_columns a (cond b (column_names t) a.columns))
columns_fit t a true stands fits = all_columns_fit t a stands fits
columns_fit t a false stands fits = fits

written_fits : (found : Option Table) (a : ArticleRule) → ((t : Table) → found ≡ Some t → TableStands t) → ArticleFits found a → ArticleFits found (written a found)
written_fits None a stands fits = fits
written_fits (Some t) a stands fits = columns_fit t a (nat_eq (length a.columns) 0) (stands t refl) fits

-- the table that is found is one of them
found_stands : (P : Table → Type 0) (test : Table → Bool) (tables : List Table) → AllByRecursion P tables → (t : Table) → find test tables ≡ Some t → P t
found_stands P test [] all t h = absurd (cc)
found_stands P test (x ∷ tables) (first, rest) t h =
    elim (test x) as (λ b. cond b (Some x) (find test tables) ≡ Some t → P t) [
      | true ↦ λ e. let same : x ≡ t = cc in subst P same first
      | false ↦ λ e. found_stands P test tables rest t e
    ] h

-- the columns stay as they are written
columns_stay : (a : ArticleRule) (found : Option Table) → columns_of (written a found) found ≡ columns_of a found
columns_stay a None = refl
columns_stay a (Some t) =
    elim (nat_eq (length a.columns) 0) as (λ b. nat_eq (length a.columns) 0 ≡ b
    → columns_of (with_columns a (cond b (column_names t) a.columns)) (Some t) ≡ cond b (column_names t) a.columns) [
      | true ↦ λ e. cond-same (nat_eq (length (column_names t)) 0) (column_names t)
      | false ↦ λ e. ap (λ (x : Bool). cond x (column_names t) a.columns) e
    ] refl

-- ---- an accepted CREATE PUBLICATION

-- its articles as they are written in its own statement
abbrev rewritten : Lists → ArticleRule → ArticleRule
rewritten c a = article_rule (article_of c a)

tables_once : (c : Lists) (before : List (List ℕ)) (articles : List ArticleRule) → twice_in_articles before articles ≡ None
    → AllByRecursion (λ a. first_twice (rewritten c a).columns ≡ None) articles → twice_in_articles before (map (rewritten c) articles) ≡ None
tables_once c before [] h all = refl
tables_once c before (a ∷ rest) h (first, others) =
    let one = first_of-None (where_true (has before a.table) a.table) _ h in
    let two = first_of-None (first_twice a.columns) _ one.1 in
    rw (one.0, first) (tables_once c (before ++ a.table ∷ []) rest two.1 others)

map-twice : (c : Lists) (articles : List ArticleRule) → map article_rule (map (article_of c) articles) ≡ map (rewritten c) articles
map-twice c [] = refl
map-twice c (a ∷ rest) = ap (λ (more : List ArticleRule). rewritten c a ∷ more) (map-twice c rest)

abbrev rule_with : List ℕ → List ArticleRule → CreatePublication
rule_with name articles = record { name = name; articles = articles }

abbrev article_with : ArticleRule → List (List ℕ) → Article
article_with a columns = record { table = a.table; columns = columns; condition = a.condition; by = a.by }

articles_again : (c d : Lists) (articles : List ArticleRule) → c.tables ≡ d.tables → map (article_of d) (map article_rule (map (article_of c) articles)) ≡ map (article_of c) articles
articles_again c d [] same = refl
articles_again c d (a ∷ rest) same =
    let table : table_in d a ≡ table_in c a = ap (λ (tables : List Table). named table_name a.table tables) (sym same) in
    let one : article_of d (rewritten c a) ≡ article_of c a =
    ap (λ (found : Option Table). article_with a (columns_of (rewritten c a) found)) table ∙ ap (article_with a) (columns_stay a (table_in c a)) in
    cc (one, articles_again c d rest same)

rewritten_fit : (c d : Lists) (p : CreatePublication) → c.tables ≡ d.tables → d.publications ≡ [] → AllByRecursion TableStands c.tables → Fits c p
    → Fits d (rule_with p.name (map (rewritten c) p.articles))
rewritten_fit c d p same none tables fits =
    let each : AllByRecursion (λ a. ArticleFits (table_in c a) (rewritten c a)) p.articles =
    AllByRecursion-step _ _ (λ a one. written_fits (table_in c a) a (λ t is. found_stands TableStands _ c.tables tables t is) one) p.articles fits.articles in
    record {
      is_new = ap (λ (ps : List Publication). taken publication_name p.name ps) none;
      once = tables_once c [] p.articles fits.once (AllByRecursion-step _ _ (λ a one. one.once) p.articles each);
      articles = AllByRecursion-map _ (rewritten c) p.articles
          (AllByRecursion-step _ _ (λ a one. subst (λ (found : Option Table). ArticleFits found (rewritten c a)) (ap (λ (ts : List Table). named table_name a.table ts) same) one) p.articles each);
      room = ap (λ (ps : List Publication). nat_le 256 (length ps)) none;
      few = ap (nat_lt 64) (length-map p.articles (rewritten c)) ∙ fits.few;
    }

-- an accepted CREATE PUBLICATION makes a publication that stands
pub publication_made : (c : Lists) (p : CreatePublication) → AllByRecursion TableStands c.tables → refusal c (stmt.CreatePublication p) ≡ None
    → HasRoom publication_name 256 c.publications (publication_of c p) × PublicationStands c.tables (publication_of c p)
unfolding publication_of
publication_made c p tables h =
    let fits = fits_of c p h in
    let d : Lists = only_tables c.tables in (
      record { is_new = fits.is_new; has_room = fits.room },
      record {
        accepted =
            ap (λ (articles : List ArticleRule). refusal d (stmt.CreatePublication (rule_with p.name articles))) (map-twice c p.articles)
            ∙ accepted_where d _ (rewritten_fit c d p refl refl tables fits);
        makes = ap (λ (articles : List Article). record { name = p.name; articles = articles }) (articles_again c d p.articles refl);
      },
    )

-- ---- a publication that stands

-- where nothing speaks against its articles, nothing does behind others
fits_behind : (c d : Lists) (p : CreatePublication) → c.tables ≡ d.tables → taken publication_name p.name d.publications ≡ false → nat_le 256 (length d.publications) ≡ false → Fits c p → Fits d p
fits_behind c d p same is_new room fits = record {
  is_new = is_new;
  once = fits.once;
  articles = AllByRecursion-step _ _ (λ a one. subst (λ (found : Option Table). ArticleFits found a) (ap (λ (ts : List Table). named table_name a.table ts) same) one) p.articles fits.articles;
  room = room;
  few = fits.few;
}

-- where a publication stands, its statement is accepted, and makes it
pub publication_again : (c : Lists) (p : Publication) → HasRoom publication_name 256 c.publications p → PublicationStands c.tables p → refusal c (create_publication_of p) ≡ None
unfolding create_publication_of
publication_again c p room stands =
    accepted_where c (publication_rule p) (fits_behind (only_tables c.tables) c (publication_rule p) refl room.is_new room.has_room (fits_of _ (publication_rule p) stands.accepted))

pub publication_next : (c : Lists) (p : Publication) → PublicationStands c.tables p → next c (create_publication_of p) ≡ record c { publications = c.publications ++ p ∷ [] }
unfolding create_publication_of next publication_of
publication_next c p stands = ap (λ (made : Publication). record c { publications = c.publications ++ made ∷ [] }) stands.makes

-- ---- over other tables

fits_there : (a : ArticleRule) (found : Option Table) → ArticleFits found a → is_some found ≡ true
unfolding absent_in
fits_there a None fits = let h = fits.absent in absurd (cc)
fits_there a (Some t) fits = refl

-- each table that it names is there
pub articles_there : (tables : List Table) (p : Publication) → PublicationStands tables p → AllByRecursion (λ (a : Article). taken table_name a.table tables ≡ true) p.articles
articles_there tables p stands =
    AllByRecursion-unmap (λ (a : ArticleRule). taken table_name a.table tables ≡ true) article_rule p.articles
    (AllByRecursion-step _ _ (λ a one. found_as_taken _ tables ∙ fits_there a (named table_name a.table tables) one) (map article_rule p.articles) (fits_of _ (publication_rule p) stands.accepted).articles)

moved : (before after : List Table) (p : Publication) → AllByRecursion (λ a. named table_name a.table after ≡ named table_name a.table before) p.articles
    → PublicationStands before p → PublicationStands after p
unfolding publication_of
moved before after p same stands =
    let fits = fits_of _ (publication_rule p) stands.accepted in
    let rules : AllByRecursion (λ a. named table_name a.table after ≡ named table_name a.table before) (map article_rule p.articles) = AllByRecursion-map _ article_rule p.articles same in
    record {
      accepted = accepted_where (only_tables after) (publication_rule p) (record {
        is_new = refl;
        once = fits.once;
        articles = AllByRecursion-both _ _ _ (λ a e one. subst (λ (found : Option Table). ArticleFits found a) (sym e) one) (map article_rule p.articles) rules fits.articles;
        room = refl;
        few = fits.few;
      });
      makes =
          ap (λ (articles : List Article). record { name = p.name; articles = articles })
          (map_alike (article_of (only_tables after)) (article_of (only_tables before)) (map article_rule p.articles)
          (AllByRecursion-step _ _ (λ a e. ap (λ (found : Option Table). article_with a (columns_of a found)) e) (map article_rule p.articles) rules))
          ∙ stands.makes;
    }

-- one more table does not touch it, nor does one less that it does not name
pub publication_with_table : (tables : List Table) (t : Table) (p : Publication) → PublicationStands tables p → PublicationStands (tables ++ t ∷ []) p
publication_with_table tables t p stands =
    moved tables (tables ++ t ∷ []) p (AllByRecursion-step _ _ (λ a there. find_more _ tables (t ∷ []) there) p.articles (articles_there tables p stands)) stands

pub publication_without_table : (tables : List Table) (n : List ℕ) (p : Publication) → publication_names n p ≡ false → PublicationStands tables p → PublicationStands (without table_name n tables) p
publication_without_table tables n p other stands =
    moved tables (without table_name n tables) p (AllByRecursion-step _ _ (λ a apart. named-without table_name n a.table tables apart) p.articles (none_passes _ p.articles other)) stands
