-- CREATE PUBLICATION and DROP PUBLICATION.
use Rattle.std.specs.Prelude.{ℕ, Bool, false, not, ◌||◌, cond, nat_eq, nat_le, nat_lt, List}
use Rattle.std.specs.Prelude.{[], ◌∷◌, ◌++◌, length, map, Option, Some, None, option_map, bytes_eq}
use Rattle.std.specs.List.{list_any}
use Rattle.sr_ast.specs.Uses.{is_plain, gives_truth}
use Rattle.sr_catalog_schema.specs.Expressions.{is_operator}
use Rattle.sr_ast.specs.Classes.{class_in, unknown_in}
use Rattle.sr_ast.specs.Exprs.{term_of}
use Rattle.sr_ast.specs.declared.create.CreatePublication.{CreatePublication}
use Rattle.sr_ast.specs.declared.create.ArticleRule.{ArticleRule}
use Rattle.sr_ast.specs.declared.expr.Expr.{Expr}
use Rattle.sr_catalog_schema.specs.Catalogs.{Lists}
use Rattle.sr_catalog_schema.specs.Causes.{Causes, no_cause}
use Rattle.sr_catalog_schema.specs.Firsts.{first_of, first_among, where_true, has, first_twice, first_absent}
use Rattle.sr_catalog_schema.specs.Names.{named, taken}
use Rattle.sr_catalog_schema.specs.Members.{table_name, has_column, column_names, publication_name, key_names, scope_of}
use Rattle.sr_catalog_schema.specs.declared.table.Table.{Table}
use Rattle.sr_catalog_schema.specs.declared.publication.Publication.{Publication}
use Rattle.sr_catalog_schema.specs.declared.publication.Article.{Article}

-- ---- Exists

-- the first table that an article before has already, or column that an article names twice
abbrev pub twice_in_articles : List (List ℕ) → List ArticleRule → Option (List ℕ)
twice_in_articles before [] = None
twice_in_articles before (a ∷ rest) =
    first_of (where_true (has before a.table) a.table) (first_of (first_twice a.columns) (twice_in_articles (before ++ a.table ∷ []) rest))

-- the publication's name, where it is taken, or what its articles name twice
abbrev pub taken_or_twice : Lists → CreatePublication → Option (List ℕ)
taken_or_twice c p = first_of (where_true (taken publication_name p.name c.publications) p.name) (twice_in_articles [] p.articles)

-- ---- Missing

-- the leftmost column in an expression that the table lacks
unfoldable pub absent_column : Table → Option Expr → Option (List ℕ)
absent_column t None = None
absent_column t (Some e) = unknown_in (scope_of t) (term_of e)

-- the leftmost column that an article names and its table lacks
abbrev pub absent_in_table : ArticleRule → Table → Option (List ℕ)
absent_in_table a t = first_of (first_absent (has_column t) a.columns) (first_of (absent_column t a.condition) (absent_column t a.by))

-- what an article names that is not there: its table, or the leftmost column
unfoldable pub absent_in : ArticleRule → Option Table → Option (List ℕ)
absent_in a None = Some a.table
absent_in a (Some t) = absent_in_table a t

-- ---- BadType

-- a WHERE with arithmetic, or that is no truth
unfoldable pub is_bad_where : Table → Option Expr → Bool
is_bad_where t None = false
is_bad_where t (Some e) = not (is_plain (term_of e)) || not (gives_truth (class_in (scope_of t) (term_of e)))

-- a SUBSCRIBE BY that is no column and no literal
abbrev pub is_bad_by : Option Expr → Bool
is_bad_by None = false
is_bad_by (Some e) = is_operator (term_of e)

-- an article of a table that is there
unfoldable pub is_bad_article : ArticleRule → Option Table → Bool
is_bad_article a None = false
is_bad_article a (Some t) = is_bad_where t a.condition || is_bad_by a.by

-- ---- KeyNotInArticle

-- the article's table and the first column of its key that these columns lack
abbrev pub key_lacking : ArticleRule → Table → Option (List ℕ × List ℕ)
key_lacking a t = option_map (λ n. (a.table, n)) (first_absent (has a.columns) (key_names t))

-- an article without columns has all
abbrev pub key_outside_columns : ArticleRule → Table → Option (List ℕ × List ℕ)
key_outside_columns a t = cond (nat_eq (length a.columns) 0) None (key_lacking a t)

unfoldable pub key_outside : ArticleRule → Option Table → Option (List ℕ × List ℕ)
key_outside a None = None
key_outside a (Some t) = key_outside_columns a t

-- ---- CREATE PUBLICATION

abbrev pub table_in : Lists → ArticleRule → Option Table
table_in c a = named table_name a.table c.tables

-- what speaks against CREATE PUBLICATION: the name is taken, a table or a column is named twice; a table or a column is not there;
-- an article with a bad WHERE or SUBSCRIBE BY, by its table; a key column that an article lacks; there are 256 publications already,
-- or more than 64 articles
unfoldable pub create_publication_causes : Lists → CreatePublication → Causes
create_publication_causes c p = record no_cause {
  exists = taken_or_twice c p;
  missing = first_among (λ a. absent_in a (table_in c a)) p.articles;
  bad_type = first_among (λ a. where_true (is_bad_article a (table_in c a)) a.table) p.articles;
  key_outside = first_among (λ a. key_outside a (table_in c a)) p.articles;
  too_many = first_of (where_true (nat_le 256 (length c.publications)) 256) (where_true (nat_lt 64 (length p.articles)) 64);
}

-- the columns of an article: as written, or all that its table has
abbrev pub columns_of : ArticleRule → Option Table → List (List ℕ)
columns_of a None = a.columns
columns_of a (Some t) = cond (nat_eq (length a.columns) 0) (column_names t) a.columns

abbrev pub article_of : Lists → ArticleRule → Article
article_of c a = record { table = a.table; columns = columns_of a (table_in c a); condition = a.condition; by = a.by }

-- the publication that CREATE PUBLICATION makes
unfoldable pub publication_of : Lists → CreatePublication → Publication
publication_of c p = record { name = p.name; articles = map (article_of c) p.articles }

-- ---- DROP PUBLICATION

-- what speaks against DROP PUBLICATION: it is not there; a subscription names it
unfoldable pub drop_publication_causes : Lists → List ℕ → Causes
drop_publication_causes c n = record no_cause {
  missing = where_true (not (taken publication_name n c.publications)) n;
  in_use = where_true (list_any (λ s. bytes_eq n s.publication) c.subscriptions) n;
}
