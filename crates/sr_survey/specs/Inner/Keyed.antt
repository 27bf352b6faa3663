-- The keys under which rows are given, and those of a subscription.
use Rattle.std.specs.Prelude.{◌≡◌, cond, List, [], ◌∷◌, ◌++◌, map, flat_map, filter_map, find, Option, Some, None, option_map, bytes_eq}
use Rattle.std.specs.List.{Contains}
use Rattle.sr_ast.specs.Exprs.{term_of}
use Rattle.sr_ast.specs.declared.expr.Expr.{Expr}
use Rattle.sr_base.specs.declared.value.Value.{Value as Cell}
use Rattle.sr_base.specs.declared.value.Value.TheVariants.{Null, Int, Big, Str, Date}
use Rattle.sr_book.specs.Entries.{Name}
use Rattle.sr_catalog_schema.specs.Catalogs.{Lists}
use Rattle.sr_catalog_schema.specs.declared.publication.Article.{Article}
use Rattle.sr_catalog_schema.specs.declared.publication.Publication.{Publication}
use Rattle.sr_catalog_schema.specs.declared.table.Table.{Table}
use Rattle.sr_exec_dml.specs.Statements.{table_named}
use Rattle.sr_exec_fits.specs.Rows.{is_row}
use Rattle.sr_logform.specs.declared.change.Change.{Change}
use Rattle.sr_publish.specs.Inner.Laws.{values_in}
use Rattle.sr_publish.specs.Inner.Numbers.{widened}
use Rattle.sr_publish.specs.Views.{meets, by_value}
use Rattle.sr_survey_places.specs.declared.key.Key.{Key}
use Rattle.sr_survey_places.specs.declared.key.Key.TheVariants.{Whole, Part}

-- the keys of a subscription: the publication as a whole, and its value
abbrev pub keys_of : Name → Option Cell → List Key
keys_of p value = Whole p ∷ map (λ v. Part p (widened v)) (values_in value)

-- the key of a value that SUBSCRIBE BY gives a row; NULL goes to nobody
abbrev pub key_of_value : Name → Cell → Option Key
key_of_value p Null = None
key_of_value p (Int n) = Some (Part p (Big n))
key_of_value p (Big n) = Some (Part p (Big n))
key_of_value p (Str text) = Some (Part p (Str text))
key_of_value p (Date day) = Some (Part p (Date day))

abbrev pub key_of_some : Name → Option Cell → Option Key
key_of_some p None = None
key_of_some p (Some v) = key_of_value p v

abbrev pub key_by : Name → Table → Option Expr → List Cell → Option Key
key_by p t None row = Some (Whole p)
key_by p t (Some e) row = key_of_some p (by_value t row (term_of e))

-- the key under which an article of a publication gives a row; none where WHERE is not true
abbrev pub article_key : Table → List Cell → Name × Article → Option Key
article_key t row route = cond (meets t route.1.condition row) (key_by route.0 t route.1.by row) None

-- the article of a table in a publication, with the publication's name
abbrev pub route_in : Name → Publication → Option (Name × Article)
route_in table p = option_map (λ a. (p.name, a)) (find (λ a. bytes_eq table a.table) p.articles)

-- the articles of a table, each with its publication
abbrev pub routes_of : Lists → Name → List (Name × Article)
routes_of c table = filter_map (route_in table) c.publications

-- the keys of a row: none where it does not fit its table
abbrev pub row_keys : Table → List (Name × Article) → List Cell → List Key
row_keys t routes row = cond (is_row t.columns row) (filter_map (article_key t row) routes) []

-- those of a row that may not be there
abbrev pub keys_if : Table → List (Name × Article) → Option (List Cell) → List Key
keys_if t routes None = []
keys_if t routes (Some row) = row_keys t routes row

-- those of the row before and of the row after; none of a table that is not there
abbrev pub change_keys_in : Option Table → List (Name × Article) → Change → List Key
change_keys_in None routes ch = []
change_keys_in (Some t) routes ch = keys_if t routes ch.before ++ keys_if t routes ch.after

abbrev pub change_keys : Lists → Change → List Key
change_keys c ch = change_keys_in (table_named c ch.table) (routes_of c ch.table) ch

abbrev pub changes_keys : Lists → List Change → List Key
changes_keys c changes = flat_map (change_keys c) changes

-- a key is that of an article, and one of a subscription
pub record IsSharedKey (found : Option Key) (keys : List Key) : Type 0 where
  pub key : Key
  pub is : found ≡ Some key
  pub there : Contains keys key
