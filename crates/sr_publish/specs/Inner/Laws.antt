-- What holds of the views of catalogs that statements have made.
use Rattle.std.specs.Prelude.{◌≡◌, ⊤, ℕ, ◌≤◌, Bool, true, false, ◌&&◌, List, [], ◌∷◌, length, map, slice_get, Option, Some, None}
use Rattle.std.specs.List.{list_any, AllByRecursion}
use Rattle.sr_base.specs.declared.value.Value.{Value as Cell}
use Rattle.sr_logform.specs.Rules.{AreDistinct}
use Rattle.sr_catalog_schema.specs.Catalogs.{Lists}
use Rattle.sr_catalog_schema.specs.Firsts.{has}
use Rattle.sr_catalog_schema.specs.Members.{column_name, column_names, has_column, key_names}
use Rattle.sr_catalog_schema.specs.declared.publication.Article.{Article}
use Rattle.sr_catalog_schema.specs.declared.subscription.Subscription.{Subscription}
use Rattle.sr_catalog_schema.specs.declared.table.Column.{Column}
use Rattle.sr_catalog_schema.specs.declared.table.Table.{Table}
use Rattle.sr_exec_fits.specs.Rows.{is_row}
use Rattle.sr_publish.specs.SubscribedTables.{SubscribedTable, is_live, article_in, source_of}
use Rattle.sr_publish.specs.Views.{meets, goes_to}

-- the values of a subscription: one or none
abbrev pub values_in : Option Cell → List Cell
values_in None = []
values_in (Some v) = v ∷ []

-- an article holds a row for a subscription of this value: WHERE is true, and SUBSCRIBE BY gives the subscription's value
abbrev pub holds_by : Table → Option Article → Option Cell → List Cell → Bool
holds_by t None value row = false
holds_by t (Some a) value row = meets t a.condition row && goes_to t a.by (values_in value) row

-- a started subscription of the user holds a row of a table
abbrev pub holds : Lists → List ℕ → List ℕ → Table → List Cell → Subscription → Bool
holds c user table t row s = is_live user s && holds_by t (article_in c table s) s.value row

-- whenever a started subscription of the user has the table, the user has it by this subscription's publication and article
abbrev pub IsTheSource : Lists → List ℕ → List ℕ → Subscription → Type 0
IsTheSource c user table s = (a : Article) → is_live user s ≡ true → article_in c table s ≡ Some a → source_of c user table ≡ Some (s.publication, a)

-- ---- what a catalog keeps

-- columns stand at these places of a table
abbrev pub AreAt : Table → List Column → List ℕ → Type 0
AreAt t [] [] = ⊤
AreAt t [] (i ∷ places) = ⊥
AreAt t (c ∷ columns) [] = ⊥
AreAt t (c ∷ columns) (i ∷ places) = (slice_get t.columns i ≡ Some c) × AreAt t columns places

-- a table has at most 256 columns, none twice, and a key: columns of it, none twice
pub record HasKey (t : Table) : Type 0 where
  pub columns : AreDistinct (column_names t)
  pub few : length t.columns ≤ 256
  pub some : ¬ (key_names t ≡ [])
  pub same : length (key_names t) ≡ length t.key
  pub key : AllByRecursion (λ n. has_column t n ≡ true) (key_names t)
  pub distinct : AreDistinct (key_names t)

-- the columns of a subscribed table are the table's at their places, none twice, and the table's key is among them
pub record IsInOrder (s : SubscribedTable) : Type 0 where
  pub places : AreAt s.table s.columns s.places
  pub distinct : AreDistinct (map column_name s.columns)
  pub few : length s.columns ≤ length s.table.columns
  pub key : AllByRecursion (λ n. has (map column_name s.columns) n ≡ true) (key_names s.table)
