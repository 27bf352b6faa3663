-- What a row below has of what a view shows above.
use Rattle.std.specs.Prelude.{◌≡◌, ⊤, ℕ, true, false, cond, List, [], ◌∷◌, Option, Some, None, bytes_eq}
use Rattle.std.specs.List.{AllByRecursion}
use Rattle.sr_base.specs.declared.value.Value.{Value as Cell}
use Rattle.sr_catalog_schema.specs.Members.{column_name}
use Rattle.sr_catalog_schema.specs.Names.{named, taken}
use Rattle.sr_catalog_schema.specs.declared.table.Column.{Column}
use Rattle.sr_catalog_schema.specs.declared.table.Table.{Table}

-- the value of a column in a row
abbrev pub cell_in : List Column → List Cell → List ℕ → Option Cell
cell_in [] row n = None
cell_in (c ∷ columns) [] n = None
cell_in (c ∷ columns) (v ∷ row) n = cond (bytes_eq n c.name) (Some v) (cell_in columns row n)

-- a row of these columns has, column by column, what is shown
abbrev pub HasShown : List Column → List Column → List Cell → List Cell → Type 0
HasShown below [] [] row = ⊤
HasShown below [] (v ∷ shown) row = ⊥
HasShown below (c ∷ columns) [] row = ⊥
HasShown below (c ∷ columns) (v ∷ shown) row = (cell_in below row c.name ≡ Some v) × HasShown below columns shown row

-- a column below is that of the article, where the article has it, and takes NULL where that may be; else it takes NULL
abbrev pub Suits : Column → Option Column → Type 0
Suits c None = c.not_null ≡ false
Suits c (Some a) = (c.kind ≡ a.kind) × (c.not_null ≡ true → a.not_null ≡ true)

-- the table has the columns of an article, with their types; NOT NULL only where they are so; its other columns take NULL
pub record HasColumns (columns : List Column) (t : Table) : Type 0 where
  pub has : AllByRecursion (λ a. taken column_name a.name t.columns ≡ true) columns
  pub suits : AllByRecursion (λ c. Suits c (named column_name c.name columns)) t.columns
