-- What is at hand of the tables of a catalog.
use Rattle.std.specs.Prelude.{◌≡◌, Some}
use Rattle.std.specs.BTreeMap as tree
use Rattle.sr_base.specs.Order.{name_cmp}
use Rattle.sr_book.specs.Entries.{Name}
use Rattle.sr_catalog_schema.specs.Catalogs.{Lists}
use Rattle.sr_catalog_schema.specs.Members.{scope_of}
use Rattle.sr_exec_dml.specs.Statements.{table_named}
use Rattle.sr_survey.specs.Inner.Keyed.{routes_of}
use Rattle.sr_survey.specs.declared.routes.Routes.{Routes}

-- what is at hand by the names of tables
abbrev pub ByTable : Type 0
ByTable = tree.BTreeMap Name Routes

-- how the rows of a table are given by a catalog
pub record IsRoute (c : Lists) (name : Name) (r : Routes) : Type 0 where
  pub table : table_named c name ≡ Some r.table
  pub scope : r.scope ≡ scope_of r.table
  pub articles : r.articles ≡ routes_of c name

-- so is what is at hand of each table
pub record AreRoutes (c : Lists) (held : ByTable) : Type 0 where
  pub each : (name : Name) (r : Routes) → tree.get name_cmp held name ≡ Some r → IsRoute c name r
