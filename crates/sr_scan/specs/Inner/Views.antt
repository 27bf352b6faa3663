-- What a user has of each table, as a map.
use Rattle.std.specs.Prelude.{◌≡◌, ℕ, cond, List, Option, Some, None}
use Rattle.std.specs.Ordering.{is_eq}
use Rattle.std.specs.BTreeMap as tree
use Rattle.sr_base.specs.Order.{name_cmp}
use Rattle.sr_publish.specs.SubscribedTables.{SubscribedTable, subscribed_table_of}
use Rattle.sr_catalog_schema.specs.Catalogs.{Lists}

-- the map has the subscribed table of each table
pub record AreViews (c : Lists) (user : List ℕ) (views : tree.BTreeMap (List ℕ) SubscribedTable) : Type 0 where
  pub same : tree.get name_cmp views ≡ subscribed_table_of c user

-- the map with the subscribed table of a table, if there is one
abbrev pub IsAdded : Option SubscribedTable → List ℕ → tree.BTreeMap (List ℕ) SubscribedTable → tree.BTreeMap (List ℕ) SubscribedTable → Type 0
IsAdded None name old new = (n : List ℕ) → tree.get name_cmp new n ≡ tree.get name_cmp old n
IsAdded (Some s) name old new = (n : List ℕ) → tree.get name_cmp new n ≡ cond (is_eq (name_cmp name n)) (Some s) (tree.get name_cmp old n)
