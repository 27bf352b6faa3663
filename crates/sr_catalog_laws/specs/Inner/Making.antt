-- The table that a CREATE TABLE makes.
use Rattle.std.specs.Prelude.{◌≡◌, map}
use Rattle.sr_ast.specs.declared.create.CreateTable.{CreateTable}
use Rattle.sr_catalog_script_laws.specs.Scripts.{column_rule}
use Rattle.sr_catalog_schema.specs.Members.{key_names}
use Rattle.sr_catalog_schema.specs.declared.table.Table.{Table}

-- a table has the name, the columns and the key that a CREATE TABLE writes
pub record IsTableOf (rule : CreateTable) (t : Table) : Type 0 where
  pub name : t.name ≡ rule.name
  pub columns : map column_rule t.columns ≡ rule.columns
  pub key : key_names t ≡ rule.key
