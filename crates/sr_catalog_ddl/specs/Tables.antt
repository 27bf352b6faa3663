-- CREATE TABLE and DROP TABLE.
use Rattle.std.specs.Prelude.{ℕ, ◌||◌, nat_eq, nat_le, nat_lt, List, length, map, filter_map, Option}
use Rattle.sr_catalog_schema.specs.Members.{table_name}
use Rattle.sr_ast.specs.declared.create.CreateTable.{CreateTable}
use Rattle.sr_ast.specs.declared.create.ColumnRule.{ColumnRule}
use Rattle.sr_catalog_schema.specs.Catalogs.{Lists}
use Rattle.sr_catalog_schema.specs.Causes.{Causes, no_cause}
use Rattle.sr_catalog_schema.specs.Firsts.{first_of, where_true, first_twice, first_absent}
use Rattle.sr_catalog_schema.specs.Names.{taken, place_of}
use Rattle.sr_catalog_schema.specs.declared.table.Table.{Table}
use Rattle.sr_catalog_schema.specs.declared.table.Column.{Column}

abbrev pub rule_name : ColumnRule → List ℕ
rule_name c = c.name

-- a column as its rule says
abbrev pub column_of : ColumnRule → Column
column_of c = record { name = c.name; kind = c.kind; not_null = c.not_null }

-- the table that CREATE TABLE makes
unfoldable pub table_of : CreateTable → Table
table_of t = record { name = t.name; columns = map column_of t.columns; key = filter_map (λ n. place_of rule_name n t.columns) t.key }

-- the table's name, where it is taken, or a column that it or its key names twice
abbrev pub taken_or_twice : Lists → CreateTable → Option (List ℕ)
taken_or_twice c t = first_of (where_true (taken table_name t.name c.tables) t.name) (first_of (first_twice (map rule_name t.columns)) (first_twice t.key))

-- what speaks against CREATE TABLE: the name is taken, or a column is named twice; a column of the key is not there; there is no
-- key; there are 256 tables already, or more than 256 columns
unfoldable pub create_table_causes : Lists → CreateTable → Causes
create_table_causes c t = record no_cause {
  exists = taken_or_twice c t;
  missing = first_absent (λ n. taken rule_name n t.columns) t.key;
  no_key = where_true (nat_eq (length t.key) 0) t.name;
  too_many = where_true (nat_le 256 (length c.tables) || nat_lt 256 (length t.columns)) 256;
}
