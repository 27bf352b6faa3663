-- What a column and a variable hold for a value.
-- Here is what no contract of the program says by itself.
use Rattle.std.specs.Prelude.{ℕ, Bool, false, List, Option, Some, None, bytes_eq}
use Rattle.sr_catalog_schema.specs.declared.table.Column.{Column}

-- whether a column is there and has the name
abbrev pub is_named : Option Column → List ℕ → Bool
is_named None name = false
is_named (Some c) name = bytes_eq name c.name
