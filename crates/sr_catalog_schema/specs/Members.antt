-- The names of a schema's things, and what a table has.
use Rattle.std.specs.Prelude.{ℕ, Bool, List, map, filter_map, slice_get, Option, Some, option_map}
use Rattle.sr_base.specs.declared.value.Kind.{Kind}
use Rattle.sr_catalog_schema.specs.Names.{taken}
use Rattle.sr_catalog_schema.specs.declared.publication.Publication.{Publication}
use Rattle.sr_catalog_schema.specs.declared.table.Table.{Table}
use Rattle.sr_catalog_schema.specs.declared.table.Column.{Column}
use Rattle.sr_catalog_schema.specs.declared.trigger.Trigger.{Trigger}
use Rattle.sr_catalog_schema.specs.declared.user.User.{User}

abbrev pub user_name : User → List ℕ
user_name u = u.name

abbrev pub table_name : Table → List ℕ
table_name t = t.name

abbrev pub column_name : Column → List ℕ
column_name c = c.name

abbrev pub publication_name : Publication → List ℕ
publication_name p = p.name

abbrev pub trigger_name : Trigger → List ℕ
trigger_name t = t.name

-- whether a table has a column
abbrev pub has_column : Table → List ℕ → Bool
has_column t n = taken column_name n t.columns

-- the names of a table's columns, in order
abbrev pub column_names : Table → List (List ℕ)
column_names t = map column_name t.columns

-- the names of a table's key columns, in key order
abbrev pub key_names : Table → List (List ℕ)
key_names t = filter_map (λ i. option_map column_name (slice_get t.columns i)) t.key

-- the columns of a table for an expression, which may name each behind the table's name and a dot
abbrev pub scope_of : Table → List (Option (List ℕ) × List ℕ × Kind)
scope_of t = map (λ c. (Some t.name, c.name, c.kind)) t.columns
