-- The rows of one table in the order of their keys.
use Rattle.std.specs.Prelude.{cond, ℕ, List, [], ◌∷◌, bytes_eq, ◌≡◌, ⊤, Option, Some, None}
use Rattle.std.specs.FinMap as map
use Rattle.sr_base.specs.declared.value.Value.{Value}
use Rattle.sr_rows.specs.Marks.{Place, RowMap}
use Rattle.std.specs.declared.cmp.Ordering.TheVariants.{Less}
use Rattle.sr_base.specs.Order.{key_cmp}

-- a key and the row under it
abbrev pub Entry : Type 0
Entry = List Value × List Value

-- the entries of one table, of the entries of all
abbrev pub of_table : List ℕ → List (Place × List Value) → List Entry
of_table table [] = []
of_table table (e ∷ es) = cond (bytes_eq table e.0.0) ((e.0.1, e.1) ∷ of_table table es) (of_table table es)

-- the rows of a table, ascending by key
abbrev pub table_rows : RowMap → List ℕ → List Entry
table_rows rows table = of_table table (map.entries rows)

-- the key comes after another one; each key does where there is no other
abbrev pub IsPast : Option (List Value) → List Value → Type 0
IsPast None key = ⊤
IsPast (Some after) key = key_cmp after key ≡ Less
