-- Conditions that fix the key: each of its columns is equal to a constant, alone or in a conjunction.
use Rattle.std.specs.Prelude.{ℕ, cond, List, [], ◌∷◌, ◌++◌, Option, Some, None, slice_get, take, bytes_eq}
use Rattle.std.specs.List.{list_any}
use Rattle.sr_base_dates.specs.Fitting.{fitted}
use Rattle.sr_base.specs.declared.value.Value.{Value as Cell}
use Rattle.sr_ast.specs.Terms.{Term}
use Rattle.sr_ast.specs.Terms.Term.{literal, column, unary, binary}
use Rattle.sr_ast.specs.Exprs.{term_of}
use Rattle.sr_ast.specs.Classes.{is_meant}
use Rattle.sr_ast.specs.Uses.{is_plain}
use Rattle.sr_ast.specs.declared.expr.Expr.{Expr}
use Rattle.sr_ast.specs.declared.operator.Binary.{Binary}
use Rattle.sr_ast.specs.declared.operator.Binary.TheVariants.{And, Equal}
use Rattle.sr_catalog_schema.specs.declared.table.Column.{Column}
use Rattle.sr_catalog_schema.specs.declared.table.Table.{Table}
use Rattle.sr_catalog_schema.specs.Firsts.{first_of}

-- the value of a column that is equal to a constant
abbrev pub fixed_side : List ℕ → Column → Term → Term → Option Cell
fixed_side table c (column alias name) (literal v) = cond (is_meant (Some table) c.name alias name) (fitted v c.kind) None
fixed_side table c a b = None

abbrev pub fixed_binary : List ℕ → Column → Binary → Term → Term → Option Cell → Option Cell → Option Cell
fixed_binary table c And a b left right = first_of left right
fixed_binary table c Equal a b left right = first_of (fixed_side table c a b) (fixed_side table c b a)
fixed_binary table c op a b left right = None

-- the value of a column that a condition fixes
abbrev pub fixed_in : List ℕ → Column → Term → Option Cell
fixed_in table c (literal v) = None
fixed_in table c (column alias name) = None
fixed_in table c (unary op a) = None
fixed_in table c (binary op a b) = fixed_binary table c op a b (fixed_in table c a) (fixed_in table c b)

-- the same of the column at a place, where it is the first of its name
abbrev pub fixed_column : Table → ℕ → Term → Option Column → Option Cell
fixed_column table place t None = None
fixed_column table place t (Some c) = cond (list_any (λ d. bytes_eq c.name d.name) (take place table.columns)) None (fixed_in table.name c t)

abbrev pub with_value : Option Cell → Option (List Cell) → Option (List Cell)
with_value None values = None
with_value (Some v) None = None
with_value (Some v) (Some values) = Some (v ∷ values)

-- the key that a condition fixes
abbrev pub fixed_key : Table → Term → List ℕ → Option (List Cell)
fixed_key table t [] = Some []
fixed_key table t (place ∷ places) = with_value (fixed_column table place t (slice_get table.columns place)) (fixed_key table t places)

-- the key of the only row that can be selected: where a condition without arithmetic fixes it
abbrev pub only_key : Table → Option Expr → Option (List Cell)
only_key table None = None
only_key table (Some e) = cond (is_plain (term_of e)) (fixed_key table (term_of e) table.key) None

-- values that are there before the rest of a key
abbrev pub after_values : List Cell → Option (List Cell) → Option (List Cell)
after_values done None = None
after_values done (Some values) = Some (done ++ values)
