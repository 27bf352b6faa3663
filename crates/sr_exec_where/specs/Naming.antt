-- What a statement names: the columns of an INSERT, and what an UPDATE assigns to a column.
use Rattle.std.specs.Prelude.{ℕ, cond, List, [], ◌∷◌, map, Option, Some, None, bytes_eq}
use Rattle.sr_ast.specs.declared.expr.Expr.{Expr}
use Rattle.sr_catalog_schema.specs.declared.table.Column.{Column}

-- the columns that an INSERT names: all of them where it names none
abbrev pub names_of : List Column → List (List ℕ) → List (List ℕ)
names_of columns [] = map (λ c. c.name) columns
names_of columns (name ∷ names) = name ∷ names

-- the expression that an UPDATE assigns to a column
abbrev pub set_for : List (List ℕ × Expr) → List ℕ → Option Expr
set_for [] column = None
set_for (s ∷ sets) column = cond (bytes_eq s.0 column) (Some s.1) (set_for sets column)
