-- What is wrong with a statement before a row is looked at: columns that are not there, wrong classes, wrong counts of values and
-- columns named twice.
use Rattle.std.specs.Prelude.{ℕ, Bool, cond, List, [], ◌∷◌, ◌++◌, Option, Some, None, bytes_eq}
use Rattle.std.specs.List.{list_any}
use Rattle.sr_base.specs.declared.value.Kind.{Kind}
use Rattle.sr_ast.specs.Exprs.{term_of}
use Rattle.sr_ast.specs.Classes.{class_in, unknown_in as unknown_in_term}
use Rattle.sr_ast.specs.declared.expr.Expr.{Expr}
use Rattle.sr_ast.specs.Uses.{gives_value, gives_truth}
use Rattle.sr_ast.specs.declared.query.Insert.{Insert}
use Rattle.sr_ast.specs.declared.query.Update.{Update}
use Rattle.sr_catalog_schema.specs.Members.{scope_of}
use Rattle.sr_catalog_schema.specs.declared.table.Column.{Column}
use Rattle.sr_catalog_schema.specs.declared.table.Table.{Table}
use Rattle.sr_catalog_schema.specs.Firsts.{first_of, first_among}
use Rattle.sr_exec_where.specs.Naming.{names_of}

-- columns with their aliases and types
abbrev pub Scope : Type 0
Scope = List (Option (List ℕ) × List ℕ × Kind)

-- a name that is no column of the table
abbrev pub no_column : List Column → List ℕ → Option (List ℕ)
no_column columns name = cond (list_any (λ c. bytes_eq name c.name) columns) None (Some name)

-- the leftmost column of an expression that is not there
abbrev pub unknown_in : Scope → Expr → Option (List ℕ)
unknown_in scope e = unknown_in_term scope (term_of e)

-- the same of a condition, where there is one
abbrev pub unknown_condition : Scope → Option Expr → Option (List ℕ)
unknown_condition scope None = None
unknown_condition scope (Some e) = unknown_in scope e

-- a value's class: a wrong one is a fault of its column
abbrev pub bad_value : Scope → List ℕ → Expr → Option (List ℕ)
bad_value scope column e = cond (gives_value (class_in scope (term_of e))) None (Some column)

-- a condition's class: a wrong one is a fault of the table
abbrev pub bad_condition : Scope → List ℕ → Option Expr → Option (List ℕ)
bad_condition scope table None = None
bad_condition scope table (Some e) = cond (gives_truth (class_in scope (term_of e))) None (Some table)

-- whether a name is among names
abbrev pub is_among : List ℕ → List (List ℕ) → Bool
is_among name names = list_any (bytes_eq name) names

-- the first name that stands again, after some names
abbrev pub named_again : List (List ℕ) → List (List ℕ) → Option (List ℕ)
named_again before [] = None
named_again before (name ∷ names) = cond (is_among name before) (Some name) (named_again (before ++ name ∷ []) names)

-- the values of an INSERT's row, one for each column: a surplus value, or the end of a row that is too short, is a fault of the table
abbrev pub bad_row : List ℕ → List (List ℕ) → List Expr → Option (List ℕ)
bad_row table [] [] = None
bad_row table [] (e ∷ es) = Some table
bad_row table (name ∷ names) [] = Some table
bad_row table (name ∷ names) (e ∷ es) = first_of (bad_value [] name e) (bad_row table names es)

-- the assignments of an UPDATE: a column that stands again, or a wrong class, is a fault of the column
abbrev pub bad_sets : Scope → List (List ℕ) → List (List ℕ × Expr) → Option (List ℕ)
bad_sets scope before [] = None
bad_sets scope before (s ∷ sets) = first_of (cond (is_among s.0 before) (Some s.0) (bad_value scope s.0 s.1)) (bad_sets scope (before ++ s.0 ∷ []) sets)

-- an assignment's unknown column: the one that is assigned, or one in its expression
abbrev pub unknown_set : Table → List ℕ × Expr → Option (List ℕ)
unknown_set table s = first_of (no_column table.columns s.0) (unknown_in (scope_of table) s.1)

-- the leftmost unknown column of an INSERT, whose values are constant
abbrev pub unknown_in_insert : Table → Insert → Option (List ℕ)
unknown_in_insert table i = first_of (first_among (no_column table.columns) i.columns) (first_among (first_among (unknown_in [])) i.rows)

-- the leftmost column named twice, wrong class or wrong count of an INSERT
abbrev pub bad_in_insert : Table → Insert → Option (List ℕ)
bad_in_insert table i = first_of (named_again [] i.columns) (first_among (bad_row table.name (names_of table.columns i.columns)) i.rows)

-- the leftmost unknown column of an UPDATE
abbrev pub unknown_in_update : Table → Update → Option (List ℕ)
unknown_in_update table u = first_of (first_among (unknown_set table) u.sets) (unknown_condition (scope_of table) u.condition)

-- the leftmost column named twice or wrong class of an UPDATE
abbrev pub bad_in_update : Table → Update → Option (List ℕ)
bad_in_update table u = first_of (bad_sets (scope_of table) [] u.sets) (bad_condition (scope_of table) table.name u.condition)
