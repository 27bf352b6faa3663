-- The equations of conditions, made once for a statement: what its columns are equal to wherever the conditions are met.
use Rattle.std.specs.Prelude.{ℕ, cond, List, [], ◌∷◌, ◌++◌, Option, Some, None}
use Rattle.std.specs.Option.{option_map}
use Rattle.sr_ast.specs.Exprs.{term_of}
use Rattle.sr_ast.specs.Terms.{Term}
use Rattle.sr_ast.specs.Terms.Term.{literal as a_literal, column as a_column, unary as a_unary, binary as a_binary}
use Rattle.sr_ast.specs.Uses.{is_plain}
use Rattle.sr_ast.specs.declared.expr.Expr.{Expr}
use Rattle.sr_ast.specs.declared.operator.Binary.{Binary}
use Rattle.sr_ast.specs.declared.operator.Binary.TheVariants.{And, Equal}
use Rattle.sr_ast.specs.Inner.Classes.{place_of}
use Rattle.sr_eval.specs.Inner.Resolutions.{Resolution}
use Rattle.sr_eval.specs.Inner.Resolutions.Resolution.{literal, place, unary, binary}
use Rattle.sr_exec_where.specs.Checks.{Scope}
use Rattle.sr_query.specs.declared.equations.Equation.{Equation as OfProgram}
use Rattle.sr_query.specs.declared.equations.Side.{Side}
use Rattle.sr_query.specs.declared.equations.Side.TheVariants.{Literal, Place}

-- a column, by its place among those of all sources, and what it is equal to: a literal or a column
abbrev pub Equation : Type 0
Equation = ℕ × Resolution

-- those of the program
abbrev pub side_of : Side → Resolution
side_of (Literal v) = literal v.now
side_of (Place n) = place n

abbrev pub equation_of : OfProgram → Equation
equation_of e = (e.place, side_of e.other)

-- an equation of a column with the other side
abbrev pub of_column : Resolution → Resolution → List Equation
of_column (literal v) other = []
of_column (place n) other = (n, other) ∷ []
of_column (unary op a) other = []
of_column (binary op a b) other = []

-- two sides that are equal: each that is a column, and the other one
abbrev pub of_sides : Option Resolution → Option Resolution → List Equation
of_sides None b = []
of_sides (Some a) None = []
of_sides (Some a) (Some b) = of_column a b ++ of_column b a

module _ (scope : Scope) where
  -- a side that is a literal or a column
  abbrev pub side_in : Term → Option Resolution
  side_in (a_literal v) = Some (literal v)
  side_in (a_column table name) = option_map place (place_of scope table name)
  side_in (a_unary op a) = None
  side_in (a_binary op a b) = None

  abbrev pub equations_binary : Binary → Term → Term → List Equation → List Equation → List Equation
  equations_binary And a b left right = left ++ right
  equations_binary Equal a b left right = of_sides (side_in a) (side_in b)
  equations_binary op a b left right = []

  -- those of a condition: it is an equation, or a conjunction with equations
  abbrev pub equations_in : Term → List Equation
  equations_in (a_literal v) = []
  equations_in (a_column table name) = []
  equations_in (a_unary op a) = []
  equations_in (a_binary op a b) = equations_binary op a b (equations_in a) (equations_in b)

  -- those of conditions in the order of their tests. One with arithmetic has none, nor have those behind it, since its test may have no value
  abbrev pub equations : List Expr → List Equation
  equations [] = []
  equations (e ∷ es) = cond (is_plain (term_of e)) (equations_in (term_of e) ++ equations es) []
