-- What an expression means over a row.
use Rattle.std.specs.Prelude.{ℕ, Bool, true, false, not, cond, ◌+ℤ◌, ◌-ℤ◌, ◌*ℤ◌, List, [], ◌∷◌, Option, Some, None}
use Rattle.std.specs.Option.{option_map}
use Rattle.std.specs.Ordering.{is_eq, is_ne, is_lt, is_le, is_gt, is_ge}
use Rattle.sr_base.specs.declared.value.Value.{Value as Cell}
use Rattle.sr_base.specs.declared.value.Value.TheVariants.{Null}
use Rattle.sr_base.specs.declared.value.Kind.{Kind}
use Rattle.sr_ast.specs.Terms.{Term}
use Rattle.sr_ast.specs.Terms.Term.{literal, column, unary, binary}
use Rattle.sr_ast.specs.Classes.{is_meant}
use Rattle.sr_ast.specs.declared.operator.Unary.{Unary}
use Rattle.sr_ast.specs.declared.operator.Unary.TheVariants.{Not, IsNull, IsNotNull, Negate}
use Rattle.sr_ast.specs.declared.operator.Binary.{Binary}
use Rattle.sr_ast.specs.declared.operator.Binary.TheVariants.{Or, And, Equal, Unequal, Less, AtMost, Greater, AtLeast, Add, Subtract, Multiply}
use Rattle.sr_eval.specs.declared.truth.Truth.{Truth}
use Rattle.sr_eval.specs.declared.truth.Truth.TheVariants.{True, False, Unknown}
use Rattle.sr_eval.specs.Truths.{not_of, and_of, or_of, known}
use Rattle.sr_eval.specs.Numbers.{negated, arithmetic}
use Rattle.sr_eval.specs.Comparisons.{is_null, comparison}

-- What an expression gives: a value, or a truth.
pub data Meaning : Type 0 where
  value : Cell → Meaning
  truth : Truth → Meaning

-- the value, where one is needed; no typed expression has a truth there
abbrev pub cell_of : Meaning → Cell
cell_of (value v) = v
cell_of (truth t) = Null

-- the truth, where one is needed; NULL is unknown
abbrev pub truth_of : Meaning → Truth
truth_of (value v) = Unknown
truth_of (truth t) = t

-- the value of the first column that a reference means
abbrev pub value_meant : List (Option (List ℕ) × List ℕ × Kind) → List Cell → Option (List ℕ) → List ℕ → Cell
value_meant [] values table reference = Null
value_meant (c ∷ columns) [] table reference = Null
value_meant (c ∷ columns) (v ∷ values) table reference = cond (is_meant c.0 c.1 table reference) v (value_meant columns values table reference)

-- the same value, where these columns have one that the reference means
abbrev pub found_at : List (Option (List ℕ) × List ℕ × Kind) → List Cell → Option (List ℕ) → List ℕ → Option Cell
found_at [] values table reference = None
found_at (c ∷ columns) [] table reference = None
found_at (c ∷ columns) (v ∷ values) table reference = cond (is_meant c.0 c.1 table reference) (Some v) (found_at columns values table reference)

-- NOT, IS NULL, IS NOT NULL and -
abbrev pub unary_meaning : Unary → Meaning → Option Meaning
unary_meaning Not a = Some (truth (not_of (truth_of a)))
unary_meaning IsNull a = Some (truth (known (is_null (cell_of a))))
unary_meaning IsNotNull a = Some (truth (known (not (is_null (cell_of a)))))
unary_meaning Negate a = option_map value (negated (cell_of a))

-- OR, AND, comparisons and arithmetic
abbrev pub binary_meaning : Binary → Meaning → Meaning → Option Meaning
binary_meaning Or a b = Some (truth (or_of (truth_of a) (truth_of b)))
binary_meaning And a b = Some (truth (and_of (truth_of a) (truth_of b)))
binary_meaning Equal a b = Some (truth (comparison is_eq (cell_of a) (cell_of b)))
binary_meaning Unequal a b = Some (truth (comparison is_ne (cell_of a) (cell_of b)))
binary_meaning Less a b = Some (truth (comparison is_lt (cell_of a) (cell_of b)))
binary_meaning AtMost a b = Some (truth (comparison is_le (cell_of a) (cell_of b)))
binary_meaning Greater a b = Some (truth (comparison is_gt (cell_of a) (cell_of b)))
binary_meaning AtLeast a b = Some (truth (comparison is_ge (cell_of a) (cell_of b)))
binary_meaning Add a b = option_map value (arithmetic ◌+ℤ◌ (cell_of a) (cell_of b))
binary_meaning Subtract a b = option_map value (arithmetic ◌-ℤ◌ (cell_of a) (cell_of b))
binary_meaning Multiply a b = option_map value (arithmetic ◌*ℤ◌ (cell_of a) (cell_of b))

-- where an operand has none, there is none
abbrev pub of_one : (Meaning → Option Meaning) → Option Meaning → Option Meaning
of_one f None = None
of_one f (Some a) = f a

abbrev pub of_both : (Meaning → Meaning → Option Meaning) → Option Meaning → Option Meaning → Option Meaning
of_both f None b = None
of_both f (Some a) None = None
of_both f (Some a) (Some b) = f a b

-- what an expression gives over columns and their values: nothing where a number passes its type's end
abbrev pub meaning : List (Option (List ℕ) × List ℕ × Kind) → List Cell → Term → Option Meaning
meaning columns values (literal v) = Some (value v)
meaning columns values (column table name) = Some (value (value_meant columns values table name))
meaning columns values (unary op a) = of_one (unary_meaning op) (meaning columns values a)
meaning columns values (binary op a b) = of_both (binary_meaning op) (meaning columns values a) (meaning columns values b)

-- whether there is a value, and it is true
abbrev pub is_true : Option Meaning → Bool
is_true None = false
is_true (Some (value v)) = false
is_true (Some (truth True)) = true
is_true (Some (truth False)) = false
is_true (Some (truth Unknown)) = false
