-- The class of an expression.
use Rattle.std.specs.Prelude.{ℕ, Bool, true, false, ◌&&◌, cond, List, [], ◌∷◌, Option, Some, None, bytes_eq}
use Rattle.sr_base.specs.declared.value.Value.{Value}
use Rattle.sr_base.specs.declared.value.Value.TheVariants as value
use Rattle.sr_base.specs.declared.value.Kind.{Kind}
use Rattle.sr_base.specs.declared.value.Kind.TheVariants as kind
use Rattle.sr_ast.specs.Terms.{Term}
use Rattle.sr_ast.specs.Terms.Term.{literal, column, unary, binary}
use Rattle.sr_ast.specs.declared.operator.Unary.{Unary}
use Rattle.sr_ast.specs.declared.operator.Unary.TheVariants.{Not, IsNull, IsNotNull, Negate}
use Rattle.sr_ast.specs.declared.operator.Binary.{Binary}
use Rattle.sr_ast.specs.declared.operator.Binary.TheVariants.{Or, And, Equal, Unequal, Less, AtMost, Greater, AtLeast, Add, Subtract, Multiply}
use Rattle.sr_ast.specs.declared.classes.Class.{Class}
use Rattle.sr_ast.specs.declared.classes.Class.TheVariants.{Number, Text, Date, Truth, Any}
use Rattle.sr_ast.specs.declared.classes.Typing.{Typing}
use Rattle.sr_ast.specs.declared.classes.Typing.TheVariants.{Known, Unknown, Clash}

-- the class of a literal; NULL has each class
abbrev pub value_class : Value → Class
value_class value.Null = Any
value_class (value.Int n) = Number
value_class (value.Big n) = Number
value_class (value.Str text) = Text
value_class (value.Date day) = Date

-- the class of a column
abbrev pub kind_class : Kind → Class
kind_class kind.Int = Number
kind_class kind.Big = Number
kind_class (kind.Varchar n) = Text
kind_class kind.Date = Date

-- what may stand where a truth is needed
abbrev pub is_truth : Class → Bool
is_truth Number = false
is_truth Text = false
is_truth Date = false
is_truth Truth = true
is_truth Any = true

-- what may stand where a number is needed
abbrev pub is_number : Class → Bool
is_number Number = true
is_number Text = false
is_number Date = false
is_number Truth = false
is_number Any = true

-- one class, and no truth
abbrev pub is_comparable : Class → Class → Bool
is_comparable Number d = is_number d
is_comparable Text Number = false
is_comparable Text Text = true
is_comparable Text Date = false
is_comparable Text Truth = false
is_comparable Text Any = true
is_comparable Date Number = false
is_comparable Date Text = false
is_comparable Date Date = true
is_comparable Date Truth = false
is_comparable Date Any = true
is_comparable Truth d = false
is_comparable Any Number = true
is_comparable Any Text = true
is_comparable Any Date = true
is_comparable Any Truth = false
is_comparable Any Any = true

-- NOT needs a truth, IS NULL anything else, - a number
abbrev pub unary_class : Unary → Class → Option Class
unary_class Not c = cond (is_truth c) (Some Truth) None
unary_class IsNull c = cond (is_comparable c Any) (Some Truth) None
unary_class IsNotNull c = cond (is_comparable c Any) (Some Truth) None
unary_class Negate c = cond (is_number c) (Some Number) None

abbrev pub of_truths : Class → Class → Option Class
of_truths c d = cond (is_truth c && is_truth d) (Some Truth) None

abbrev pub of_numbers : Class → Class → Option Class
of_numbers c d = cond (is_number c && is_number d) (Some Number) None

abbrev pub of_comparables : Class → Class → Option Class
of_comparables c d = cond (is_comparable c d) (Some Truth) None

-- OR and AND need truths, a comparison one class that is no truth, arithmetic numbers
abbrev pub binary_class : Binary → Class → Class → Option Class
binary_class Or c d = of_truths c d
binary_class And c d = of_truths c d
binary_class Equal c d = of_comparables c d
binary_class Unequal c d = of_comparables c d
binary_class Less c d = of_comparables c d
binary_class AtMost c d = of_comparables c d
binary_class Greater c d = of_comparables c d
binary_class AtLeast c d = of_comparables c d
binary_class Add c d = of_numbers c d
binary_class Subtract c d = of_numbers c d
binary_class Multiply c d = of_numbers c d

abbrev pub is_alias : Option (List ℕ) → Option (List ℕ) → Bool
is_alias alias None = true
is_alias None (Some table) = false
is_alias (Some alias) (Some table) = bytes_eq alias table

-- whether a reference, with the name before its dot, means a column and its alias
abbrev pub is_meant : Option (List ℕ) → List ℕ → Option (List ℕ) → List ℕ → Bool
is_meant alias name table reference = bytes_eq name reference && is_alias alias table

-- the type of the first column that a reference means
abbrev pub kind_of : List (Option (List ℕ) × List ℕ × Kind) → Option (List ℕ) → List ℕ → Option Kind
kind_of [] table reference = None
kind_of (c ∷ columns) table reference = cond (is_meant c.0 c.1 table reference) (Some c.2) (kind_of columns table reference)

-- a class, or a clash
abbrev pub typed : Option Class → Typing
typed (Some c) = Known c
typed None = Clash

abbrev pub column_typing : List ℕ → Option Kind → Typing
column_typing name (Some k) = Known (kind_class k)
column_typing name None = Unknown name

abbrev pub unary_typing : Unary → Typing → Typing
unary_typing op (Known c) = typed (unary_class op c)
unary_typing op (Unknown name) = Unknown name
unary_typing op Clash = Clash

-- an unknown column before a clash, and the left one before the right one
abbrev pub binary_typing : Binary → Typing → Typing → Typing
binary_typing op (Unknown name) b = Unknown name
binary_typing op (Known c) (Unknown name) = Unknown name
binary_typing op (Known c) (Known d) = typed (binary_class op c d)
binary_typing op (Known c) Clash = Clash
binary_typing op Clash (Unknown name) = Unknown name
binary_typing op Clash (Known d) = Clash
binary_typing op Clash Clash = Clash

-- the class of an expression, its leftmost unknown column, or a clash
abbrev pub typing : List (Option (List ℕ) × List ℕ × Kind) → Term → Typing
typing columns (literal v) = Known (value_class v)
typing columns (column t n) = column_typing n (kind_of columns t n)
typing columns (unary op a) = unary_typing op (typing columns a)
typing columns (binary op a b) = binary_typing op (typing columns a) (typing columns b)

-- the class, where there is one
abbrev pub known_class : Typing → Option Class
known_class (Known c) = Some c
known_class (Unknown name) = None
known_class Clash = None

-- the class that an expression has over these columns, if it has one
abbrev pub class_in : List (Option (List ℕ) × List ℕ × Kind) → Term → Option Class
class_in columns t = known_class (typing columns t)

-- the leftmost column that is not there, if there is one
abbrev pub unknown_column : Typing → Option (List ℕ)
unknown_column (Known c) = None
unknown_column (Unknown name) = Some name
unknown_column Clash = None

-- the same of an expression over these columns
abbrev pub unknown_in : List (Option (List ℕ) × List ℕ × Kind) → Term → Option (List ℕ)
unknown_in columns t = unknown_column (typing columns t)
