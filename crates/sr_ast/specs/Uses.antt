-- How an expression may be used: as a value, as a truth, and where no arithmetic may stand.
use Rattle.std.specs.Prelude.{Bool, true, false, ◌&&◌, Option, Some, None}
use Rattle.sr_ast.specs.Terms.{Term}
use Rattle.sr_ast.specs.Terms.Term.{literal, column, unary, binary}
use Rattle.sr_ast.specs.Classes.{is_truth}
use Rattle.sr_ast.specs.declared.classes.Class.{Class}
use Rattle.sr_ast.specs.declared.classes.Class.TheVariants.{Number, Text, Date, Truth, Any}
use Rattle.sr_ast.specs.declared.operator.Unary.{Unary}
use Rattle.sr_ast.specs.declared.operator.Unary.TheVariants.{Not, IsNull, IsNotNull, Negate}
use Rattle.sr_ast.specs.declared.operator.Binary.{Binary}
use Rattle.sr_ast.specs.declared.operator.Binary.TheVariants.{Or, And, Equal, Unequal, Less, AtMost, Greater, AtLeast, Add, Subtract, Multiply}

-- a class that values have: any but truth
abbrev pub is_value_class : Class → Bool
is_value_class Number = true
is_value_class Text = true
is_value_class Date = true
is_value_class Truth = false
is_value_class Any = true

-- the expression has a class, and its value is no truth
abbrev pub gives_value : Option Class → Bool
gives_value (Some c) = is_value_class c
gives_value None = false

-- the expression has a class, and may stand where a truth is needed
abbrev pub gives_truth : Option Class → Bool
gives_truth (Some c) = is_truth c
gives_truth None = false

abbrev pub is_plain_unary : Unary → Bool
is_plain_unary Not = true
is_plain_unary IsNull = true
is_plain_unary IsNotNull = true
is_plain_unary Negate = false

abbrev pub is_plain_binary : Binary → Bool
is_plain_binary Or = true
is_plain_binary And = true
is_plain_binary Equal = true
is_plain_binary Unequal = true
is_plain_binary Less = true
is_plain_binary AtMost = true
is_plain_binary Greater = true
is_plain_binary AtLeast = true
is_plain_binary Add = false
is_plain_binary Subtract = false
is_plain_binary Multiply = false

-- no operator of the expression is arithmetic
abbrev pub is_plain : Term → Bool
is_plain (literal v) = true
is_plain (column table name) = true
is_plain (unary op a) = is_plain_unary op && is_plain a
is_plain (binary op a b) = is_plain_binary op && (is_plain a && is_plain b)
