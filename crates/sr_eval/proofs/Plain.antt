-- An expression without arithmetic has a value.
use Rattle.std.proofs.Common.{◌&&◌, Option, Some, None, IsTrue, refl}
use Rattle.std.specs.Prelude.{IsSome}
use Rattle.std.proofs.lemmas.Bool.{and_parts}
use Rattle.sr_ast.specs.Terms.Term.{literal, column, unary, binary}
use Rattle.sr_ast.specs.declared.operator.Unary.{Unary}
use Rattle.sr_ast.specs.declared.operator.Unary.TheVariants.{Not, IsNull, IsNotNull, Negate}
use Rattle.sr_ast.specs.declared.operator.Binary.{Binary}
use Rattle.sr_ast.specs.declared.operator.Binary.TheVariants.{Or, And, Equal, Unequal, Less, AtMost, Greater, AtLeast, Add, Subtract, Multiply}
use Rattle.sr_ast.specs.Uses.{is_plain, is_plain_unary, is_plain_binary}
use Rattle.sr_eval.specs.Meanings.{Meaning, meaning, unary_meaning, binary_meaning, of_one, of_both}
use Rattle.sr_eval.specs.Inner.Laws.{PlainHaveValues}

plain_one : (op : Unary) (m : Option Meaning) → IsTrue (is_plain_unary op) → IsSome m → IsSome (of_one (unary_meaning op) m)
plain_one op None p h = cc
plain_one Not (Some a) p h = refl
plain_one IsNull (Some a) p h = refl
plain_one IsNotNull (Some a) p h = refl
plain_one Negate (Some a) p h = cc

plain_both : (op : Binary) (m n : Option Meaning) → IsTrue (is_plain_binary op) → IsSome m → IsSome n → IsSome (of_both (binary_meaning op) m n)
plain_both op None n p h i = cc
plain_both op (Some a) None p h i = cc
plain_both Or (Some a) (Some b) p h i = refl
plain_both And (Some a) (Some b) p h i = refl
plain_both Equal (Some a) (Some b) p h i = refl
plain_both Unequal (Some a) (Some b) p h i = refl
plain_both Less (Some a) (Some b) p h i = refl
plain_both AtMost (Some a) (Some b) p h i = refl
plain_both Greater (Some a) (Some b) p h i = refl
plain_both AtLeast (Some a) (Some b) p h i = refl
plain_both Add (Some a) (Some b) p h i = cc
plain_both Subtract (Some a) (Some b) p h i = cc
plain_both Multiply (Some a) (Some b) p h i = cc

pub plain_have_values : PlainHaveValues
plain_have_values columns values (literal v) p = refl
plain_have_values columns values (column table name) p = refl
plain_have_values columns values (unary op a) p =
    let parts = and_parts (is_plain_unary op) (is_plain a) p in
    plain_one op (meaning columns values a) parts.0 (plain_have_values columns values a parts.1)
plain_have_values columns values (binary op a b) p =
    let parts = and_parts (is_plain_binary op) (is_plain a && is_plain b) p in
    let operands = and_parts (is_plain a) (is_plain b) parts.1 in
    plain_both op (meaning columns values a) (meaning columns values b) parts.0 (plain_have_values columns values a operands.0) (plain_have_values columns values b operands.1)
