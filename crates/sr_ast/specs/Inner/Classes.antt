-- The class of an expression.
-- Here is what no contract of the program says by itself.
use Rattle.std.specs.Prelude.{◌≡◌, ℕ, List, Option, Some, None, Result, Ok, Err, refl}
use Rattle.std.specs.Option.{option_and_then}
use Rattle.std.specs.List.{position}
use Rattle.sr_base.specs.declared.value.Kind.{Kind}
use Rattle.sr_ast.specs.Terms.{Term}
use Rattle.sr_ast.specs.Terms.Term.{unary, binary}
use Rattle.sr_ast.specs.declared.operator.Unary.{Unary}
use Rattle.sr_ast.specs.declared.operator.Binary.{Binary}
use Rattle.sr_ast.specs.declared.classes.Class.{Class}
use Rattle.sr_ast.specs.declared.classes.Typing.{Typing}
use Rattle.sr_ast.specs.declared.classes.Typing.TheVariants.{Known, Unknown, Clash}
use Rattle.sr_ast.specs.declared.classes.NotTyped.{NotTyped}
use Rattle.sr_ast.specs.declared.classes.NotTyped.TheVariants.{Wrong, Memory}
use Rattle.sr_ast.specs.Classes.{unary_class, binary_class, is_meant, typed, unary_typing, binary_typing, typing, known_class, class_in}

-- its place among them
abbrev pub place_of : List (Option (List ℕ) × List ℕ × Kind) → Option (List ℕ) → List ℕ → Option ℕ
place_of columns table reference = position (λ c. is_meant c.0 c.1 table reference) columns

-- what is answered is what the expression has, unless there is no memory
abbrev pub IsTyped : Result Class NotTyped → Typing → Type 0
IsTyped (Ok c) found = found ≡ Known c
IsTyped (Err (Wrong (Some name))) found = found ≡ Unknown name
IsTyped (Err (Wrong None)) found = found ≡ Clash
IsTyped (Err Memory) found = Unit {0}

known_typed : (c : Option Class) → known_class (typed c) ≡ c
known_typed None = refl
known_typed (Some c) = refl

known_unary : (op : Unary) (a : Typing) → known_class (unary_typing op a) ≡ option_and_then (unary_class op) (known_class a)
known_unary op (Known c) = known_typed (unary_class op c)
known_unary op (Unknown name) = refl
known_unary op Clash = refl

known_binary : (op : Binary) (a b : Typing) → known_class (binary_typing op a b) ≡ option_and_then (λ c. option_and_then (binary_class op c) (known_class b)) (known_class a)
known_binary op (Known c) (Known d) = known_typed (binary_class op c d)
known_binary op (Known c) (Unknown name) = refl
known_binary op (Known c) Clash = refl
known_binary op (Unknown name) b = refl
known_binary op Clash (Known d) = refl
known_binary op Clash (Unknown name) = refl
known_binary op Clash Clash = refl

-- the class of an operator's expression is by the classes of its operands
pub class_in-unary : (columns : List (Option (List ℕ) × List ℕ × Kind)) (op : Unary) (a : Term) → class_in columns (unary op a) ≡ option_and_then (unary_class op) (class_in columns a)
class_in-unary columns op a = known_unary op (typing columns a)

pub class_in-binary : (columns : List (Option (List ℕ) × List ℕ × Kind)) (op : Binary) (a b : Term) → class_in columns (binary op a b) ≡ option_and_then (λ c. option_and_then (binary_class op c) (class_in columns b)) (class_in columns a)
class_in-binary columns op a b = known_binary op (typing columns a) (typing columns b)
