-- What holds of every expression.
use Rattle.std.specs.Prelude.{◌≡◌, ℕ, false, ◌&&◌, IsTrue, ◌⊎◌, List, Option, Some, IsSome, IfSome, is_some}
use Rattle.sr_base.specs.declared.value.Value.{Value as Cell}
use Rattle.sr_base.specs.declared.value.Value.TheVariants.{Null}
use Rattle.sr_base.specs.declared.value.Kind.{Kind}
use Rattle.sr_ast.specs.Terms.{Term}
use Rattle.sr_ast.specs.Terms.Term.{binary}
use Rattle.sr_ast.specs.Classes.{value_class, class_in}
use Rattle.sr_ast.specs.declared.classes.Class.{Class}
use Rattle.sr_ast.specs.declared.classes.Class.TheVariants.{Truth}
use Rattle.sr_ast.specs.declared.operator.Binary.TheVariants.{And, Equal}
use Rattle.sr_ast.specs.Uses.{is_plain}
use Rattle.sr_eval.specs.Bounds.{IsRowOf}
use Rattle.sr_eval.specs.Meanings.{Meaning, meaning, is_true}
use Rattle.sr_eval.specs.Inner.Resolutions.{resolved, meaning_at}
use Rattle.sr_eval.specs.Meanings.Meaning.{value, truth}

-- a value of the class, or NULL; a truth where the class is truth
abbrev pub IsOf : Class → Meaning → Type 0
IsOf c (value v) = (v ≡ Null) ⊎ (value_class v ≡ c)
IsOf c (truth t) = c ≡ Truth

-- over a row that fits, what an expression gives is of the expression's class
abbrev pub HaveTheirClass : Type 0
HaveTheirClass = (columns : List (Option (List ℕ) × List ℕ × Kind)) (values : List Cell) (t : Term) (c : Class) → IsRowOf columns values → class_in columns t ≡ Some c → IfSome (meaning columns values t) (IsOf c)

-- an expression without arithmetic has a value
abbrev pub PlainHaveValues : Type 0
PlainHaveValues = (columns : List (Option (List ℕ) × List ℕ × Kind)) (values : List Cell) (t : Term) → IsTrue (is_plain t) → IsSome (meaning columns values t)

-- a AND b is true where both are
abbrev pub AndIsBoth : Type 0
AndIsBoth = (columns : List (Option (List ℕ) × List ℕ × Kind)) (values : List Cell) (a b : Term) → is_true (meaning columns values (binary And a b)) ≡ (is_true (meaning columns values a) && is_true (meaning columns values b))

-- a AND b has a value where both have one
abbrev pub AndNeedsBoth : Type 0
AndNeedsBoth = (columns : List (Option (List ℕ) × List ℕ × Kind)) (values : List Cell) (a b : Term) → is_some (meaning columns values (binary And a b)) ≡ (is_some (meaning columns values a) && is_some (meaning columns values b))

-- NULL equals nothing, on neither side
abbrev pub NullEqualsNothing : Type 0
NullEqualsNothing = (columns : List (Option (List ℕ) × List ℕ × Kind)) (values : List Cell) (a b : Term) → (meaning columns values a ≡ Some (value Null)) ⊎ (meaning columns values b ≡ Some (value Null)) → is_true (meaning columns values (binary Equal a b)) ≡ false

-- an expression whose names are resolved among columns gives over each row of them what it gives by its names
abbrev pub ResolvedMeanTheSame : Type 0
ResolvedMeanTheSame = (columns : List (Option (List ℕ) × List ℕ × Kind)) (values : List Cell) (t : Term) → meaning_at values (resolved columns t) ≡ meaning columns values t
