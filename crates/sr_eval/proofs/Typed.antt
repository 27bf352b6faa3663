-- What an expression gives is of its class.
use Rattle.std.proofs.Common.{◌≡◌, ℕ, Bool, true, false, cond, ◌⊎◌, inl, inr, List, [], ◌∷◌, Option, Some, None, IfSome, IsTrue, ℤ, ◌+ℤ◌, ◌-ℤ◌, ◌*ℤ◌, refl, sym, ◌∙◌}
use Rattle.std.specs.Option.{option_map, option_and_then}
use Rattle.sr_base_dates.specs.Calendar.{day_named}
use Rattle.sr_base_dates.specs.Fitting.{fitted}
use Rattle.sr_base.specs.declared.value.Value.{Value as Cell}
use Rattle.sr_base.specs.declared.value.Value.TheVariants as cell
use Rattle.sr_base.specs.declared.value.Kind.{Kind}
use Rattle.sr_base.specs.declared.value.Kind.TheVariants as kind
use Rattle.sr_ast.specs.Terms.{Term}
use Rattle.sr_ast.specs.Terms.Term.{literal, column, unary, binary}
use Rattle.sr_ast.specs.Classes.{value_class, kind_class, known_class, column_typing, unary_class, binary_class, kind_of, is_meant, class_in}
use Rattle.sr_ast.specs.Inner.Classes.{class_in-unary, class_in-binary}
use Rattle.sr_ast.specs.declared.classes.Class.{Class}
use Rattle.sr_ast.specs.declared.classes.Class.TheVariants.{Number, Text, Date, Truth, Any}
use Rattle.sr_ast.specs.declared.operator.Unary.{Unary}
use Rattle.sr_ast.specs.declared.operator.Unary.TheVariants.{Not, IsNull, IsNotNull, Negate}
use Rattle.sr_ast.specs.declared.operator.Binary.{Binary}
use Rattle.sr_ast.specs.declared.operator.Binary.TheVariants.{Or, And, Equal, Unequal, Less, AtMost, Greater, AtLeast, Add, Subtract, Multiply}
use Rattle.sr_ast.specs.Uses.{gives_value}
use Rattle.sr_eval.specs.Bounds.{IsRowOf}
use Rattle.sr_eval.specs.declared.truth.Truth.{Truth as Known}
use Rattle.sr_eval.specs.Numbers.{negated, arithmetic}
use Rattle.sr_eval.specs.Meanings.{Meaning, meaning, unary_meaning, binary_meaning, of_one, of_both, value_meant, cell_of}
use Rattle.sr_eval.specs.Meanings.Meaning.{value, truth}
use Rattle.sr_eval.specs.Inner.Laws.{IsOf, HaveTheirClass}

-- a value that fits a column as it is has the column's class
fits-class : (v : Cell) (k : Kind) → fitted v k ≡ Some v → (v ≡ cell.Null) ⊎ (value_class v ≡ kind_class k)
fits-class cell.Null k e = inl refl
fits-class (cell.Int n) kind.Int e = inr refl
fits-class (cell.Int n) kind.Big e = inr refl
fits-class (cell.Int n) (kind.Varchar m) e = cc
fits-class (cell.Int n) kind.Date e = cc
fits-class (cell.Big n) kind.Int e = inr refl
fits-class (cell.Big n) kind.Big e = inr refl
fits-class (cell.Big n) (kind.Varchar m) e = cc
fits-class (cell.Big n) kind.Date e = cc
fits-class (cell.Str text) kind.Int e = cc
fits-class (cell.Str text) kind.Big e = cc
fits-class (cell.Str text) (kind.Varchar m) e = inr refl
fits-class (cell.Str text) kind.Date e = no_date (day_named text) text e
  where
    no_date : (o : Option ℤ) (text : List ℕ) → option_map cell.Date o ≡ Some (cell.Str text) → (cell.Str text ≡ cell.Null) ⊎ (Text ≡ Date)
    no_date None text e = cc
    no_date (Some d) text e = cc
fits-class (cell.Date day) kind.Int e = cc
fits-class (cell.Date day) kind.Big e = cc
fits-class (cell.Date day) (kind.Varchar m) e = cc
fits-class (cell.Date day) kind.Date e = inr refl

met : (b : Bool) (v w : Cell) (k : Kind) (o : Option Kind) (name : List ℕ) (c : Class) → fitted v k ≡ Some v → (known_class (column_typing name o) ≡ Some c → IsOf c (value w)) → known_class (column_typing name (cond b (Some k) o)) ≡ Some c → IsOf c (value (cond b v w))
met true v w k o name c fits later e = let same : kind_class k ≡ c = cc in elim (fits-class v k fits) [ inl p ↦ inl p | inr p ↦ inr (p ∙ same) ]
met false v w k o name c fits later e = later e

of_column : (columns : List (Option (List ℕ) × List ℕ × Kind)) (values : List Cell) (table : Option (List ℕ)) (name : List ℕ) (c : Class) → IsRowOf columns values → known_class (column_typing name (kind_of columns table name)) ≡ Some c → IsOf c (value (value_meant columns values table name))
of_column [] values table name c fits e = cc
of_column (k ∷ columns) [] table name c fits e = absurd fits
of_column (k ∷ columns) (v ∷ values) table name c fits e = met (is_meant k.0 k.1 table name) v (value_meant columns values table name) k.2 (kind_of columns table name) name c fits.0 (of_column columns values table name c fits.1) e

-- a test that gave a class gave that one
gave : (b : Bool) (d c : Class) → cond b (Some d) None ≡ Some c → c ≡ d
gave true d c e = cc
gave false d c e = cc

in_range : (b : Bool) (v : Cell) (c : Class) → value_class v ≡ c → IfSome (option_map value (cond b (Some v) None)) (IsOf c)
in_range true v c e = inr e
in_range false v c e = tt

of_negated : (v : Cell) (c : Class) → c ≡ Number → IfSome (option_map value (negated v)) (IsOf c)
of_negated cell.Null c e = inl refl
of_negated (cell.Int n) c e = in_range _ _ c (sym e)
of_negated (cell.Big n) c e = in_range _ _ c (sym e)
of_negated (cell.Str text) c e = inl refl
of_negated (cell.Date day) c e = inl refl

of_arithmetic : (f : ℤ → ℤ → ℤ) (v w : Cell) (c : Class) → c ≡ Number → IfSome (option_map value (arithmetic f v w)) (IsOf c)
of_arithmetic f (cell.Int a) (cell.Int b) c e = in_range _ _ c (sym e)
of_arithmetic f (cell.Int a) (cell.Big b) c e = in_range _ _ c (sym e)
of_arithmetic f (cell.Big a) (cell.Int b) c e = in_range _ _ c (sym e)
of_arithmetic f (cell.Big a) (cell.Big b) c e = in_range _ _ c (sym e)
of_arithmetic f v w c e = inl refl

of_unary : (op : Unary) (a : Meaning) (d c : Class) → unary_class op d ≡ Some c → IfSome (unary_meaning op a) (IsOf c)
of_unary Not a d c e = gave _ Truth c e
of_unary IsNull a d c e = gave _ Truth c e
of_unary IsNotNull a d c e = gave _ Truth c e
of_unary Negate a d c e = of_negated (cell_of a) c (gave _ Number c e)

of_binary : (op : Binary) (a b : Meaning) (d e c : Class) → binary_class op d e ≡ Some c → IfSome (binary_meaning op a b) (IsOf c)
of_binary Or a b d e c h = gave _ Truth c h
of_binary And a b d e c h = gave _ Truth c h
of_binary Equal a b d e c h = gave _ Truth c h
of_binary Unequal a b d e c h = gave _ Truth c h
of_binary Less a b d e c h = gave _ Truth c h
of_binary AtMost a b d e c h = gave _ Truth c h
of_binary Greater a b d e c h = gave _ Truth c h
of_binary AtLeast a b d e c h = gave _ Truth c h
of_binary Add a b d e c h = of_arithmetic ◌+ℤ◌ (cell_of a) (cell_of b) c (gave _ Number c h)
of_binary Subtract a b d e c h = of_arithmetic ◌-ℤ◌ (cell_of a) (cell_of b) c (gave _ Number c h)
of_binary Multiply a b d e c h = of_arithmetic ◌*ℤ◌ (cell_of a) (cell_of b) c (gave _ Number c h)

one_of : (op : Unary) (m : Option Meaning) (o : Option Class) (c : Class) → option_and_then (unary_class op) o ≡ Some c → IfSome (of_one (unary_meaning op) m) (IsOf c)
one_of op None o c e = tt
one_of op (Some a) None c e = cc
one_of op (Some a) (Some d) c e = of_unary op a d c e

both_of : (op : Binary) (m n : Option Meaning) (o p : Option Class) (c : Class) → option_and_then (λ d. option_and_then (binary_class op d) p) o ≡ Some c → IfSome (of_both (binary_meaning op) m n) (IsOf c)
both_of op None n o p c e = tt
both_of op (Some a) None o p c e = tt
both_of op (Some a) (Some b) None p c e = cc
both_of op (Some a) (Some b) (Some d) None c e = cc
both_of op (Some a) (Some b) (Some d) (Some x) c e = of_binary op a b d x c e

pub have_their_class : HaveTheirClass
have_their_class columns values (literal v) c fits e = inr cc
have_their_class columns values (column table name) c fits e = of_column columns values table name c fits e
have_their_class columns values (unary op a) c fits e = one_of op (meaning columns values a) (class_in columns a) c (sym (class_in-unary columns op a) ∙ e)
have_their_class columns values (binary op a b) c fits e = both_of op (meaning columns values a) (meaning columns values b) (class_in columns a) (class_in columns b) c (sym (class_in-binary columns op a b) ∙ e)

valued : (o : Option Class) (m : Option Meaning) (t : Known) → ((c : Class) → o ≡ Some c → IfSome m (IsOf c)) → IsTrue (gives_value o) → m ≡ Some (truth t) → ⊥
valued (Some Number) m t typed h e = let wrong = rw e at (typed Number refl) in cc
valued (Some Text) m t typed h e = let wrong = rw e at (typed Text refl) in cc
valued (Some Date) m t typed h e = let wrong = rw e at (typed Date refl) in cc
valued (Some Truth) m t typed h e = cc
valued (Some Any) m t typed h e = let wrong = rw e at (typed Any refl) in cc
valued None m t typed h e = cc

-- an expression whose class is one of values gives no truth
pub gives_no_truth : (columns : List (Option (List ℕ) × List ℕ × Kind)) (values : List Cell) (t : Term) (u : Known) → meaning columns values t ≡ Some (truth u) → IsRowOf columns values → IsTrue (gives_value (class_in columns t)) → ⊥
gives_no_truth columns values t u e fits h =
    valued (class_in columns t) (meaning columns values t) u (λ c. have_their_class columns values t c fits) h e
