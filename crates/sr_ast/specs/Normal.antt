-- Statements in normal form: what a statement has to be so that its printed text spells it.
use Rattle.std.specs.Prelude.{◌≡◌, ℕ, ◌≤◌, false, ⊤, IsTrue, IsUtf8, FitsSigned, List, [], ◌∷◌, Option, Some, None}
use Rattle.std.specs.Int.{w64}
use Rattle.std.specs.List.{AllByRecursion}
use Rattle.sr_base.specs.Days.{IsDay}
use Rattle.sr_base.specs.Fitting.{is_int}
use Rattle.sr_base.specs.declared.value.Value.{Value}
use Rattle.sr_base.specs.declared.value.Value.TheVariants as value
use Rattle.sr_base.specs.declared.value.Kind.{Kind}
use Rattle.sr_base.specs.declared.value.Kind.TheVariants as kind
use Rattle.sr_base.specs.Names.{is_lower_name}
use Rattle.sr_ast.specs.Terms.{Term, depth, deepest}
use Rattle.sr_ast.specs.Terms.Term.{literal, column, unary, binary}
use Rattle.sr_ast.specs.Exprs.{term_of}
use Rattle.sr_ast.specs.declared.expr.Expr.{Expr}
use Rattle.sr_ast.specs.declared.keyword.Keyword.{Keyword}
use Rattle.sr_ast.specs.Keywords.{named, IsKeyword}

-- a name in lower case that is no key word, or one of the key words that are also names
pub record IsPlain (name : List ℕ) : Type 0 where
  pub written : IsTrue (is_lower_name name)
  pub free : (k : Keyword) → IsKeyword name k → named k ≡ Some name

-- what may be left out
abbrev pub IsNoneOr : {A : Type 0} → (A → Type 0) → Option A → Type 0
IsNoneOr P None = ⊤
IsNoneOr P (Some x) = P x

-- one or more
abbrev pub IsSomeOf : {A : Type 0} → (A → Type 0) → List A → Type 0
IsSomeOf P [] = ⊥
IsSomeOf P (x ∷ xs) = P x × AllByRecursion P xs

-- an INTEGER of 32 bits, a BIGINT of 64 bits and no fewer, a text, a day of the calendar
abbrev pub IsNormalValue : Value → Type 0
IsNormalValue value.Null = ⊤
IsNormalValue (value.Int n) = IsTrue (is_int n)
IsNormalValue (value.Big n) = (is_int n ≡ false) × FitsSigned w64 n
IsNormalValue (value.Str text) = IsUtf8 text
IsNormalValue (value.Date day) = IsDay day

-- VARCHAR holds 1 to 32767 bytes
abbrev pub IsNormalKind : Kind → Type 0
IsNormalKind kind.Int = ⊤
IsNormalKind kind.Big = ⊤
IsNormalKind (kind.Varchar n) = (1 ≤ n) × (n ≤ 32767)
IsNormalKind kind.Date = ⊤

-- name, or table.name
abbrev pub IsPlainColumn : Option (List ℕ) → List ℕ → Type 0
IsPlainColumn table name = IsNoneOr IsPlain table × IsPlain name

abbrev pub IsNormalTerm : Term → Type 0
IsNormalTerm (literal v) = IsNormalValue v
IsNormalTerm (column table name) = IsPlainColumn table name
IsNormalTerm (unary op a) = IsNormalTerm a
IsNormalTerm (binary op a b) = IsNormalTerm a × IsNormalTerm b

-- a term at most 200 deep
abbrev pub IsNormalDeep : Term → Type 0
IsNormalDeep t = IsNormalTerm t × (depth t ≤ deepest)

abbrev pub IsNormalExpr : Expr → Type 0
IsNormalExpr e = IsNormalDeep (term_of e)
