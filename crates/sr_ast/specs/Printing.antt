-- How each statement prints: key words in upper case, names in lower case, each operand that is itself an operator in parentheses.
use Rattle.std.specs.Prelude.{ℕ, Bool, true, false, cond, List, [], ◌∷◌, ◌++◌, Option, Some, None, codes, decimal}
use Rattle.std.specs.Fmt.{signed_decimal}
use Rattle.sr_base_dates.specs.Calendar.{date_text}
use Rattle.sr_base_dates.specs.Literals.{quotes_doubled}
use Rattle.sr_base.specs.declared.value.Value.{Value}
use Rattle.sr_base.specs.declared.value.Value.TheVariants as value
use Rattle.sr_base.specs.declared.value.Kind.{Kind}
use Rattle.sr_base.specs.declared.value.Kind.TheVariants as kind
use Rattle.sr_ast.specs.Terms.{Term}
use Rattle.sr_ast.specs.Terms.Term.{literal, column, unary, binary}
use Rattle.sr_ast.specs.Chains.{Chain}
use Rattle.sr_ast.specs.Chains.Chain.{done, set, insert, when, choose}
use Rattle.sr_ast.specs.Exprs.{term_of}
use Rattle.sr_ast.specs.Pages.{Piece, word, call_parenthesis, close_parenthesis, semicolon, dot, dash, listed, in_parentheses}
use Rattle.sr_ast.specs.declared.operator.Unary.{Unary}
use Rattle.sr_ast.specs.declared.operator.Unary.TheVariants.{Not, IsNull, IsNotNull, Negate}
use Rattle.sr_ast.specs.declared.operator.Binary.{Binary}
use Rattle.sr_ast.specs.declared.operator.Binary.TheVariants.{Or, And, Equal, Unequal, Less, AtMost, Greater, AtLeast, Add, Subtract, Multiply}
use Rattle.sr_ast.specs.declared.expr.Expr.{Expr}

-- key words, and a name
abbrev pub name_pieces : List ℕ → List Piece
name_pieces name = word name ∷ []

-- a text in quotes, each quote in it twice
abbrev pub quoted : List ℕ → List ℕ
quoted text = 39 ∷ (quotes_doubled text ++ 39 ∷ [])

-- a literal: NULL, a number, a text in quotes, or DATE and a date in quotes
abbrev pub value_pieces : Value → List Piece
value_pieces value.Null = word (codes "NULL") ∷ []
value_pieces (value.Int n) = word (signed_decimal n) ∷ []
value_pieces (value.Big n) = word (signed_decimal n) ∷ []
value_pieces (value.Str text) = word (quoted text) ∷ []
value_pieces (value.Date day) = word (codes "DATE") ∷ word (39 ∷ (date_text day ++ 39 ∷ [])) ∷ []

-- a column type
abbrev pub kind_pieces : Kind → List Piece
kind_pieces kind.Int = word (codes "INTEGER") ∷ []
kind_pieces kind.Big = word (codes "BIGINT") ∷ []
kind_pieces (kind.Varchar n) = word (codes "VARCHAR") ∷ call_parenthesis ∷ word (decimal n) ∷ close_parenthesis ∷ []
kind_pieces kind.Date = word (codes "DATE") ∷ []

-- name, or table.name
abbrev pub column_pieces : Option (List ℕ) → List ℕ → List Piece
column_pieces None name = word name ∷ []
column_pieces (Some table) name = word table ∷ dot ∷ word name ∷ []

abbrev pub sign : Binary → List ℕ
sign Or = codes "OR"
sign And = codes "AND"
sign Equal = codes "="
sign Unequal = codes "<>"
sign Less = codes "<"
sign AtMost = codes "<="
sign Greater = codes ">"
sign AtLeast = codes ">="
sign Add = codes "+"
sign Subtract = codes "-"
sign Multiply = codes "*"

-- what stands in parentheses as an operand
abbrev pub is_operator : Term → Bool
is_operator (literal v) = false
is_operator (column t n) = false
is_operator (unary op a) = true
is_operator (binary op a b) = true

-- an operand, which prints so by itself
abbrev pub operand : Term → List Piece → List Piece
operand term pieces = cond (is_operator term) (in_parentheses pieces) pieces

-- an operator of one operand: NOT a, a IS NULL, a IS NOT NULL, -(a)
abbrev pub unary_pieces : Unary → Term → List Piece → List Piece
unary_pieces Not a pieces = word (codes "NOT") ∷ operand a pieces
unary_pieces IsNull a pieces = operand a pieces ++ word (codes "IS NULL") ∷ []
unary_pieces IsNotNull a pieces = operand a pieces ++ word (codes "IS NOT NULL") ∷ []
unary_pieces Negate a pieces = dash ∷ in_parentheses pieces

-- an expression
abbrev pub term_pieces : Term → List Piece
term_pieces (literal v) = value_pieces v
term_pieces (column t n) = column_pieces t n
term_pieces (unary op a) = unary_pieces op a (term_pieces a)
term_pieces (binary op a b) = operand a (term_pieces a) ++ word (sign op) ∷ operand b (term_pieces b)

abbrev pub expr_pieces : Expr → List Piece
expr_pieces e = term_pieces (term_of e)

-- names in parentheses, or nothing where there are none
abbrev pub names_pieces : List (List ℕ) → List Piece
names_pieces [] = []
names_pieces (n ∷ ns) = in_parentheses (listed name_pieces (n ∷ ns))

-- expressions in parentheses
abbrev pub row_pieces : List Term → List Piece
row_pieces row = in_parentheses (listed term_pieces row)

-- the actions of a trigger, each with its ;
abbrev pub chain_pieces : Chain → List Piece
chain_pieces done = []
chain_pieces (set t n v rest) = word (codes "SET") ∷ (column_pieces t n ++ word (codes "=") ∷ (term_pieces v ++ semicolon ∷ chain_pieces rest))
chain_pieces (insert t cs vs rest) = word (codes "INSERT INTO") ∷ word t ∷ (names_pieces cs ++ word (codes "VALUES") ∷ (row_pieces vs ++ semicolon ∷ chain_pieces rest))
chain_pieces (when c taken rest) = word (codes "IF") ∷ (term_pieces c ++ word (codes "THEN") ∷ (chain_pieces taken ++ word (codes "END IF") ∷ semicolon ∷ chain_pieces rest))
chain_pieces (choose c taken other rest) =
    word (codes "IF") ∷ (term_pieces c ++ word (codes "THEN") ∷ (chain_pieces taken ++ word (codes "ELSE") ∷ (chain_pieces other ++ word (codes "END IF") ∷ semicolon ∷ chain_pieces rest)))
