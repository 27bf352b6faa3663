-- Expressions of the grammar, from loose to tight.
use Rattle.std.specs.Prelude.{◌≡◌, ℕ, ◌-◌, ◌<◌, ◌≤◌, List, ◌∷◌, Option, Some, None}
use Rattle.sr_ast.specs.Terms.{Term, depth, deepest}
use Rattle.sr_ast.specs.Terms.Term.{literal, column, unary, binary}
use Rattle.sr_ast.specs.Exprs.{term_of}
use Rattle.sr_ast.specs.declared.expr.Expr.{Expr}
use Rattle.sr_ast.specs.declared.operator.Unary.{Unary}
use Rattle.sr_ast.specs.declared.operator.Unary.TheVariants as one
use Rattle.sr_ast.specs.declared.operator.Binary.{Binary}
use Rattle.sr_ast.specs.declared.operator.Binary.TheVariants as two
use Rattle.sr_base.specs.declared.value.Value.{Value}
use Rattle.sr_ast.specs.declared.keyword.Keyword.TheVariants as key
use Rattle.sr_parse_grammar.specs.declared.symbol.Sign.TheVariants as sign
use Rattle.sr_parse_grammar.specs.declared.symbol.Symbol.{Symbol}
use Rattle.sr_parse_grammar.specs.declared.symbol.Symbol.TheVariants as symbol
use Rattle.sr_parse_grammar.specs.Symbols.{Symbols, IsName, IsWord, IsSign}
use Rattle.sr_parse_grammar.specs.Literals.{IsLiteral, IsNegative, begins_number}

-- how tight an expression binds, loosest first
pub data Tightness : Type 0 where
  disjunction : Tightness
  conjunction : Tightness
  negation : Tightness
  comparison : Tightness
  sum : Tightness
  product : Tightness
  signed : Tightness
  operand : Tightness

-- the level of the operands of an operator
abbrev pub tighter : Tightness → Tightness
tighter disjunction = conjunction
tighter conjunction = negation
tighter negation = comparison
tighter comparison = sum
tighter sum = product
tighter product = signed
tighter signed = operand
tighter operand = operand

-- the operator between operands that a symbol is, read from left to right: OR; AND; + and -; *
abbrev pub joins : Tightness → Symbol → Option Binary
joins disjunction (symbol.Keyword key.Or) = Some two.Or
joins conjunction (symbol.Keyword key.And) = Some two.And
joins sum (symbol.Sign sign.Plus) = Some two.Add
joins sum (symbol.Sign sign.Minus) = Some two.Subtract
joins product (symbol.Sign sign.Times) = Some two.Multiply
joins k s = None

-- the comparison that a symbol is
abbrev pub compares : Symbol → Option Binary
compares (symbol.Sign sign.Equal) = Some two.Equal
compares (symbol.Sign sign.Unequal) = Some two.Unequal
compares (symbol.Sign sign.Less) = Some two.Less
compares (symbol.Sign sign.AtMost) = Some two.AtMost
compares (symbol.Sign sign.Greater) = Some two.Greater
compares (symbol.Sign sign.AtLeast) = Some two.AtLeast
compares s = None

-- an operator that stands next
pub record Operator (meant : Symbol → Option Binary) (before : Symbols) (op : Binary) (after : Symbols) : Type 0 where
  pub written : Symbol
  pub stands : before ≡ written ∷ after
  pub means : meant written ≡ Some op

-- behind IS: NULL, or NOT NULL
abbrev pub IsNullTest : Symbols → Unary → Symbols → Type 0
IsNullTest before one.IsNull after = IsWord before key.Null after
IsNullTest before one.IsNotNull after = before ≡ symbol.Keyword key.Not ∷ symbol.Keyword key.Null ∷ after
IsNullTest before one.Not after = ⊥
IsNullTest before one.Negate after = ⊥

-- a column or a variable: a name, or two with a dot between them
abbrev pub IsColumn : Symbols → Option (List ℕ) → List ℕ → Symbols → Type 0
IsColumn before None name after = IsName before name after
IsColumn before (Some table) name after = (dot next : Symbols) × IsName before table dot × IsSign dot sign.Dot next × IsName next name after

-- `Reads k room before t after`: the symbols before `after` spell the term `t` at a level, where so many parentheses may be opened.
pub data Reads : Tightness → ℕ → Symbols → Term → Symbols → Type 0 where
  loose : {k : Tightness} {room : ℕ} {before after : Symbols} {t : Term} → Reads (tighter k) room before t after → Reads k room before t after
  joined : {k : Tightness} {room : ℕ} {before middle next after : Symbols} {op : Binary} {a b : Term}
      → Reads k room before a middle → Operator (joins k) middle op next → Reads (tighter k) room next b after → Reads k room before (binary op a b) after
  not : {room : ℕ} {before next after : Symbols} {a : Term} → IsWord before key.Not next → Reads negation room next a after → Reads negation room before (unary one.Not a) after
  compared : {room : ℕ} {before middle next after : Symbols} {op : Binary} {a b : Term}
      → Reads sum room before a middle → Operator compares middle op next → Reads sum room next b after → Reads comparison room before (binary op a b) after
  null_test : {room : ℕ} {before middle next after : Symbols} {op : Unary} {a : Term}
      → Reads sum room before a middle → IsWord middle key.Is next → IsNullTest next op after → Reads comparison room before (unary op a) after
  negative : {room : ℕ} {before next after : Symbols} {v : Value} → IsSign before sign.Minus next → IsNegative next v after → Reads signed room before (literal v) after
  minus : {room : ℕ} {before next after : Symbols} {a : Term}
      → IsSign before sign.Minus next → begins_number next ≡ None → Reads signed room next a after → Reads signed room before (unary one.Negate a) after
  single : {room : ℕ} {before after : Symbols} {v : Value} → IsLiteral before v after → Reads operand room before (literal v) after
  named : {room : ℕ} {before after : Symbols} {table : Option (List ℕ)} {name : List ℕ} → IsColumn before table name after → Reads operand room before (column table name) after
  inside : {room : ℕ} {before next middle after : Symbols} {t : Term}
      → 0 < room → IsSign before sign.Open next → Reads disjunction (room - 1) next t middle → IsSign middle sign.Close after → Reads operand room before t after

-- a whole expression: at most 200 deep, with at most 200 parentheses open
pub record IsExpr (before : Symbols) (e : Expr) (after : Symbols) : Type 0 where
  pub reads : Reads disjunction deepest before (term_of e) after
  pub shallow : depth (term_of e) ≤ deepest
