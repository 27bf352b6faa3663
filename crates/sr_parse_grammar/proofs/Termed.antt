-- Expressions in print spell expressions of the grammar.
use Rattle.std.proofs.Common.{◌≡◌, ℕ, ◌+◌, ◌-◌, ◌<◌, ◌≤◌, nat_eq, true, false, List, [], ◌∷◌, ◌++◌, Option, refl, arith, codes}
use Rattle.sr_ast.specs.Terms.{Term, depth}
use Rattle.sr_ast.specs.Terms.Term.{literal, column, unary, binary}
use Rattle.sr_ast.specs.Exprs.{term_of}
use Rattle.sr_ast.specs.Pages.{word, in_parentheses}
use Rattle.sr_ast.specs.Printing.{term_pieces, expr_pieces, column_pieces, operand as operand_pieces, unary_pieces, sign as sign_word}
use Rattle.sr_ast.specs.declared.expr.Expr.{Expr}
use Rattle.sr_ast.specs.declared.operator.Unary.{Unary}
use Rattle.sr_ast.specs.declared.operator.Unary.TheVariants.{Not, IsNull, IsNotNull, Negate}
use Rattle.sr_ast.specs.declared.operator.Binary.{Binary}
use Rattle.sr_ast.specs.declared.operator.Binary.TheVariants.{Or, And, Equal, Unequal, Less, AtMost, Greater, AtLeast, Add, Subtract, Multiply}
use Rattle.sr_lex.specs.declared.token.TokenKind.TheVariants as kind
use Rattle.sr_lex.specs.Tokens.{is_sign, begins, is_dash, is_behind_less}
use Rattle.sr_ast.specs.declared.keyword.Keyword.TheVariants as key
use Rattle.sr_parse_grammar.specs.declared.symbol.Sign.TheVariants as mark
use Rattle.sr_parse_grammar.specs.declared.symbol.Symbol.{Symbol}
use Rattle.sr_parse_grammar.specs.Symbols.{Symbols, word as key_symbol, sign}
use Rattle.sr_parse_grammar.specs.Expressions.{Reads, IsExpr}
use Rattle.sr_parse_grammar.specs.Expressions.Tightness.{disjunction, conjunction, negation, comparison, sum, product, signed}
use Rattle.sr_parse_grammar.specs.Expressions.Reads.{loose, joined, not, compared, null_test, minus, named, inside}
use Rattle.sr_ast.specs.Normal.{IsNormalTerm, IsNormalExpr}
use Rattle.sr_parse_grammar.proofs.Saying.{Spelt, IsLexeme, word_says, phrase_says, regrouped, dash_says, no_part, no_dash, no_longer, no_equal}
use Rattle.sr_parse_grammar.proofs.Listed.{enclosed}
use Rattle.sr_parse_grammar.proofs.Naming.{column_spelt}
use Rattle.sr_parse_grammar.proofs.Signed.{value_spelt}

-- ---- levels

module _ {room : ℕ} {before after : Symbols} {t : Term} where
  at_product : Reads signed room before t after → Reads product room before t after
  at_product h = loose h

  at_sum : Reads signed room before t after → Reads sum room before t after
  at_sum h = loose (at_product h)

  at_comparison : Reads signed room before t after → Reads comparison room before t after
  at_comparison h = loose (at_sum h)

  of_comparison : Reads comparison room before t after → Reads disjunction room before t after
  of_comparison h = loose (loose (loose h))

  of_negation : Reads negation room before t after → Reads disjunction room before t after
  of_negation h = loose (loose h)

  of_sum : Reads sum room before t after → Reads disjunction room before t after
  of_sum h = of_comparison (loose h)

  at_negation : Reads signed room before t after → Reads negation room before t after
  at_negation h = loose (at_comparison h)

  at_conjunction : Reads signed room before t after → Reads conjunction room before t after
  at_conjunction h = loose (at_negation h)

  at_disjunction : Reads signed room before t after → Reads disjunction room before t after
  at_disjunction h = loose (at_conjunction h)

-- ---- operators in print

-- the symbol of an operator
abbrev pub operator : Binary → Symbol
operator Or = key_symbol key.Or
operator And = key_symbol key.And
operator Equal = sign mark.Equal
operator Unequal = sign mark.Unequal
operator Less = sign mark.Less
operator AtMost = sign mark.AtMost
operator Greater = sign mark.Greater
operator AtLeast = sign mark.AtLeast
operator Add = sign mark.Plus
operator Subtract = sign mark.Minus
operator Multiply = sign mark.Times

dash_sign : (rest : List ℕ) → begins is_dash rest ≡ false → is_sign (45 ∷ []) rest ≡ true
dash_sign rest e = rw e refl

less_sign : (rest : List ℕ) → begins is_behind_less rest ≡ false → is_sign (60 ∷ []) rest ≡ true
less_sign rest e = rw e refl

greater_sign : (rest : List ℕ) → begins (λ b. nat_eq b 61) rest ≡ false → is_sign (62 ∷ []) rest ≡ true
greater_sign rest e = rw e refl

pub operator_lexeme : (op : Binary) → IsLexeme (sign_word op) (operator op)
operator_lexeme Or = record { kind = kind.Word; stands = λ rest apart. (refl, no_part rest apart); means = refl }
operator_lexeme And = record { kind = kind.Word; stands = λ rest apart. (refl, no_part rest apart); means = refl }
operator_lexeme Less = record { kind = kind.Sign; stands = λ rest apart. less_sign rest (no_longer rest apart); means = refl }
operator_lexeme Greater = record { kind = kind.Sign; stands = λ rest apart. greater_sign rest (no_equal rest apart); means = refl }
operator_lexeme Subtract = record { kind = kind.Sign; stands = λ rest apart. dash_sign rest (no_dash rest apart); means = refl }
operator_lexeme _ = record { kind = kind.Sign; stands = λ rest apart. refl; means = refl }

-- two operands and the operator between them
operated : {room : ℕ} {before next after : Symbols} (op : Binary) {a b : Term}
    → Reads signed room before a (operator op ∷ next) → Reads signed room next b after → Reads disjunction room before (binary op a b) after
operated Or a b = joined (at_disjunction a) (record { written = operator Or; stands = refl; means = refl }) (at_conjunction b)
operated And a b = loose (joined (at_conjunction a) (record { written = operator And; stands = refl; means = refl }) (at_negation b))
operated Add a b = of_sum (joined (at_sum a) (record { written = operator Add; stands = refl; means = refl }) (at_product b))
operated Subtract a b = of_sum (joined (at_sum a) (record { written = operator Subtract; stands = refl; means = refl }) (at_product b))
operated Multiply a b = of_sum (loose (joined (at_product a) (record { written = operator Multiply; stands = refl; means = refl }) b))
operated op a b = of_comparison (compared (at_sum a) (record { written = operator op; stands = refl; means = refl }) (at_sum b))

-- ---- terms

pub depth-some : (t : Term) → 0 < depth t
depth-some (literal v) = omega arith
depth-some _ = omega arith

column_read : (room : ℕ) (table : Option (List ℕ)) (name : List ℕ) → IsNormalTerm (column table name) → Spelt (Reads signed room) (column table name) (column_pieces table name)
column_read room table name p ps after h = let c = column_spelt table name p ps after h in (c.0, c.1, loose (named c.2))

-- a term in parentheses
in_parentheses_spelt : (room : ℕ) (t : Term) → 0 < room → Spelt (Reads disjunction (room - 1)) t (term_pieces t) → Spelt (Reads signed room) t (in_parentheses (term_pieces t))
in_parentheses_spelt room t some spelt ps after h =
    let e = enclosed (Reads disjunction (room - 1)) t (term_pieces t) spelt ps after h in
    (sign mark.Open ∷ e.inside, e.says, loose (inside some refl e.is e.closed))

-- an operand
operand_spelt : (room : ℕ) (t : Term) → 0 < room → IsNormalTerm t → Spelt (Reads disjunction (room - 1)) t (term_pieces t) → Spelt (Reads signed room) t (operand_pieces t (term_pieces t))
operand_spelt room (literal v) some p spelt = value_spelt room v p
operand_spelt room (column t n) some p spelt = column_read room t n p
operand_spelt room (unary op a) some p spelt = in_parentheses_spelt room (unary op a) some spelt
operand_spelt room (binary op a b) some p spelt = in_parentheses_spelt room (binary op a b) some spelt

unary_spelt : (room : ℕ) (op : Unary) (a : Term) → 0 < room → IsNormalTerm a → Spelt (Reads disjunction (room - 1)) a (term_pieces a) → Spelt (Reads disjunction room) (unary op a) (unary_pieces op a (term_pieces a))
unary_spelt room Not a some p spelt ps after h =
    let x = operand_spelt room a some p spelt ps after h in
    (key_symbol key.Not ∷ x.0, phrase_says (codes "NOT") key.Not [] refl x.1, of_negation (not refl (at_negation x.2)))
unary_spelt room IsNull a some p spelt ps after h =
    let w = phrase_says (codes "IS NULL") key.Is (key.Null ∷ []) refl h in
    let x = operand_spelt room a some p spelt (word (codes "IS NULL") ∷ ps) (key_symbol key.Is ∷ key_symbol key.Null ∷ after) w in
    (x.0, regrouped (operand_pieces a (term_pieces a)) (word (codes "IS NULL") ∷ []) ps x.1, of_comparison (null_test {op = IsNull} (at_sum x.2) refl refl))
unary_spelt room IsNotNull a some p spelt ps after h =
    let w = phrase_says (codes "IS NOT NULL") key.Is (key.Not ∷ key.Null ∷ []) refl h in
    let x = operand_spelt room a some p spelt (word (codes "IS NOT NULL") ∷ ps) (key_symbol key.Is ∷ key_symbol key.Not ∷ key_symbol key.Null ∷ after) w in
    (x.0, regrouped (operand_pieces a (term_pieces a)) (word (codes "IS NOT NULL") ∷ []) ps x.1, of_comparison (null_test {op = IsNotNull} (at_sum x.2) refl refl))
unary_spelt room Negate a some p spelt ps after h =
    let e = enclosed (Reads disjunction (room - 1)) a (term_pieces a) spelt ps after h in
    (sign mark.Minus ∷ sign mark.Open ∷ e.inside, dash_says e.says, at_disjunction (minus refl refl (loose (inside some refl e.is e.closed))))

pub term_spelt : (t : Term) → IsNormalTerm t → (room : ℕ) → depth t ≤ room + 1 → Spelt (Reads disjunction room) t (term_pieces t)
term_spelt (literal v) p room d ps after h = let x = value_spelt room v p ps after h in (x.0, x.1, at_disjunction x.2)
term_spelt (column t n) p room d ps after h = let x = column_read room t n p ps after h in (x.0, x.1, at_disjunction x.2)
term_spelt (unary op a) p room d ps after h =
    let some : 0 < room = omega (arith, d, depth-some a) in
    unary_spelt room op a some p (term_spelt a p (room - 1) (omega (arith, d, some))) ps after h
term_spelt (binary op a b) p room d ps after h =
    let da : depth a ≤ room = grind (arith, d) in
    let db : depth b ≤ room = grind (arith, d) in
    let some : 0 < room = omega (arith, da, depth-some a) in
    let pa = operand_pieces a (term_pieces a) in
    let pb = operand_pieces b (term_pieces b) in
    let y = operand_spelt room b some p.1 (term_spelt b p.1 (room - 1) (omega (arith, db, some))) ps after h in
    let w = word_says (sign_word op) (operator op) (operator_lexeme op) y.1 in
    let x = operand_spelt room a some p.0 (term_spelt a p.0 (room - 1) (omega (arith, da, some))) (word (sign_word op) ∷ (pb ++ ps)) (operator op ∷ y.0) w in
    (x.0, regrouped pa (word (sign_word op) ∷ pb) ps x.1, operated op x.2 y.2)

pub expr_spelt : (e : Expr) → IsNormalExpr e → Spelt IsExpr e (expr_pieces e)
expr_spelt e p ps after h =
    let x = term_spelt (term_of e) p.0 200 (omega (arith, p.1)) ps after h in
    (x.0, x.1, record { reads = x.2; shallow = p.1 })
