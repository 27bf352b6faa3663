-- Expressions as trees, without where they lie in memory.
-- Here is what no contract of the program says by itself.
use Rattle.std.specs.Prelude.{◌≡◌, ℕ, ◌+◌, List, [], ◌∷◌, Option, ◌⊎◌, refl}
use Rattle.std.proofs.Common.{inl, inr, ap, ◌∙◌}
use Rattle.std.specs.Coded.{Coded, code_by, coded×, coded⊎, coded_ℕ, coded_list, coded_option}
use Rattle.sr_base.specs.declared.value.Value.{Value as Cell}
use Rattle.sr_base.specs.declared.value.Value.TheVariants.{Null}
use Rattle.sr_base.specs.contracts.value.Value.{the_row}
use Rattle.sr_ast.specs.declared.operator.Unary.{Unary}
use Rattle.sr_ast.specs.declared.operator.Binary.{Binary}
use Rattle.sr_ast.specs.contracts.operator.Unary.{the_row as unary_row}
use Rattle.sr_ast.specs.contracts.operator.Binary.{the_row as binary_row}
use Rattle.sr_ast.specs.Terms.{Term}
use Rattle.sr_ast.specs.Terms.Term.{literal, column, unary, binary}

-- how many literals, columns and operators a term has
abbrev pub term_size : Term → ℕ
term_size (literal v) = 1
term_size (column t n) = 1
term_size (unary op a) = term_size a + 1
term_size (binary op a b) = term_size a + term_size b + 1

-- The rest of this file tells terms apart by their postfix notation, for the toolchain: a list of symbols.
abbrev pub Symbol : Type 0
Symbol = Cell ⊎ ((Option (List ℕ) × List ℕ) ⊎ (Unary ⊎ Binary))

abbrev pub postfix : Term → List Symbol → List Symbol
postfix (literal v) rest = inl v ∷ rest
postfix (column t n) rest = inr (inl (t, n)) ∷ rest
postfix (unary op a) rest = postfix a (inr (inr (inl op)) ∷ rest)
postfix (binary op a b) rest = postfix a (postfix b (inr (inr (inr op)) ∷ rest))

abbrev pub with_unary : Unary → List Term → List Term
with_unary op [] = []
with_unary op (a ∷ stack) = unary op a ∷ stack

abbrev pub with_binary : Binary → List Term → List Term
with_binary op [] = []
with_binary op (b ∷ []) = []
with_binary op (b ∷ a ∷ stack) = binary op a b ∷ stack

abbrev pub with_symbol : Symbol → List Term → List Term
with_symbol (inl v) stack = literal v ∷ stack
with_symbol (inr (inl (t, n))) stack = column t n ∷ stack
with_symbol (inr (inr (inl op))) stack = with_unary op stack
with_symbol (inr (inr (inr op))) stack = with_binary op stack

abbrev pub built : List Symbol → List Term → List Term
built [] stack = stack
built (symbol ∷ symbols) stack = built symbols (with_symbol symbol stack)

pub built-postfix : (t : Term) (rest : List Symbol) (stack : List Term) → built (postfix t rest) stack ≡ built rest (t ∷ stack)
built-postfix (literal v) rest stack = refl
built-postfix (column t n) rest stack = refl
built-postfix (unary op a) rest stack = built-postfix a (inr (inr (inl op)) ∷ rest) stack
built-postfix (binary op a b) rest stack =
    built-postfix a (postfix b (inr (inr (inr op)) ∷ rest)) stack ∙ built-postfix b (inr (inr (inr op)) ∷ rest) (a ∷ stack)

abbrev pub last_of : List Term → Term
last_of [] = literal Null
last_of (t ∷ stack) = t

abbrev pub symbols_code : Coded (List Symbol)
symbols_code = coded_list (coded⊎ the_row.coded (coded⊎ (coded× (coded_option (coded_list coded_ℕ)) (coded_list coded_ℕ)) (coded⊎ unary_row.coded binary_row.coded)))

abbrev pub term_code : Coded Term
term_code = code_by (List Symbol) symbols_code (λ t. postfix t []) (λ s. last_of (built s [])) (λ t. ap last_of (built-postfix t [] []))
