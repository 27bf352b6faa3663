-- Expressions whose names are resolved: a column is a place among the values of all sources.
use Rattle.std.specs.Prelude.{◌≡◌, ℕ, ◌+◌, List, [], ◌∷◌, Option, Some, None, ◌⊎◌, refl, slice_get, unwrap_or}
use Rattle.std.proofs.Common.{inl, inr, ap, ◌∙◌}
use Rattle.std.specs.Coded.{Coded, code_by, coded⊎, coded_ℕ, coded_list}
use Rattle.sr_base.specs.declared.value.Value.{Value as Cell}
use Rattle.sr_base.specs.declared.value.Value.TheVariants.{Null}
use Rattle.sr_base.specs.declared.value.Kind.{Kind}
use Rattle.sr_base.specs.contracts.value.Value.{the_row}
use Rattle.sr_ast.specs.Inner.Classes.{place_of}
use Rattle.sr_ast.specs.Terms.{Term}
use Rattle.sr_ast.specs.Terms.Term.{literal as a_literal, column as a_column, unary as a_unary, binary as a_binary}
use Rattle.sr_ast.specs.declared.operator.Unary.{Unary}
use Rattle.sr_ast.specs.declared.operator.Binary.{Binary}
use Rattle.sr_ast.specs.contracts.operator.Unary.{the_row as unary_row}
use Rattle.sr_ast.specs.contracts.operator.Binary.{the_row as binary_row}
use Rattle.sr_eval.specs.Meanings.{Meaning, unary_meaning, binary_meaning, of_one, of_both}
use Rattle.sr_eval.specs.Meanings.Meaning.{value}

-- A literal, the value at a place, or an operator and its operands.
pub data Resolution : Type 0 where
  literal : Cell → Resolution
  place : ℕ → Resolution
  unary : Unary → Resolution → Resolution
  binary : Binary → Resolution → Resolution → Resolution

-- a column at its place; NULL where there is none
abbrev pub at_place : Option ℕ → Resolution
at_place None = literal Null
at_place (Some n) = place n

-- an expression, its names resolved among these columns
abbrev pub resolved : List (Option (List ℕ) × List ℕ × Kind) → Term → Resolution
resolved columns (a_literal v) = literal v
resolved columns (a_column table name) = at_place (place_of columns table name)
resolved columns (a_unary op a) = unary op (resolved columns a)
resolved columns (a_binary op a b) = binary op (resolved columns a) (resolved columns b)

-- what it gives over the values
abbrev pub meaning_at : List Cell → Resolution → Option Meaning
meaning_at values (literal v) = Some (value v)
meaning_at values (place n) = Some (value (unwrap_or (slice_get values n) Null))
meaning_at values (unary op a) = of_one (unary_meaning op) (meaning_at values a)
meaning_at values (binary op a b) = of_both (binary_meaning op) (meaning_at values a) (meaning_at values b)

-- how many literals, places and operators it has
abbrev pub resolution_size : Resolution → ℕ
resolution_size (literal v) = 1
resolution_size (place n) = 1
resolution_size (unary op a) = resolution_size a + 1
resolution_size (binary op a b) = resolution_size a + resolution_size b + 1

-- The rest of this file tells them apart by their postfix notation, for the toolchain: a list of symbols.
abbrev pub Symbol : Type 0
Symbol = Cell ⊎ (ℕ ⊎ (Unary ⊎ Binary))

abbrev pub postfix : Resolution → List Symbol → List Symbol
postfix (literal v) rest = inl v ∷ rest
postfix (place n) rest = inr (inl n) ∷ rest
postfix (unary op a) rest = postfix a (inr (inr (inl op)) ∷ rest)
postfix (binary op a b) rest = postfix a (postfix b (inr (inr (inr op)) ∷ rest))

abbrev pub with_unary : Unary → List Resolution → List Resolution
with_unary op [] = []
with_unary op (a ∷ stack) = unary op a ∷ stack

abbrev pub with_binary : Binary → List Resolution → List Resolution
with_binary op [] = []
with_binary op (b ∷ []) = []
with_binary op (b ∷ a ∷ stack) = binary op a b ∷ stack

abbrev pub with_symbol : Symbol → List Resolution → List Resolution
with_symbol (inl v) stack = literal v ∷ stack
with_symbol (inr (inl n)) stack = place n ∷ stack
with_symbol (inr (inr (inl op))) stack = with_unary op stack
with_symbol (inr (inr (inr op))) stack = with_binary op stack

abbrev pub built : List Symbol → List Resolution → List Resolution
built [] stack = stack
built (symbol ∷ symbols) stack = built symbols (with_symbol symbol stack)

pub built-postfix : (r : Resolution) (rest : List Symbol) (stack : List Resolution) → built (postfix r rest) stack ≡ built rest (r ∷ stack)
built-postfix (literal v) rest stack = refl
built-postfix (place n) rest stack = refl
built-postfix (unary op a) rest stack = built-postfix a (inr (inr (inl op)) ∷ rest) stack
built-postfix (binary op a b) rest stack =
    built-postfix a (postfix b (inr (inr (inr op)) ∷ rest)) stack ∙ built-postfix b (inr (inr (inr op)) ∷ rest) (a ∷ stack)

abbrev pub last_of : List Resolution → Resolution
last_of [] = literal Null
last_of (r ∷ stack) = r

abbrev pub symbols_code : Coded (List Symbol)
symbols_code = coded_list (coded⊎ the_row.coded (coded⊎ coded_ℕ (coded⊎ unary_row.coded binary_row.coded)))

abbrev pub resolution_code : Coded Resolution
resolution_code = code_by (List Symbol) symbols_code (λ r. postfix r []) (λ s. last_of (built s [])) (λ r. ap last_of (built-postfix r [] []))
