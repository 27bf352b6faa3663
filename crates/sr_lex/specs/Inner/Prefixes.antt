-- Tokens taken from the front of a text, one after the other.
use Rattle.std.specs.Prelude.{◌≡◌, ℕ, ◌+◌, ◌-◌, List, [], ◌∷◌, ◌++◌, length, Option, Some, None, Result, Ok, Err}
use Rattle.sr_lex.specs.declared.token.Token.{Token}
use Rattle.sr_lex.specs.declared.fault.LexFault.{LexFault}
use Rattle.sr_lex.specs.declared.fault.LexFault.TheVariants.{NoToken, Memory}
use Rattle.sr_lex.specs.Tokens.{Takes, IsTokens, NoTokenAt}
use Rattle.sr_lex.specs.Inner.Reading.{after_gap}

-- At the byte `at` of the text, where `rest` is left and no white space and no comment is next, these tokens were taken: whatever is
-- taken from here is taken behind them, and whoever takes the whole text takes them first.
pub record Prefix (text : List ℕ) (at : ℕ) (done : List Token) (rest : List ℕ) : Type 0 where
  pub forth : (more : List Token) (left : List ℕ) → Takes at rest more left → Takes 0 text (done ++ more) left
  pub back : (all : List Token) → Takes 0 text all [] → (more : List Token) × (all ≡ done ++ more) × Takes at rest more []
  pub bare : after_gap rest ≡ rest
  pub place : at + length rest ≡ length text

-- a text, and what is left of it: these tokens were taken
abbrev pub IsPrefix : List ℕ × List ℕ → List Token → Type 0
IsPrefix lexer done = Prefix lexer.0 (length lexer.0 - length lexer.1) done lexer.1

-- these are the tokens of the text, and no others are
abbrev pub AreAll : List ℕ → List Token → Type 0
AreAll text done = IsTokens text done × ((all : List Token) → IsTokens text all → done ≡ all)

-- the text has no tokens, since none begins at this byte
abbrev pub IsRefused : List ℕ → ℕ → Type 0
IsRefused text at = NoTokenAt text at × ((all : List Token) → IsTokens text all → ⊥)

-- what comes behind these tokens: one more, the end, or a byte at which none begins
abbrev pub Goes : List Token → List ℕ × List ℕ → Result (Option Token) LexFault → Type 0
Goes done lexer (Ok (Some token)) = IsPrefix lexer (done ++ token ∷ [])
Goes done lexer (Ok None) = AreAll lexer.0 done
Goes done lexer (Err (NoToken at)) = IsRefused lexer.0 at
Goes done lexer (Err Memory) = Unit {0}
