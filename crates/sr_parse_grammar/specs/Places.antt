-- Where a text is refused.
use Rattle.std.specs.Prelude.{◌≡◌, ℕ, zero, suc, List, [], ◌∷◌, ◌++◌, length, ◌⊎◌}
use Rattle.sr_ast.specs.declared.stmt.Stmt.{Stmt}
use Rattle.sr_lex.specs.declared.token.Token.{Token}
use Rattle.sr_lex.specs.Tokens.{IsTokens, NoTokenAt}
use Rattle.sr_parse_grammar.specs.Symbols.{Symbols}
use Rattle.sr_parse_grammar.specs.Meanings.{AreSymbols}
use Rattle.sr_parse_grammar.specs.Scripts.{IsScript}

-- the first byte of the token behind so many of them, or the text's length
abbrev pub start_at : List ℕ → List Token → ℕ → ℕ
start_at text [] n = length text
start_at text (t ∷ tokens) zero = t.start
start_at text (t ∷ tokens) (suc n) = start_at text tokens n

-- Some text is a script, and its tokens begin with those that mean these symbols.
pub record SomeScript (taken : Symbols) : Type 0 where
  pub text : List ℕ
  pub tokens : List Token
  pub more : Symbols
  pub script : List Stmt
  pub are_tokens : IsTokens text tokens
  pub mean : AreSymbols text tokens (taken ++ more)
  pub spell : IsScript (taken ++ more) script

-- no script begins with these symbols
abbrev pub NoScript : Symbols → Type 0
NoScript symbols = (more : Symbols) (script : List Stmt) → IsScript (symbols ++ more) script → ⊥

-- no script goes on with the first of the symbols that are left, or ends where none is left
abbrev pub NoneGoesOn : Symbols → Symbols → Type 0
NoneGoesOn taken [] = (script : List Stmt) → IsScript taken script → ⊥
NoneGoesOn taken (s ∷ left) = NoScript (taken ++ s ∷ [])

-- At the first of the tokens with which no script goes on, or at the end: a script begins with the tokens before, and none with this one too.
pub record IsStuck (text : List ℕ) (tokens : List Token) (at : ℕ) : Type 0 where
  pub taken : Symbols
  pub left : Symbols
  pub mean : AreSymbols text tokens (taken ++ left)
  pub place : at ≡ start_at text tokens (length taken)
  pub some : SomeScript taken
  pub none : NoneGoesOn taken left

-- where no token begins, or else where no script goes on
abbrev pub IsRefusedAt : List ℕ → ℕ → Type 0
IsRefusedAt text at = NoTokenAt text at ⊎ ((tokens : List Token) × IsTokens text tokens × IsStuck text tokens at)
