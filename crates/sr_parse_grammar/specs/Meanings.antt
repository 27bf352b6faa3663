-- What the tokens of a text mean to the grammar.
use Rattle.std.specs.Prelude.{◌≡◌, ℕ, ◌≤◌, List, [], ◌∷◌, length, slice_range, codes, IsTrue}
use Rattle.sr_base.specs.Names.{is_name}
use Rattle.sr_lex.specs.declared.token.Token.{Token}
use Rattle.sr_lex.specs.declared.token.TokenKind.{TokenKind}
use Rattle.sr_lex.specs.declared.token.TokenKind.TheVariants as token
use Rattle.sr_lex.specs.Tokens.{IsTokens}
use Rattle.sr_ast.specs.declared.stmt.Stmt.{Stmt}
use Rattle.sr_ast.specs.Keywords.{lower, IsKeyword, IsNoKeyword}
use Rattle.sr_parse_grammar.specs.declared.symbol.Sign.{Sign}
use Rattle.sr_parse_grammar.specs.declared.symbol.Sign.TheVariants as mark
use Rattle.sr_parse_grammar.specs.declared.symbol.Symbol.{Symbol}
use Rattle.sr_parse_grammar.specs.declared.symbol.Symbol.TheVariants as symbol
use Rattle.sr_parse_grammar.specs.Symbols.{Symbols}
use Rattle.sr_parse_grammar.specs.Scripts.{IsScript}

-- how a sign is spelled
abbrev pub sign_text : Sign → List ℕ
sign_text mark.Open = codes "("
sign_text mark.Close = codes ")"
sign_text mark.Comma = codes ","
sign_text mark.Semicolon = codes ";"
sign_text mark.Dot = codes "."
sign_text mark.Plus = codes "+"
sign_text mark.Minus = codes "-"
sign_text mark.Times = codes "*"
sign_text mark.Equal = codes "="
sign_text mark.Unequal = codes "<>"
sign_text mark.Less = codes "<"
sign_text mark.AtMost = codes "<="
sign_text mark.Greater = codes ">"
sign_text mark.AtLeast = codes ">="

-- the symbol that a word is: a key word; or else a name, in lower case; or else `Other`, which stands in no production
abbrev pub IsWordSymbol : List ℕ → Symbol → Type 0
IsWordSymbol word (symbol.Keyword k) = IsKeyword word k
IsWordSymbol word (symbol.Name n) = IsNoKeyword word × IsTrue (is_name word) × (n ≡ lower word)
IsWordSymbol word symbol.Other = IsNoKeyword word × (IsTrue (is_name word) → ⊥)
IsWordSymbol word (symbol.Number n) = ⊥
IsWordSymbol word symbol.TopNumber = ⊥
IsWordSymbol word (symbol.Text t) = ⊥
IsWordSymbol word (symbol.Sign s) = ⊥

-- bytes are no sign of the grammar
abbrev pub IsNoSign : List ℕ → Type 0
IsNoSign bytes = (s : Sign) → bytes ≡ sign_text s → ⊥

-- the symbol that a sign is; one that is none of the grammar is `Other`
abbrev pub IsSignSymbol : List ℕ → Symbol → Type 0
IsSignSymbol word (symbol.Sign s) = word ≡ sign_text s
IsSignSymbol word symbol.Other = IsNoSign word
IsSignSymbol word (symbol.Keyword k) = ⊥
IsSignSymbol word (symbol.Name n) = ⊥
IsSignSymbol word (symbol.Number n) = ⊥
IsSignSymbol word symbol.TopNumber = ⊥
IsSignSymbol word (symbol.Text t) = ⊥

-- the symbol that a token of these bytes is
abbrev pub IsSymbolOf : List ℕ → TokenKind → Symbol → Type 0
IsSymbolOf word token.Word s = IsWordSymbol word s
IsSymbolOf word (token.Number n) s = s ≡ symbol.Number n
IsSymbolOf word token.TopNumber s = s ≡ symbol.TopNumber
IsSymbolOf word (token.Str t) s = s ≡ symbol.Text t
IsSymbolOf word token.Sign s = IsSignSymbol word s

-- the bytes of a token
abbrev pub IsSpan : List ℕ → ℕ → ℕ → List ℕ → Type 0
IsSpan text start end word = start ≤ end → end ≤ length text → word ≡ slice_range text start end

-- the symbol that a token of the text is
pub record IsSymbol (text : List ℕ) (t : Token) (s : Symbol) : Type 0 where
  pub bytes : List ℕ
  pub span : IsSpan text t.start t.end bytes
  pub means : IsSymbolOf bytes t.kind s

-- the symbols that tokens are
abbrev pub AreSymbols : List ℕ → List Token → Symbols → Type 0
AreSymbols text [] [] = Unit {0}
AreSymbols text [] (s ∷ symbols) = ⊥
AreSymbols text (t ∷ tokens) [] = ⊥
AreSymbols text (t ∷ tokens) (s ∷ symbols) = IsSymbol text t s × AreSymbols text tokens symbols

-- the script that tokens of the text spell
abbrev pub Spells : List ℕ → List Token → List Stmt → Type 0
Spells text tokens script = (symbols : Symbols) × AreSymbols text tokens symbols × IsScript symbols script

-- the script that a text spells
abbrev pub IsWritten : List ℕ → List Stmt → Type 0
IsWritten text script = (tokens : List Token) × IsTokens text tokens × Spells text tokens script
