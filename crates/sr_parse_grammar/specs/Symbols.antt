-- What stands next in a list of symbols.
use Rattle.std.specs.Prelude.{◌≡◌, ℕ, List, [], ◌∷◌, Option, Some, None}
use Rattle.sr_ast.specs.declared.keyword.Keyword.{Keyword}
use Rattle.sr_ast.specs.Keywords.{named}
use Rattle.sr_parse_grammar.specs.declared.symbol.Sign.{Sign}
use Rattle.sr_parse_grammar.specs.declared.symbol.Symbol.{Symbol}
use Rattle.sr_parse_grammar.specs.declared.symbol.Symbol.TheVariants as symbol

-- the symbols that follow one another
abbrev pub Symbols : Type 0
Symbols = List Symbol

abbrev pub first : Symbols → Option Symbol
first [] = None
first (s ∷ after) = Some s

-- the name that a symbol is: a word that is no key word, or one of the key words that are also names
abbrev pub name_meant : Symbol → Option (List ℕ)
name_meant (symbol.Name n) = Some n
name_meant (symbol.Keyword k) = named k
name_meant s = None

-- a name, and what follows it
pub record IsName (before : Symbols) (name : List ℕ) (after : Symbols) : Type 0 where
  pub word : Symbol
  pub stands : before ≡ word ∷ after
  pub means : name_meant word ≡ Some name

-- what a production reads: the symbols before, the value, and the symbols after
abbrev pub Production : Type 0 → Type 1
Production A = Symbols → A → Symbols → Type 0

-- a sign, and what follows it
abbrev pub IsSign : Symbols → Sign → Symbols → Type 0
IsSign before sign after = before ≡ symbol.Sign sign ∷ after

-- a key word, and what follows it
abbrev pub IsWord : Symbols → Keyword → Symbols → Type 0
IsWord before keyword after = before ≡ symbol.Keyword keyword ∷ after

-- a text, and what follows it
abbrev pub IsTextAt : Symbols → List ℕ → Symbols → Type 0
IsTextAt before text after = before ≡ symbol.Text text ∷ after

-- a key word, a sign, a number and a text as symbols
abbrev pub word : Keyword → Symbol
word k = symbol.Keyword k

abbrev pub sign : Sign → Symbol
sign s = symbol.Sign s
