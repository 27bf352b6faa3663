-- Symbols that tokens mean, and that go on with a production.
use Rattle.std.specs.Prelude.{ℕ, List, [], ◌++◌}
use Rattle.std.specs.List.{AllByRecursion}
use Rattle.sr_lex.specs.declared.token.TokenKind.{TokenKind}
use Rattle.sr_lex.specs.Tokens.{IsToken}
use Rattle.sr_parse_grammar.specs.declared.symbol.Symbol.{Symbol}
use Rattle.sr_parse_grammar.specs.Symbols.{Symbols, Production}
use Rattle.sr_parse_grammar.specs.Meanings.{IsSymbolOf}

-- what a token means
abbrev pub IsMeant : Symbol → Type 0
IsMeant s = (word : List ℕ) × (kind : TokenKind) × IsToken kind word [] × IsSymbolOf word kind s

abbrev pub AreMeant : Symbols → Type 0
AreMeant symbols = AllByRecursion IsMeant symbols

-- symbols that spell a value, whatever follows them
abbrev pub Spells : {A : Type 0} → Production A → Symbols → A → Type 0
Spells X taken x = (after : Symbols) → X (taken ++ after) x after

-- with symbols behind them, each what a token may mean, they spell a value
pub record GoesOn {A : Type 0} (X : Production A) (taken : Symbols) : Type 0 where
  pub more : Symbols
  pub meant : AreMeant more
  pub value : A
  pub spells : Spells X (taken ++ more) value
