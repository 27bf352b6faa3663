-- Operands of one symbol that are a whole expression.
use Rattle.std.specs.Prelude.{◌≡◌, Bool, true, false, [], ◌∷◌}
use Rattle.sr_parse_grammar.specs.declared.level.Level.{Level}
use Rattle.sr_parse_grammar.specs.declared.level.Level.TheVariants.{Or, And, Sum, Product}
use Rattle.sr_parse_grammar.specs.declared.symbol.Symbol.{Symbol}
use Rattle.sr_parse_grammar.specs.declared.symbol.Symbol.TheVariants as symbol
use Rattle.sr_parse_grammar.specs.Symbols.{Symbols}
use Rattle.sr_parse_grammar.specs.Expressions.{Tightness}
use Rattle.sr_parse_grammar.specs.Inner.Going.{Stop, goes_on}

-- a number, a text or a name
abbrev pub is_operand : Symbol → Bool
is_operand (symbol.Number n) = true
is_operand (symbol.Text t) = true
is_operand (symbol.Name n) = true
is_operand s = false

-- such an operand is next, and no expression of the level goes on behind it
abbrev pub IsAlone : Tightness → Symbols → Type 0
IsAlone level [] = ⊥
IsAlone level (s ∷ after) = (is_operand s ≡ true) × Stop (goes_on level) after

-- comparisons stand between the operators of a level
abbrev pub is_loose : Level → Bool
is_loose Or = true
is_loose And = true
is_loose Sum = false
is_loose Product = false
