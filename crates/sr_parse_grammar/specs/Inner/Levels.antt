-- The levels of the operators that are read from left to right.
use Rattle.std.specs.Prelude.{ℕ}
use Rattle.sr_parse_grammar.specs.declared.level.Level.{Level}
use Rattle.sr_parse_grammar.specs.declared.level.Level.TheVariants.{Or, And, Sum, Product}
use Rattle.sr_parse_grammar.specs.Expressions.{Tightness}
use Rattle.sr_parse_grammar.specs.Expressions.Tightness.{disjunction, conjunction, sum, product}

-- the order in which the functions that read an expression call one another: a level comes before the tighter ones
abbrev pub rank : Level → ℕ
rank Or = 12
rank And = 10
rank Sum = 6
rank Product = 4

-- how tight a level binds
abbrev pub tightness : Level → Tightness
tightness Or = disjunction
tightness And = conjunction
tightness Sum = sum
tightness Product = product
