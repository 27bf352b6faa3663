-- What stands next in a list of symbols.
-- Here is what no contract of the program says by itself.
use Rattle.std.specs.Prelude.{[], ◌∷◌}
use Rattle.sr_parse_grammar.specs.Symbols.{Symbols}

-- the symbols behind the first
abbrev pub behind : Symbols → Symbols
behind [] = []
behind (s ∷ after) = after
