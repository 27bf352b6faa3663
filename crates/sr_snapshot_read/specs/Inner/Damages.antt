-- Where the bytes of a snapshot break.
-- Here is what no contract of the program says by itself.
use Rattle.std.specs.Prelude.{ℕ, List}

-- nothing breaks
abbrev pub NeverBreaks : List ℕ → ℕ → Type 0
NeverBreaks bytes left = ⊥
