-- Where a log is damaged.
-- Here is what no contract of the program says by itself.
use Rattle.std.specs.Prelude.{ℕ, ◌<◌, List, get_or}

-- each is a byte
abbrev pub AreBytes : List ℕ → Type 0
AreBytes bytes = (i : ℕ) → get_or bytes i 0 < 256
