-- How many bytes a script may have.
use Rattle.std.specs.Prelude.{ℕ}

-- the longest script, in bytes: 64 MiB
abbrev pub most_script : ℕ
most_script = 67108864
