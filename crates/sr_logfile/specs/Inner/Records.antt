-- How a log's records stand in its file.
-- Here is what no contract of the program says by itself.
use Rattle.std.specs.Prelude.{ℕ, ◌+◌, List, [], ◌∷◌, ◌++◌}
use Rattle.sr_logfile.specs.Records.{header}

-- how many bytes a log without records has: a header and a closed gate
abbrev pub empty_log : ℕ
empty_log = 17

-- the 17 bytes of a log without records: a header and a closed gate
abbrev pub fresh_bytes : ℕ → List ℕ
fresh_bytes base = header base ++ 0 ∷ []
