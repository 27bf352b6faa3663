-- How long spellings are.
use Rattle.std.proofs.Common.{◌≡◌, ◌+◌, ℕ, List, [], ◌∷◌, ◌++◌, length, refl, sym, ◌∙◌, ap, length-append, arith}
use Rattle.std.specs.Int.{w32, w64, to_be_bytes}
use Rattle.sr_base.specs.Inner.NumberLaws.{wide32, wide64}

pub long32 : (n : ℕ) → length (to_be_bytes w32 n) ≡ 4
long32 n = wide32.len n

pub long64 : (n : ℕ) → length (to_be_bytes w64 n) ≡ 8
long64 n = wide64.len n

pub ruleset lengths = (long32, long64, length-append)
