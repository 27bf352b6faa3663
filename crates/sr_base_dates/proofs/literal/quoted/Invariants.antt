-- what is written so far, and what is left
use Rattle.std.proofs.Common.{◌≡◌, ◌++◌, ◌∷◌, drop}
use Rattle.sr_base_dates.specs.Literals.{quotes_doubled}
use Rattle.sr_base_dates.proofs.literal.quoted.Given as goal

abbrev pub invariant-bytes : goal.invariant-bytes
invariant-bytes l = l.quoted.items ++ quotes_doubled (drop l.byte-index l.bytes) ≡ 39 ∷ quotes_doubled l.bytes
