use Rattle.std.proofs.Common.{◌≡◌, min, take}
use Rattle.sr_lex.specs.Tokens.{number}
use Rattle.sr_lex.proofs.number.number_up_to_past.Given as goal

abbrev pub invariant-loop-digit : goal.invariant-loop-digit
invariant-loop-digit l = l.so_far ≡ min (number (take l.digit-index l.digits)) 9223372036854775809
