use Rattle.std.proofs.Common.{◌≡◌, ◌+◌, drop}
use Rattle.std.specs.List.{prefix_len}
use Rattle.sr_lex.specs.Tokens.{is_digit}
use Rattle.sr_lex.proofs.kind.digits_length.Given as goal

abbrev pub invariant-loop-at : goal.invariant-loop-at
invariant-loop-at l = prefix_len is_digit l.bytes ≡ l.at + prefix_len is_digit (drop l.at l.bytes)
