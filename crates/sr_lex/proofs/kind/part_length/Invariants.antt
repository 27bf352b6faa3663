use Rattle.std.proofs.Common.{◌≡◌, ◌+◌, drop}
use Rattle.std.specs.List.{prefix_len}
use Rattle.sr_lex.specs.Tokens.{is_part}
use Rattle.sr_lex.proofs.kind.part_length.Given as goal

abbrev pub invariant-loop-at : goal.invariant-loop-at
invariant-loop-at l = prefix_len is_part l.bytes ≡ l.at + prefix_len is_part (drop l.at l.bytes)
