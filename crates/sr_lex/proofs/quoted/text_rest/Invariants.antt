use Rattle.std.proofs.Common.{◌≡◌, length, ◌≤◌}
use Rattle.sr_lex.specs.Inner.Reading.{text_rest}
use Rattle.sr_lex.proofs.Texts.{in_front}
use Rattle.sr_lex.proofs.quoted.text_rest.Given as goal

abbrev pub invariant-bytes : goal.invariant-bytes
invariant-bytes l = (in_front l.content.items (text_rest l.rest) ≡ text_rest l.bytes) × (length l.rest ≤ length l.bytes)

abbrev pub decreases-bytes : goal.decreases-bytes
decreases-bytes l = length l.rest
