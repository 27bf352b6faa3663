use Rattle.std.proofs.Common.{rules, arith, inr}
use Rattle.std.proofs.lemmas.Grind.{common_steps}
use Rattle.sr_parse_reader.proofs.Parts.{handed_mapped, no_memory_mapped, valued}
use Rattle.sr_parse.proofs.Pieces.{ends_empty, ends_not, no_piece, piece_read}
use Rattle.sr_parse.proofs.parsing.piece.Goals.{then-left-eq0-via-then-left-eq0, then-left-eq0-via-else-left-eq0+then-is_sign}
use Rattle.sr_parse.proofs.parsing.piece.Goals as goal

pub returns-then-left-eq0-clause-reads : goal.returns-then-left-eq0-clause-reads
returns-then-left-eq0-clause-reads c = no_piece c.args.script.now.items (elim c.then-left-eq0.branch [
  | then-left-eq0-via-then-left-eq0 w ↦ ends_empty (grind (arith, common_steps))
  | then-left-eq0-via-else-left-eq0+then-is_sign w ↦ inr (_, w.is_sign.ensures.found (search rules))
])

pub returns-in_err-stmt-clause-reads : goal.returns-in_err-stmt-clause-reads
returns-in_err-stmt-clause-reads c = handed_mapped _ _ (piece_read c.args.script.now.items (ends_not (λ e. absurd (omega arith)) (c.is_sign.ensures.absent (search rules))) c.in_err-stmt.ensures.reads) (search rules)

pub returns-in_err-push-clause-reads : goal.returns-in_err-push-clause-reads
returns-in_err-push-clause-reads c = no_memory_mapped _ _ (search rules)

pub returns-clause-reads : goal.returns-clause-reads
returns-clause-reads c = valued (grind (arith, common_steps)) (piece_read c.args.script.now.items (ends_not (λ e. absurd (omega arith)) (c.is_sign.ensures.absent (search rules))) c.in_ok-stmt.ensures.reads)
