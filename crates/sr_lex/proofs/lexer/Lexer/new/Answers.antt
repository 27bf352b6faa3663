use Rattle.std.proofs.Common.{◌≡◌, length, ap, arith}
use Rattle.sr_lex.specs.Inner.Reading.{after_gap}
use Rattle.sr_lex.proofs.Gaps.{after_gap-le}
use Rattle.sr_lex.proofs.Walk.{begins_with, after_gap-again}
use Rattle.sr_lex.proofs.lexer.Lexer.new.Goals as goal

pub invariant_of-result : goal.invariant_of-result
invariant_of-result c =
    let same : length c.after_gap.result.now ≡ length (after_gap c.args.text.now) = ap length c.after_gap.ensures in
    (omega (arith, after_gap-le c.args.text.now), after_gap-again c.after_gap.result.now c.args.text.now c.after_gap.ensures)

pub returns-clause-begins : goal.returns-clause-begins
returns-clause-begins c = begins_with c.args.text.now c.after_gap.result.now c.after_gap.ensures
