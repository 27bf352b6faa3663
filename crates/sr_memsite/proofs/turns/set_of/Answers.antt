use Rattle.std.proofs.Common.{arith, ◌==◌}
use Rattle.std.proofs.lemmas.Grind.{common_steps}
use Rattle.std.proofs.lemmas.List.Folds.{list_any_more}
use Rattle.sr_memsite.proofs.turns.set_of.Goals as goal

-- and one more
pub loop-number-preserved : goal.loop-number-preserved
loop-number-preserved c = λ n. grind (arith, common_steps, c.loop-number.invariant n, c.in_ok-insert.ensures.updates.0 n, list_any_more (λ number. number == n) c.args.numbers.now c.loop-number.number-index 0)
