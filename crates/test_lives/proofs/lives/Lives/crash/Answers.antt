use Rattle.test_lives.proofs.Living.{crashed_above, crashed_below}
use Rattle.test_lives.proofs.lives.Lives.crash.Goals as goal

pub invariant_of-result : goal.invariant_of-result
invariant_of-result c = crashed_above c.args.pick _ _ _ _ _ c.self.invariant c.in_ok-above-in-Above.ensures.crashed

pub invariant_of-result-in-Below : goal.invariant_of-result-in-Below
invariant_of-result-in-Below c = crashed_below c.args.pick _ _ _ _ _ c.self.invariant c.in_ok-below-in-Below.ensures.crashed
