use Rattle.std.proofs.Common.{arith}
use Rattle.sr_mail.proofs.Spanning.{swept_goes_on, swept_more, swept_end}
use Rattle.sr_mail.proofs.covering.covering.Goals as goal

pub spans-smaller : goal.spans-smaller
spans-smaller c = omega (arith, c.spans-test.true, swept_goes_on c.args.spans.now c.spans.chosen.items c.spans.reached c.args.total c.spans.left.now c.in-Some.farthest c.in-Some.behind.now c.requires.sorted c.requires.covered c.spans-test.true c.spans.invariant c.in-Some.ensures.found c.in-Some.ensures.later)

pub spans-preserved : goal.spans-preserved
spans-preserved c =
    rw c.in_ok-push-in-Some.ensures.items (swept_more c.args.spans.now c.spans.chosen.items c.spans.reached c.spans.left.now c.in-Some.farthest c.in-Some.behind.now c.spans.invariant c.in-Some.ensures.found
    (swept_goes_on c.args.spans.now c.spans.chosen.items c.spans.reached c.args.total c.spans.left.now c.in-Some.farthest c.in-Some.behind.now c.requires.sorted c.requires.covered c.spans-test.true c.spans.invariant c.in-Some.ensures.found c.in-Some.ensures.later))

pub returns-in-None-clause-covered : goal.returns-in-None-clause-covered
returns-in-None-clause-covered c = absurd (swept_end c.args.spans.now c.spans.chosen.items c.spans.reached c.args.total c.spans.left.now c.requires.sorted c.requires.covered c.spans-test.true c.spans.invariant c.in-None.ensures.none)
