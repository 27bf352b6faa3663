use Rattle.std.proofs.Common.{◌∷◌, arith}
use Rattle.sr_mail.proofs.Spanning.{so_far_first, so_far_farther, so_far_same}
use Rattle.sr_mail.specs.Inner.Spans.{IsSoFar}
use Rattle.sr_mail.proofs.covering.farthest_from.Goals as goal

pub spans-init : goal.spans-init
spans-init c = so_far_first c.args.first c.args.rest.now c.args.reached c.requires

pub spans-preserved-then-farthest-span : goal.spans-preserved-then-farthest-span
spans-preserved-then-farthest-span c =
    let h : IsSoFar (c.args.first ∷ c.args.rest.now) c.args.reached c.spans.farthest (c.in-Some.span.now ∷ c.in-Some.behind.now) = rw c.in-Some.ensures.cases.0 at c.spans.invariant in
    so_far_farther (c.args.first ∷ c.args.rest.now) c.args.reached c.spans.farthest c.in-Some.span.now c.in-Some.behind.now h (omega arith) (omega arith)

pub spans-preserved : goal.spans-preserved
spans-preserved c =
    let h : IsSoFar (c.args.first ∷ c.args.rest.now) c.args.reached c.spans.farthest (c.in-Some.span.now ∷ c.in-Some.behind.now) = rw c.in-Some.ensures.cases.0 at c.spans.invariant in
    so_far_same (c.args.first ∷ c.args.rest.now) c.args.reached c.spans.farthest c.in-Some.span.now c.in-Some.behind.now h (omega arith)
