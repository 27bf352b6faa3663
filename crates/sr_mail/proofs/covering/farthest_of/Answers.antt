use Rattle.std.proofs.Common.{List, sym, subst}
use Rattle.sr_mail.specs.Inner.Spans.{Span, IsSoFar}
use Rattle.sr_mail.proofs.covering.farthest_of.Goals as goal

pub returns-else-reached-first-clause-found : goal.returns-else-reached-first-clause-found
returns-else-reached-first-clause-found c =
    subst (λ (l : List Span). IsSoFar l c.args.reached c.farthest_from.result.0 c.farthest_from.result.1.now) (sym c.in-Some.ensures.cases.0) c.farthest_from.ensures.found
