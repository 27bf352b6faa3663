use Rattle.std.proofs.Common.{ap, ◌∙◌}
use Rattle.std.specs.Ordering.{is_eq}
use Rattle.sr_base.specs.Order.{key_cmp}
use Rattle.sr_base.proofs.Exact.{same_where}
use Rattle.sr_base.proofs.ordering.RowPartialEq.eq.Goals as goal

pub returns-clause-same : goal.returns-clause-same
returns-clause-same c = same_where c.is_eq.result c.args.self.now c.args.other.now
    (c.is_eq.ensures ∙ ap is_eq c.cmp.ensures ∙ (λ i. is_eq (key_cmp (c.values.ensures.values i) (c.values-2.ensures.values i))))
