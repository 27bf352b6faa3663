use Rattle.sr_base.specs.Inner.Order.{key_cmp_total}
use Rattle.sr_base.proofs.Exact.{keys_tie}
use Rattle.sr_base.proofs.ordering.order.Goals as goal

pub returns-clause-equal : goal.returns-clause-equal
returns-clause-equal c = rw c.cmp.ensures (keys_tie c.args.a.now c.args.b.now)

pub returns-clause-total : goal.returns-clause-total
returns-clause-total c = key_cmp_total
