use Rattle.std.proofs.Common.{sym, subst}
use Rattle.sr_rows.specs.Inner.Searches.{InOrder}
use Rattle.sr_rows.proofs.Searching.{order_none}
use Rattle.sr_rows.proofs.rising.Rising.new.Goals as goal

pub invariant_of-result : goal.invariant_of-result
invariant_of-result c = subst InOrder (sym c.new.ensures.items) order_none
