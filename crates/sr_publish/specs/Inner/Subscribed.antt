-- The values of subscriptions, as a set in which the value of a row is looked up.
use Rattle.std.specs.Prelude.{◌≡◌, List}
use Rattle.std.specs.List.{list_any}
use Rattle.std.specs.Ordering.{eq_by_cmp}
use Rattle.std.specs.BTreeSet.{BTreeSet, contains}
use Rattle.sr_base.specs.Order.{value_cmp}
use Rattle.sr_base.specs.declared.value.Value.{Value as Cell}
use Rattle.sr_publish.specs.Inner.Numbers.{widened}

-- the set has these values, each INTEGER as a BIGINT, and no others
pub record IsSetOf (set : BTreeSet Cell) (values : List Cell) : Type 0 where
  pub same : (v : Cell) → contains value_cmp set v ≡ list_any (λ w. eq_by_cmp value_cmp v (widened w)) values
