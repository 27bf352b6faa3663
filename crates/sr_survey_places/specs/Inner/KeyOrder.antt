-- The order of keys is total.
-- Here is what no contract of the program says by itself.
use Rattle.std.specs.Cmp.{IsTotalOrder, then_total, on_total, nat_cmp_total}
use Rattle.sr_base.specs.Inner.Order.{name_cmp_total, value_cmp_total}
use Rattle.sr_survey_places.specs.Inner.Keys.{rank_of, name_of, value_of, key_cmp}

pub key_cmp_total : IsTotalOrder key_cmp
key_cmp_total = then_total (on_total rank_of nat_cmp_total) (then_total (on_total value_of value_cmp_total) (on_total name_of name_cmp_total))
