-- The order of values: by their class, and within it by number or by bytes.
-- Here is what no contract of the program says by itself.
use Rattle.std.specs.Cmp.{IsTotalOrder, then_total, on_total, nat_cmp_total, int_cmp_total}
use Rattle.std.specs.Cmp.Lexicographic.{lists_total, nat_list_cmp_total}
use Rattle.sr_base.specs.Order.{class_rank, number_of, bytes_of, width_of, value_cmp, name_cmp, key_cmp}

pub value_cmp_total : IsTotalOrder value_cmp
value_cmp_total = then_total (on_total class_rank nat_cmp_total) (then_total (then_total (on_total number_of int_cmp_total) (on_total bytes_of nat_list_cmp_total)) (on_total width_of nat_cmp_total))

pub key_cmp_total : IsTotalOrder key_cmp
key_cmp_total = lists_total value_cmp_total

pub name_cmp_total : IsTotalOrder name_cmp
name_cmp_total = nat_list_cmp_total
