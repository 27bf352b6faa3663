-- The order of folders and names.
-- Here is what no contract of the program says by itself.
use Rattle.std.specs.Cmp.{IsTotalOrder, then_total, on_total}
use Rattle.std.specs.Cmp.Lexicographic.{nat_list_cmp_total}
use Rattle.sr_memsite_mail.specs.Places.{place_cmp}

pub place_cmp_total : IsTotalOrder place_cmp
place_cmp_total = then_total (on_total (λ place. place.address) nat_list_cmp_total) (on_total (λ place. place.name) nat_list_cmp_total)
