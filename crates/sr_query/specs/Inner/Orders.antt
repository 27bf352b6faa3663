-- The order of a SELECT's rows.
-- Here is what no contract of the program says by itself.
use Rattle.std.specs.Prelude.{ℕ, List, map, Option, unwrap_or, slice_get}
use Rattle.std.specs.Option.{option_and_then}
use Rattle.std.specs.Cmp.{IsTotalOrder, then_total, on_total, back_total}
use Rattle.std.specs.Cmp.Lexicographic.{lists_total}
use Rattle.sr_base.specs.declared.value.Value.{Value as Cell}
use Rattle.sr_base.specs.declared.value.Value.TheVariants.{Null}
use Rattle.sr_base.specs.Inner.Order.{value_cmp_total}
use Rattle.sr_ast.specs.declared.query.OrderBy.{OrderBy}
use Rattle.sr_ast.specs.Inner.Classes.{place_of}
use Rattle.sr_exec_where.specs.Checks.{Scope}
use Rattle.sr_query.specs.declared.placing.Placed.{Placed}
use Rattle.sr_query.specs.declared.rank.Rank.{Rank}
use Rattle.sr_query.specs.declared.rank.Listed.{Listed}
use Rattle.sr_query.specs.Orders.{rank_of, rising, falling, rank_cmp, listed_cmp}

-- the same by places: a column of ORDER BY has one among all columns, and there its value stands, or else it is NULL
abbrev pub placed_in : Scope → OrderBy → Placed
placed_in scope o = record { descending = o.descending; place = place_of scope o.table o.column }

abbrev pub at_place : List Cell → Option ℕ → Cell
at_place values place = unwrap_or (option_and_then (slice_get values) place) Null

abbrev pub ranks_at : List Placed → List Cell → List Rank
ranks_at places values = map (λ (p : Placed). rank_of p.descending (at_place values p.place)) places

pub rank_cmp_total : IsTotalOrder rank_cmp
rank_cmp_total = then_total (on_total rising value_cmp_total) (on_total falling (back_total value_cmp_total))

pub listed_cmp_total : IsTotalOrder listed_cmp
listed_cmp_total = on_total (λ (l : Listed). l.ranks) (lists_total rank_cmp_total)
