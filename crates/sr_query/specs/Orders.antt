-- The order of a SELECT's rows.
use Rattle.std.specs.Prelude.{Bool, cond, List, map, IsPermutation, IsSorted}
use Rattle.std.specs.declared.cmp.Ordering.{Ordering}
use Rattle.std.specs.Ordering.{on, then_cmp, flip_args}
use Rattle.std.specs.Cmp.Lexicographic.{slice_cmp}
use Rattle.std.specs.List.Sorted.{IsStable}
use Rattle.sr_base.specs.declared.value.Value.{Value as Cell}
use Rattle.sr_base.specs.declared.value.Value.TheVariants.{Null}
use Rattle.sr_base.specs.Order.{value_cmp}
use Rattle.sr_ast.specs.declared.query.OrderBy.{OrderBy}
use Rattle.sr_eval.specs.Meanings.{value_meant}
use Rattle.sr_exec_where.specs.Checks.{Scope}
use Rattle.sr_query.specs.declared.rank.Rank.{Rank}
use Rattle.sr_query.specs.declared.rank.Listed.{Listed}

-- the rank of a value under a column of ORDER BY, which is descending or not
abbrev pub rank_of : Bool → Cell → Rank
rank_of descending v = record { descending = descending; value = v }

-- its value where the column is ascending, or else NULL; and where it is descending, or else NULL
abbrev pub rising : Rank → Cell
rising r = cond r.descending Null r.value

abbrev pub falling : Rank → Cell
falling r = cond r.descending r.value Null

-- the ranks of a combination: its values of the columns of ORDER BY
abbrev pub ranks_of : Scope → List OrderBy → List Cell → List Rank
ranks_of scope order values = map (λ (o : OrderBy). rank_of o.descending (value_meant scope values o.table o.column)) order

-- ascending by value, NULL first; descending the other way round, NULL last
abbrev pub rank_cmp : Rank → Rank → Ordering
rank_cmp = then_cmp (on rising value_cmp) (on falling (flip_args value_cmp))

-- rows by the first rank of each, then the next
abbrev pub listed_cmp : Listed → Listed → Ordering
listed_cmp = on (λ (l : Listed). l.ranks) (slice_cmp rank_cmp)

-- the same rows in the order of their ranks, of equal ranks those of the earlier combinations first
pub record IsOrdered (listed ordered : List Listed) : Type 0 where
  pub same : IsPermutation listed ordered
  pub sorted : IsSorted listed_cmp ordered
  pub ties : IsStable listed_cmp listed ordered
