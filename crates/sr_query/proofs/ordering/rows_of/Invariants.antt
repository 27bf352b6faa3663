use Rattle.std.proofs.Common.{◌≡◌, ◌++◌, map, reverse, vec_len}
use Rattle.sr_query.specs.declared.rank.Listed.{Listed}
use Rattle.sr_query.proofs.ordering.rows_of.Given as goal

abbrev pub invariant-listed : goal.invariant-listed
invariant-listed l = l.rows.items ++ map (λ (r : Listed). r.row) (reverse l.left.items) ≡ map (λ (r : Listed). r.row) l.fn.listed.items

abbrev pub decreases-listed : goal.decreases-listed
decreases-listed l = vec_len l.left
