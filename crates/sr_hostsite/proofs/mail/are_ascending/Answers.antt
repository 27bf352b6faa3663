use Rattle.std.proofs.Common.{[], arith}
use Rattle.std.specs.Cmp.Lexicographic.{nat_list_cmp_total}
use Rattle.std.proofs.lemmas.Map.Keys.{sorted_from_all_adjacent}
use Rattle.sr_hostsite.proofs.mail.are_ascending.Goals as goal

pub returns : goal.returns
returns c = record {
  ascending = λ yes.
      sorted_from_all_adjacent nat_list_cmp_total c.args.names.now [] (λ k within. c.names.invariant.rises k (omega (arith, within, c.names-test.false)));
}
