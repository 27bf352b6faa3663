use Rattle.std.proofs.Common.{ltb, rules}
use Rattle.std.proofs.lemmas.Bool.{ltb-true, ltb-false}
use Rattle.std.proofs.lemmas.List.Sorted.{IsPartitionPoint-from_clause, IsPartitionedBy-ltb}
use Rattle.sr_survey_places.proofs.search.count_before.Goals as goal

pub returns : goal.returns
returns c =
    let parted = IsPartitionedBy-ltb (λ p. p.end) _ c.args.end c.requires in
    let point = IsPartitionPoint-from_clause (λ p. ltb p.end c.args.end) _ _ c.partition_point.ensures.partitioned parted (λ a r q k. search rules) in
    record {
      bound = c.partition_point.ensures.bound;
      passed = λ k d l h. ltb-true _ _ (point.0 k d l h);
      left = λ k d l h. ltb-false _ _ (point.1 k d l h);
    }
