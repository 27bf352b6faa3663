use Rattle.std.proofs.Common.{leb, leb-true, rules}
use Rattle.std.proofs.lemmas.Bool.{leb-false}
use Rattle.std.proofs.lemmas.List.Sorted.{IsPartitionPoint-from_clause, IsPartitionedBy-leb}
use Rattle.sr_survey_places.proofs.search.count_searched.Goals as goal

pub returns : goal.returns
returns c =
    let parted = IsPartitionedBy-leb (λ p. p.end) _ c.args.sent c.requires in
    let point = IsPartitionPoint-from_clause (λ p. leb p.end c.args.sent) _ _ c.partition_point.ensures.partitioned parted (λ a r q k. search rules) in
    record {
      bound = c.partition_point.ensures.bound;
      passed = λ k d l h. leb-true _ _ (point.0 k d l h);
      left = λ k d l h. leb-false _ _ (point.1 k d l h);
    }
