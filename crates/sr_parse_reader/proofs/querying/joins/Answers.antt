use Rattle.std.proofs.Common.{rules, arith, refl}
use Rattle.std.proofs.lemmas.Grind.{common_steps}
use Rattle.sr_parse_reader.proofs.Missing.{joins_begun}
use Rattle.sr_parse_reader.proofs.Loops.{filed_begun, filed_on}
use Rattle.sr_parse_reader.proofs.Joins.{joins_go, joins_read, joins_missed, joins_full}
use Rattle.sr_parse_reader.proofs.Parts.{handed, no_memory, valued}
use Rattle.sr_parse_reader.proofs.querying.joins.Goals as goal

pub more-init : goal.more-init
more-init c = record { few = search rules; reads = filed_begun (search rules); less = search rules }

pub more-preserved : goal.more-preserved
more-preserved c = record {
  few = grind (arith, common_steps);
  reads = filed_on joins_begun (λ a j. j.0) c.more.invariant.reads (joins_go _ (c.begins_join.ensures.found (search rules))) c.in_ok-item.ensures.reads (grind (arith, common_steps));
  less = search rules;
}

pub returns-then-len-eq-SOURCES-clause-reads : goal.returns-then-len-eq-SOURCES-clause-reads
returns-then-len-eq-SOURCES-clause-reads c = joins_full c.more.invariant.reads (omega arith) (c.begins_join.ensures.found (search rules)) refl

pub returns-in_err-item-clause-reads : goal.returns-in_err-item-clause-reads
returns-in_err-item-clause-reads c = handed _ (joins_missed c.more.invariant.reads (omega arith) (c.begins_join.ensures.found (search rules)) c.in_err-item.ensures.reads) (search rules)

pub returns-in_err-push-clause-reads : goal.returns-in_err-push-clause-reads
returns-in_err-push-clause-reads c = no_memory _ (search rules)

pub returns-clause-reads : goal.returns-clause-reads
returns-clause-reads c = valued (search rules) (joins_read c.more.invariant.reads c.more.invariant.few (c.begins_join.ensures.absent (search rules)) refl)
