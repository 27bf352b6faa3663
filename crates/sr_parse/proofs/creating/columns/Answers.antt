use Rattle.std.proofs.Common.{rules, arith}
use Rattle.std.proofs.lemmas.Grind.{common_steps}
use Rattle.std.proofs.lemmas.List.{nil_from_length}
use Rattle.sr_parse_reader.proofs.Parts.{handed_mapped, no_memory_mapped}
use Rattle.sr_parse.proofs.Keyings.{columns_begun, columns_unread, columns_on, columns_missed, columns_done, key_refused, key_read, key_unread}
use Rattle.sr_parse.proofs.creating.columns.Goals as goal

pub more-init : goal.more-init
more-init c = record {
  reads = columns_begun c.in_ok-first.ensures.reads (search rules) (grind (arith, common_steps));
  less = search rules;
}

pub more-preserved : goal.more-preserved
more-preserved c = record {
  reads = columns_on c.more.invariant.reads (c.takes_sign.ensures.found (search rules)) (c.is_keyword.ensures.absent (search rules)) c.in_ok-item.ensures.reads (grind (arith, common_steps));
  less = search rules;
}

pub returns-in_err-first-clause-reads : goal.returns-in_err-first-clause-reads
returns-in_err-first-clause-reads c = handed_mapped _ _ (columns_unread c.in_err-first.ensures.reads (search rules)) (search rules)

pub returns-in_err-push-clause-reads : goal.returns-in_err-push-clause-reads
returns-in_err-push-clause-reads c = no_memory_mapped _ _ (search rules)

pub returns-then-not-is_empty-clause-reads : goal.returns-then-not-is_empty-clause-reads
returns-then-not-is_empty-clause-reads c = key_refused c.more.invariant.reads (c.takes_sign.ensures.found (search rules)) (c.is_keyword.ensures.found (search rules)) (λ e. search rules)

pub returns-in_err-names-clause-reads : goal.returns-in_err-names-clause-reads
returns-in_err-names-clause-reads c = handed_mapped _ _ (key_unread c.more.invariant.reads (nil_from_length _ (search rules)) (c.takes_sign.ensures.found (search rules)) (c.is_keyword.ensures.found (search rules)) c.in_err-names.ensures.reads) (search rules)

pub returns-then-is_keyword-clause-reads : goal.returns-then-is_keyword-clause-reads
returns-then-is_keyword-clause-reads c = key_read c.more.invariant.reads (nil_from_length _ (search rules)) (c.takes_sign.ensures.found (search rules)) (c.is_keyword.ensures.found (search rules)) c.in_ok-names.ensures.reads

pub returns-in_err-item-clause-reads : goal.returns-in_err-item-clause-reads
returns-in_err-item-clause-reads c = handed_mapped _ _ (columns_missed c.more.invariant.reads (c.takes_sign.ensures.found (search rules)) (c.is_keyword.ensures.absent (search rules)) c.in_err-item.ensures.reads) (search rules)

pub returns-in_err-push-2-clause-reads : goal.returns-in_err-push-2-clause-reads
returns-in_err-push-2-clause-reads c = no_memory_mapped _ _ (search rules)

pub returns-clause-reads : goal.returns-clause-reads
returns-clause-reads c = columns_done c.more.invariant.reads (c.takes_sign.ensures.absent (search rules)) (c.takes_sign.ensures.kept (search rules))
