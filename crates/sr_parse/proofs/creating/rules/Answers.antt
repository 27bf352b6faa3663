use Rattle.std.proofs.Common.{rules, inl, inr}
use Rattle.sr_parse_reader.proofs.Parts.{handed_mapped}
use Rattle.sr_parse.proofs.Rulings.{ended, rules_begun, rules_bar, rules_let, rules_key, bar_missed, key_missed, rules_done}
use Rattle.sr_parse_reader.proofs.Parts.{spelled, unspelled}
use Rattle.sr_parse.proofs.creating.rules.Goals as goal
use Rattle.sr_parse.proofs.creating.rules.Goals.{else-not-not_null-via-then-not-not_null+else-is_keyword, else-not-not_null-via-else-not-not_null}
use Rattle.sr_parse.proofs.creating.rules.Goals.{else-not-null-via-then-not-null+else-is_keyword-2, else-not-null-via-else-not-null}
use Rattle.sr_parse.proofs.creating.rules.Goals.{else-may_be_key-via-then-may_be_key+then-not-primary+else-is_keyword-3, else-may_be_key-via-then-may_be_key+else-not-primary, else-may_be_key-via-else-may_be_key}

pub more-init : goal.more-init
more-init c = record { reads = rules_begun; single = search rules; less = search rules }

pub more-preserved-then-is_keyword : goal.more-preserved-then-is_keyword
more-preserved-then-is_keyword c = record {
  reads = rules_bar (search rules) c.more.invariant.reads (spelled c.in_ok-keyword.ensures.reads) (spelled c.in_ok-keyword-2.ensures.reads);
  single = search rules;
  less = search rules;
}

pub more-preserved-then-is_keyword-2 : goal.more-preserved-then-is_keyword-2
more-preserved-then-is_keyword-2 c = record {
  reads = rules_let (search rules) c.more.invariant.reads (spelled c.in_ok-keyword-3.ensures.reads);
  single = search rules;
  less = search rules;
}

pub more-preserved : goal.more-preserved
more-preserved c = record {
  reads = rules_key (search rules) c.more.invariant.reads (spelled c.in_ok-keyword-4.ensures.reads) (spelled c.in_ok-keyword-5.ensures.reads);
  single = search rules;
  less = search rules;
}

pub returns-in_err-keyword-clause-reads : goal.returns-in_err-keyword-clause-reads
returns-in_err-keyword-clause-reads c = handed_mapped _ _ (ended (unspelled c.in_err-keyword.ensures.reads (c.is_keyword.ensures.found (search rules)) tt)) (search rules)

pub returns-in_err-keyword-3-clause-reads : goal.returns-in_err-keyword-3-clause-reads
returns-in_err-keyword-3-clause-reads c = handed_mapped _ _ (ended (unspelled c.in_err-keyword-3.ensures.reads (c.is_keyword-then-not-null.ensures.found (search rules)) tt)) (search rules)

pub returns-in_err-keyword-4-clause-reads : goal.returns-in_err-keyword-4-clause-reads
returns-in_err-keyword-4-clause-reads c = handed_mapped _ _ (ended (unspelled c.in_err-keyword-4.ensures.reads (c.is_keyword-then-not-primary.ensures.found (search rules)) tt)) (search rules)

pub returns-in_err-keyword-2-clause-reads : goal.returns-in_err-keyword-2-clause-reads
returns-in_err-keyword-2-clause-reads c = handed_mapped _ _ (bar_missed (search rules) c.more.invariant.single c.more.invariant.reads (spelled c.in_ok-keyword.ensures.reads) c.in_err-keyword-2.ensures.reads) (search rules)

pub returns-in_err-keyword-5-clause-reads : goal.returns-in_err-keyword-5-clause-reads
returns-in_err-keyword-5-clause-reads c = handed_mapped _ _ (key_missed (search rules) (search rules) c.more.invariant.reads (spelled c.in_ok-keyword-4.ensures.reads) c.in_err-keyword-5.ensures.reads) (search rules)

pub returns-else-may_be_key-clause-reads : goal.returns-else-may_be_key-clause-reads
returns-else-may_be_key-clause-reads c =
    rules_done c.more.invariant.reads c.more.invariant.single
    (elim c.else-not-not_null.branch [ else-not-not_null-via-then-not-not_null+else-is_keyword w ↦ inr (w.is_keyword.ensures.absent (search rules)) | else-not-not_null-via-else-not-not_null w ↦ inl (search rules) ])
    (elim c.else-not-null.branch [ else-not-null-via-then-not-null+else-is_keyword-2 w ↦ inr (w.is_keyword-then-not-null.ensures.absent (search rules)) | else-not-null-via-else-not-null w ↦ inl (search rules) ])
    (elim c.else-may_be_key.branch [ else-may_be_key-via-then-may_be_key+then-not-primary+else-is_keyword-3 w ↦ inr (inr (w.is_keyword-then-not-primary.ensures.absent (search rules))) | else-may_be_key-via-then-may_be_key+else-not-primary w ↦ inr (inl (search rules)) | else-may_be_key-via-else-may_be_key w ↦ inl (search rules) ])
