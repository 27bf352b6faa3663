use Rattle.std.proofs.Common.{rules, arith, refl}
use Rattle.std.proofs.lemmas.Grind.{common_steps}
use Rattle.sr_parse_grammar.specs.Inner.Going.{expression_goes}
use Rattle.sr_parse_grammar.proofs.Steps.{Stop-at}
use Rattle.sr_parse_reader.proofs.Loops.{along_begun, along_on, along_done, along_missed, along_unread}
use Rattle.sr_parse_reader.proofs.Parts.{handed, no_memory, valued}
use Rattle.sr_parse_reader.proofs.querying.sets.Goals as goal

pub more-init : goal.more-init
more-init c = record {
  reads = along_begun (λ b n e. Stop-at expression_goes e refl) c.in_ok-first.ensures.reads (grind (arith, common_steps));
  less = search rules;
}

pub more-preserved : goal.more-preserved
more-preserved c = record {
  reads = along_on (λ b n e. Stop-at expression_goes e refl) c.more.invariant.reads (c.takes_sign.ensures.found (search rules)) c.in_ok-item.ensures.reads (grind (arith, common_steps));
  less = search rules;
}

pub returns-in_err-first-clause-reads : goal.returns-in_err-first-clause-reads
returns-in_err-first-clause-reads c = handed _ (along_unread (λ b n e. Stop-at expression_goes e refl) c.in_err-first.ensures.reads) (search rules)

pub returns-in_err-push-clause-reads : goal.returns-in_err-push-clause-reads
returns-in_err-push-clause-reads c = no_memory _ (search rules)

pub returns-in_err-item-clause-reads : goal.returns-in_err-item-clause-reads
returns-in_err-item-clause-reads c = handed _ (along_missed (λ b n e. Stop-at expression_goes e refl) c.more.invariant.reads (c.takes_sign.ensures.found (search rules)) c.in_err-item.ensures.reads) (search rules)

pub returns-in_err-push-2-clause-reads : goal.returns-in_err-push-2-clause-reads
returns-in_err-push-2-clause-reads c = no_memory _ (search rules)

pub returns-clause-reads : goal.returns-clause-reads
returns-clause-reads c = valued (search rules) (along_done c.more.invariant.reads (c.takes_sign.ensures.absent (search rules)) (c.takes_sign.ensures.kept (search rules)))
