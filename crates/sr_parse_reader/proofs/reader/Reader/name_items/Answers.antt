use Rattle.std.proofs.Common.{rules, arith}
use Rattle.std.proofs.lemmas.Grind.{common_steps}
use Rattle.sr_parse_grammar.specs.Inner.Going.{Stop, is_comma}
use Rattle.sr_parse_reader.proofs.Loops.{along_begun, along_on, along_done, along_missed, along_unread}
use Rattle.sr_parse_reader.proofs.Parts.{narrow, handed_mapped, no_memory_mapped}
use Rattle.sr_parse_reader.proofs.reader.Reader.name_items.Goals as goal

pub more-init : goal.more-init
more-init c = record {
  reads = along_begun (λ b n e. tt) c.in_ok-name.ensures.reads (grind (arith, common_steps));
  less = search rules;
}

pub more-preserved : goal.more-preserved
more-preserved c = record {
  reads = along_on (λ b n e. tt) c.more.invariant.reads (c.takes_sign.ensures.found (search rules)) c.in_ok-name-2.ensures.reads (grind (arith, common_steps));
  less = search rules;
}

pub returns-in_err-name-clause-reads : goal.returns-in_err-name-clause-reads
returns-in_err-name-clause-reads c = handed_mapped _ _ (narrow (Stop is_comma) (λ a s. (tt, s)) (along_unread (λ b n e. tt) c.in_err-name.ensures.reads)) (search rules)

pub returns-in_err-push-clause-reads : goal.returns-in_err-push-clause-reads
returns-in_err-push-clause-reads c = no_memory_mapped _ _ (search rules)

pub returns-in_err-name-2-clause-reads : goal.returns-in_err-name-2-clause-reads
returns-in_err-name-2-clause-reads c =
    handed_mapped _ _ (narrow (Stop is_comma) (λ a s. (tt, s)) (along_missed (λ b n e. tt) c.more.invariant.reads (c.takes_sign.ensures.found (search rules)) c.in_err-name-2.ensures.reads)) (search rules)

pub returns-in_err-push-2-clause-reads : goal.returns-in_err-push-2-clause-reads
returns-in_err-push-2-clause-reads c = no_memory_mapped _ _ (search rules)

pub returns-clause-reads : goal.returns-clause-reads
returns-clause-reads c = narrow (Stop is_comma) (λ a s. (tt, s)) (along_done c.more.invariant.reads (c.takes_sign.ensures.absent (search rules)) (c.takes_sign.ensures.kept (search rules)))
