use Rattle.std.proofs.Common.{rules, arith, refl, inl, inr}
use Rattle.std.proofs.lemmas.Grind.{common_steps}
use Rattle.sr_parse_grammar.specs.Inner.Going.{is_comma}
use Rattle.sr_parse_grammar.proofs.Steps.{Stop-at}
use Rattle.sr_parse_grammar.specs.declared.symbol.Sign.TheVariants as mark
use Rattle.sr_parse_reader.specs.Inner.Reading.{BeforeSign}
use Rattle.sr_parse_reader.proofs.Parts.{narrow, handed, no_memory, valued}
use Rattle.sr_parse_reader.proofs.Loops.{along_begun, along_on, along_done, along_missed, along_unread}
use Rattle.sr_parse.proofs.creating.articles.Goals as goal

pub more-init : goal.more-init
more-init c = record {
  reads = along_begun (λ b n e. inl (n, e)) c.in_ok-first.ensures.reads (grind (arith, common_steps));
  less = search rules;
}

pub more-preserved : goal.more-preserved
more-preserved c = record {
  reads = along_on (λ b n e. inl (n, e)) c.more.invariant.reads (c.takes_sign.ensures.found (search rules)) c.in_ok-item.ensures.reads (grind (arith, common_steps));
  less = search rules;
}

pub returns-in_err-first-clause-reads : goal.returns-in_err-first-clause-reads
returns-in_err-first-clause-reads c = handed _ (narrow (BeforeSign mark.Close) (λ a s. (inr s, Stop-at is_comma s.1 refl)) (along_unread (λ b n e. inl (n, e)) c.in_err-first.ensures.reads)) (search rules)

pub returns-in_err-push-clause-reads : goal.returns-in_err-push-clause-reads
returns-in_err-push-clause-reads c = no_memory _ (search rules)

pub returns-in_err-item-clause-reads : goal.returns-in_err-item-clause-reads
returns-in_err-item-clause-reads c = handed _ (narrow (BeforeSign mark.Close) (λ a s. (inr s, Stop-at is_comma s.1 refl)) (along_missed (λ b n e. inl (n, e)) c.more.invariant.reads (c.takes_sign.ensures.found (search rules)) c.in_err-item.ensures.reads)) (search rules)

pub returns-in_err-push-2-clause-reads : goal.returns-in_err-push-2-clause-reads
returns-in_err-push-2-clause-reads c = no_memory _ (search rules)

pub returns-clause-reads : goal.returns-clause-reads
returns-clause-reads c = valued (search rules) (narrow (BeforeSign mark.Close) (λ a s. (inr s, Stop-at is_comma s.1 refl)) (along_done c.more.invariant.reads (c.takes_sign.ensures.absent (search rules)) (c.takes_sign.ensures.kept (search rules))))
