use Rattle.std.proofs.Common.{rules, refl}
use Rattle.sr_parse_grammar.specs.declared.symbol.Sign.TheVariants as mark
use Rattle.sr_parse_grammar.specs.Writing.{IsAggregated}
use Rattle.sr_parse_grammar.specs.Inner.Going.{expression_goes}
use Rattle.sr_parse_grammar.proofs.Steps.{Stop-at}
use Rattle.sr_parse_reader.proofs.Parts.{then, first_fails, recast, handed}
use Rattle.sr_parse_reader.proofs.Starts.{sign_sample}
use Rattle.sr_parse_reader.proofs.Selections.{aggregated_of, aggregated_to, aggregated_back, aggregated_sample}
use Rattle.sr_parse_reader.proofs.querying.aggregated.Goals as goal

pub returns-in_err-sign-clause-reads : goal.returns-in_err-sign-clause-reads
returns-in_err-sign-clause-reads c = handed _ (recast IsAggregated aggregated_of aggregated_to aggregated_back (first_fails _ _ (λ b y a h q. tt) aggregated_sample c.in_err-sign.ensures.reads)) (search rules)

pub returns-in_err-of-clause-reads : goal.returns-in_err-of-clause-reads
returns-in_err-of-clause-reads c = handed _ (recast IsAggregated aggregated_of aggregated_to aggregated_back (then (λ b y a h q. tt) c.in_ok-sign.ensures.reads
    (first_fails _ _ (λ b y a h q. Stop-at expression_goes h refl) (sign_sample mark.Close) c.in_err-of.ensures.reads))) (search rules)

pub returns-in_err-sign-2-clause-reads : goal.returns-in_err-sign-2-clause-reads
returns-in_err-sign-2-clause-reads c = handed _ (recast IsAggregated aggregated_of aggregated_to aggregated_back (then (λ b y a h q. tt) c.in_ok-sign.ensures.reads
    (then (λ b y a h q. Stop-at expression_goes h refl) c.in_ok-of.ensures.reads c.in_err-sign-2.ensures.reads))) (search rules)

pub returns-clause-reads : goal.returns-clause-reads
returns-clause-reads c = recast IsAggregated aggregated_of aggregated_to aggregated_back (then (λ b y a h q. tt) c.in_ok-sign.ensures.reads
    (then (λ b y a h q. Stop-at expression_goes h refl) c.in_ok-of.ensures.reads c.in_ok-sign-2.ensures.reads))
