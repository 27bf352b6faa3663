use Rattle.std.proofs.Common.{rules, refl}
use Rattle.sr_parse_grammar.specs.Writing.{IsSelect}
use Rattle.sr_parse_grammar.specs.Inner.Going.{is_comma, is_join, expression_goes, condition_goes}
use Rattle.sr_parse_grammar.proofs.Steps.{Stop-at}
use Rattle.sr_parse_grammar.proofs.Selecting.{ordering_stops}
use Rattle.sr_parse_reader.proofs.Parts.{then, first_fails, recast, handed}
use Rattle.sr_parse_reader.proofs.Samples.{ordering_sample}
use Rattle.sr_parse_reader.proofs.Selections.{select_of, select_to, select_back, sifted_stops, joined_stops, sifted_sample, joined_parts_sample, sourced_sample, from_sample}
use Rattle.sr_parse_reader.proofs.querying.select.Goals as goal

pub returns-in_err-items-clause-reads : goal.returns-in_err-items-clause-reads
returns-in_err-items-clause-reads c = handed _ (recast IsSelect select_of select_to select_back (first_fails _ _ (λ b y a h q. (Stop-at expression_goes h.1 refl, Stop-at is_comma h.1 refl)) from_sample c.in_err-items.ensures.reads)) (search rules)

pub returns-in_err-keyword-clause-reads : goal.returns-in_err-keyword-clause-reads
returns-in_err-keyword-clause-reads c = handed _ (recast IsSelect select_of select_to select_back (then (λ b y a h q. (Stop-at expression_goes h.1 refl, Stop-at is_comma h.1 refl)) c.in_ok-items.ensures.reads (first_fails _ _ (λ b y a h q. tt) sourced_sample c.in_err-keyword.ensures.reads))) (search rules)

pub returns-in_err-source-clause-reads : goal.returns-in_err-source-clause-reads
returns-in_err-source-clause-reads c = handed _ (recast IsSelect select_of select_to select_back (then (λ b y a h q. (Stop-at expression_goes h.1 refl, Stop-at is_comma h.1 refl)) c.in_ok-items.ensures.reads (then (λ b y a h q. tt) c.in_ok-keyword.ensures.reads (first_fails _ _ joined_stops joined_parts_sample c.in_err-source.ensures.reads)))) (search rules)

pub returns-in_err-joins-clause-reads : goal.returns-in_err-joins-clause-reads
returns-in_err-joins-clause-reads c = handed _ (recast IsSelect select_of select_to select_back (then (λ b y a h q. (Stop-at expression_goes h.1 refl, Stop-at is_comma h.1 refl)) c.in_ok-items.ensures.reads (then (λ b y a h q. tt) c.in_ok-keyword.ensures.reads (then joined_stops c.in_ok-source.ensures.reads (first_fails _ _ (λ b y a h q. (sifted_stops expression_goes refl refl refl b y a h q, sifted_stops is_join refl refl refl b y a h q)) sifted_sample c.in_err-joins.ensures.reads))))) (search rules)

pub returns-in_err-condition-clause-reads : goal.returns-in_err-condition-clause-reads
returns-in_err-condition-clause-reads c = handed _ (recast IsSelect select_of select_to select_back (then (λ b y a h q. (Stop-at expression_goes h.1 refl, Stop-at is_comma h.1 refl)) c.in_ok-items.ensures.reads (then (λ b y a h q. tt) c.in_ok-keyword.ensures.reads (then joined_stops c.in_ok-source.ensures.reads (then (λ b y a h q. (sifted_stops expression_goes refl refl refl b y a h q, sifted_stops is_join refl refl refl b y a h q)) c.in_ok-joins.ensures.reads (first_fails _ _ (λ b y a h q. ordering_stops condition_goes b y a refl refl h q) ordering_sample c.in_err-condition.ensures.reads)))))) (search rules)

pub returns-in_err-order-clause-reads : goal.returns-in_err-order-clause-reads
returns-in_err-order-clause-reads c = handed _ (recast IsSelect select_of select_to select_back (then (λ b y a h q. (Stop-at expression_goes h.1 refl, Stop-at is_comma h.1 refl)) c.in_ok-items.ensures.reads (then (λ b y a h q. tt) c.in_ok-keyword.ensures.reads (then joined_stops c.in_ok-source.ensures.reads (then (λ b y a h q. (sifted_stops expression_goes refl refl refl b y a h q, sifted_stops is_join refl refl refl b y a h q)) c.in_ok-joins.ensures.reads (then (λ b y a h q. ordering_stops condition_goes b y a refl refl h q) c.in_ok-condition.ensures.reads (c.in_err-order.ensures.reads))))))) (search rules)

pub returns-clause-reads : goal.returns-clause-reads
returns-clause-reads c = recast IsSelect select_of select_to select_back (then (λ b y a h q. (Stop-at expression_goes h.1 refl, Stop-at is_comma h.1 refl)) c.in_ok-items.ensures.reads (then (λ b y a h q. tt) c.in_ok-keyword.ensures.reads (then joined_stops c.in_ok-source.ensures.reads (then (λ b y a h q. (sifted_stops expression_goes refl refl refl b y a h q, sifted_stops is_join refl refl refl b y a h q)) c.in_ok-joins.ensures.reads (then (λ b y a h q. ordering_stops condition_goes b y a refl refl h q) c.in_ok-condition.ensures.reads (c.in_ok-order.ensures.reads))))))
