use Rattle.std.proofs.Common.{rules, refl}
use Rattle.sr_parse_grammar.specs.Writing.{IsJoin}
use Rattle.sr_parse_grammar.specs.Inner.Going.{is_as}
use Rattle.sr_parse_grammar.proofs.Steps.{Stop-at}
use Rattle.sr_parse_reader.proofs.Parts.{then, first_fails, recast, handed}
use Rattle.sr_parse_reader.proofs.Starts.{expr_sample}
use Rattle.sr_parse_reader.proofs.Selections.{join_of, join_to, join_back, on_sample, joined_sample}
use Rattle.sr_parse_reader.proofs.querying.join.Goals as goal

pub returns-in_err-join_word-clause-reads : goal.returns-in_err-join_word-clause-reads
returns-in_err-join_word-clause-reads c = handed _ (recast IsJoin join_of join_to join_back (first_fails _ _ (λ b y a h q. tt) joined_sample c.in_err-join_word.ensures.reads)) (search rules)

pub returns-in_err-source-clause-reads : goal.returns-in_err-source-clause-reads
returns-in_err-source-clause-reads c = handed _ (recast IsJoin join_of join_to join_back (then (λ b y a h q. tt) c.in_ok-join_word.ensures.reads (first_fails _ _ (λ b y a h q. Stop-at is_as h.1 refl) on_sample c.in_err-source.ensures.reads))) (search rules)

pub returns-in_err-keyword-clause-reads : goal.returns-in_err-keyword-clause-reads
returns-in_err-keyword-clause-reads c = handed _ (recast IsJoin join_of join_to join_back (then (λ b y a h q. tt) c.in_ok-join_word.ensures.reads (then (λ b y a h q. Stop-at is_as h.1 refl) c.in_ok-source.ensures.reads (first_fails _ _ (λ b y a h q. tt) expr_sample c.in_err-keyword.ensures.reads)))) (search rules)

pub returns-in_err-condition-clause-reads : goal.returns-in_err-condition-clause-reads
returns-in_err-condition-clause-reads c = handed _ (recast IsJoin join_of join_to join_back (then (λ b y a h q. tt) c.in_ok-join_word.ensures.reads (then (λ b y a h q. Stop-at is_as h.1 refl) c.in_ok-source.ensures.reads (then (λ b y a h q. tt) c.in_ok-keyword.ensures.reads (c.in_err-condition.ensures.reads))))) (search rules)

pub returns-clause-reads : goal.returns-clause-reads
returns-clause-reads c = recast IsJoin join_of join_to join_back (then (λ b y a h q. tt) c.in_ok-join_word.ensures.reads (then (λ b y a h q. Stop-at is_as h.1 refl) c.in_ok-source.ensures.reads (then (λ b y a h q. tt) c.in_ok-keyword.ensures.reads (c.in_ok-condition.ensures.reads))))
