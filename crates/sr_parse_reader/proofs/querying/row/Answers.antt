use Rattle.std.proofs.Common.{rules}
use Rattle.sr_parse_grammar.specs.declared.symbol.Sign.TheVariants as mark
use Rattle.sr_parse_grammar.specs.Writing.{IsRow}
use Rattle.sr_parse_reader.proofs.Parts.{then, first_fails, recast, handed}
use Rattle.sr_parse_reader.proofs.Starts.{sign_sample}
use Rattle.sr_parse_reader.proofs.Writings.{row_of, row_to, row_back, values_close, values_sample}
use Rattle.sr_parse_reader.proofs.querying.row.Goals as goal

pub returns-in_err-sign-clause-reads : goal.returns-in_err-sign-clause-reads
returns-in_err-sign-clause-reads c = handed _ (recast IsRow row_of row_to row_back (first_fails _ _ (λ b y a h q. tt) values_sample c.in_err-sign.ensures.reads)) (search rules)

pub returns-in_err-values-clause-reads : goal.returns-in_err-values-clause-reads
returns-in_err-values-clause-reads c = handed _ (recast IsRow row_of row_to row_back (then (λ b y a h q. tt) c.in_ok-sign.ensures.reads (first_fails _ _ (λ b y a h q. values_close b y a h) (sign_sample mark.Close) c.in_err-values.ensures.reads))) (search rules)

pub returns-in_err-sign-2-clause-reads : goal.returns-in_err-sign-2-clause-reads
returns-in_err-sign-2-clause-reads c = handed _ (recast IsRow row_of row_to row_back (then (λ b y a h q. tt) c.in_ok-sign.ensures.reads (then (λ b y a h q. values_close b y a h) c.in_ok-values.ensures.reads (c.in_err-sign-2.ensures.reads)))) (search rules)

pub returns-clause-reads : goal.returns-clause-reads
returns-clause-reads c = recast IsRow row_of row_to row_back (then (λ b y a h q. tt) c.in_ok-sign.ensures.reads (then (λ b y a h q. values_close b y a h) c.in_ok-values.ensures.reads (c.in_ok-sign-2.ensures.reads)))
