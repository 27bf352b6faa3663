use Rattle.std.proofs.Common.{rules}
use Rattle.sr_ast.specs.declared.keyword.Keyword.TheVariants as key
use Rattle.sr_parse_reader.specs.Inner.Productions.{EachRow}
use Rattle.sr_parse_reader.proofs.Parts.{then, first_fails, recast, handed}
use Rattle.sr_parse_reader.proofs.Starts.{word_sample}
use Rattle.sr_parse.proofs.Triggers.{each_to, each_back, each_sample, begin_sample}
use Rattle.sr_parse.proofs.creating.for_each_row.Goals as goal

pub returns-in_err-keyword-clause-reads : goal.returns-in_err-keyword-clause-reads
returns-in_err-keyword-clause-reads c = handed _ (recast EachRow (λ x. tt) each_to each_back (first_fails _ _ (λ b y a h q. tt) each_sample c.in_err-keyword.ensures.reads)) (search rules)

pub returns-in_err-keyword-2-clause-reads : goal.returns-in_err-keyword-2-clause-reads
returns-in_err-keyword-2-clause-reads c =
    handed _ (recast EachRow (λ x. tt) each_to each_back (then (λ b y a h q. tt) c.in_ok-keyword.ensures.reads (first_fails _ _ (λ b y a h q. tt) begin_sample c.in_err-keyword-2.ensures.reads))) (search rules)

pub returns-in_err-keyword-3-clause-reads : goal.returns-in_err-keyword-3-clause-reads
returns-in_err-keyword-3-clause-reads c =
    handed _ (recast EachRow (λ x. tt) each_to each_back (then (λ b y a h q. tt) c.in_ok-keyword.ensures.reads (then (λ b y a h q. tt) c.in_ok-keyword-2.ensures.reads (first_fails _ _ (λ b y a h q. tt) (word_sample key.Begin) c.in_err-keyword-3.ensures.reads)))) (search rules)

pub returns-in_err-keyword-4-clause-reads : goal.returns-in_err-keyword-4-clause-reads
returns-in_err-keyword-4-clause-reads c =
    handed _ (recast EachRow (λ x. tt) each_to each_back (then (λ b y a h q. tt) c.in_ok-keyword.ensures.reads (then (λ b y a h q. tt) c.in_ok-keyword-2.ensures.reads (then (λ b y a h q. tt) c.in_ok-keyword-3.ensures.reads c.in_err-keyword-4.ensures.reads)))) (search rules)

pub returns-clause-reads : goal.returns-clause-reads
returns-clause-reads c =
    recast EachRow (λ x. tt) each_to each_back (then (λ b y a h q. tt) c.in_ok-keyword.ensures.reads (then (λ b y a h q. tt) c.in_ok-keyword-2.ensures.reads (then (λ b y a h q. tt) c.in_ok-keyword-3.ensures.reads c.in_ok-keyword-4.ensures.reads)))
