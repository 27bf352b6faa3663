use Rattle.std.proofs.Common.{rules}
use Rattle.sr_parse_grammar.specs.declared.symbol.Sign.TheVariants as mark
use Rattle.sr_parse_reader.specs.Inner.Productions.{Counted}
use Rattle.sr_parse_reader.proofs.Parts.{then, first_fails, recast, handed}
use Rattle.sr_parse_reader.proofs.Starts.{sign_sample}
use Rattle.sr_parse_reader.proofs.Selections.{counted_of, counted_to, counted_back, counted_sample}
use Rattle.sr_parse_reader.proofs.querying.counted.Goals as goal

pub returns-in_err-sign-clause-reads : goal.returns-in_err-sign-clause-reads
returns-in_err-sign-clause-reads c = handed _ (recast Counted counted_of counted_to counted_back (first_fails _ _ (λ b y a h q. tt) counted_sample c.in_err-sign.ensures.reads)) (search rules)

pub returns-in_err-sign-2-clause-reads : goal.returns-in_err-sign-2-clause-reads
returns-in_err-sign-2-clause-reads c = handed _ (recast Counted counted_of counted_to counted_back (then (λ b y a h q. tt) c.in_ok-sign.ensures.reads (first_fails _ _ (λ b y a h q. tt) (sign_sample mark.Close) c.in_err-sign-2.ensures.reads))) (search rules)

pub returns-in_err-sign-3-clause-reads : goal.returns-in_err-sign-3-clause-reads
returns-in_err-sign-3-clause-reads c = handed _ (recast Counted counted_of counted_to counted_back (then (λ b y a h q. tt) c.in_ok-sign.ensures.reads (then (λ b y a h q. tt) c.in_ok-sign-2.ensures.reads c.in_err-sign-3.ensures.reads))) (search rules)

pub returns-clause-reads : goal.returns-clause-reads
returns-clause-reads c = recast Counted counted_of counted_to counted_back (then (λ b y a h q. tt) c.in_ok-sign.ensures.reads (then (λ b y a h q. tt) c.in_ok-sign-2.ensures.reads c.in_ok-sign-3.ensures.reads))
