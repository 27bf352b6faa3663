use Rattle.std.proofs.Common.{rules, []}
use Rattle.sr_parse_grammar.specs.Writing.{IsSet}
use Rattle.sr_parse_reader.proofs.Parts.{then, first_fails, goes_first, recast, handed}
use Rattle.sr_parse_reader.proofs.Starts.{sign_sample, expr_sample}
use Rattle.sr_parse_grammar.specs.declared.symbol.Sign.TheVariants as mark
use Rattle.sr_parse_reader.specs.Inner.Productions.{Mark}
use Rattle.sr_parse_grammar.specs.Expressions.{IsExpr}
use Rattle.sr_parse_reader.proofs.Sets.{set_of, set_to, set_back}
use Rattle.sr_parse_reader.proofs.querying.set.Goals as goal

pub returns-in_err-name-clause-reads : goal.returns-in_err-name-clause-reads
returns-in_err-name-clause-reads c = handed _ (recast IsSet set_of set_to set_back (first_fails _ _ (λ b y a h q. tt) (goes_first (Mark mark.Equal) IsExpr [] (sign_sample mark.Equal) expr_sample) c.in_err-name.ensures.reads)) (search rules)

pub returns-in_err-sign-clause-reads : goal.returns-in_err-sign-clause-reads
returns-in_err-sign-clause-reads c = handed _ (recast IsSet set_of set_to set_back (then (λ b y a h q. tt) c.in_ok-name.ensures.reads (first_fails _ _ (λ b y a h q. tt) expr_sample c.in_err-sign.ensures.reads))) (search rules)

pub returns-in_err-value-clause-reads : goal.returns-in_err-value-clause-reads
returns-in_err-value-clause-reads c = handed _ (recast IsSet set_of set_to set_back (then (λ b y a h q. tt) c.in_ok-name.ensures.reads (then (λ b y a h q. tt) c.in_ok-sign.ensures.reads c.in_err-value.ensures.reads))) (search rules)

pub returns-clause-reads : goal.returns-clause-reads
returns-clause-reads c = recast IsSet set_of set_to set_back (then (λ b y a h q. tt) c.in_ok-name.ensures.reads (then (λ b y a h q. tt) c.in_ok-sign.ensures.reads c.in_ok-value.ensures.reads))
