use Rattle.std.proofs.Common.{rules}
use Rattle.sr_parse_reader.proofs.Parts.{then, first_fails, recast, handed}
use Rattle.sr_parse_reader.proofs.Starts.{sign_sample}
use Rattle.sr_parse_grammar.specs.Triggers.{IsVariable}
use Rattle.sr_parse_grammar.specs.declared.symbol.Sign.TheVariants as mark
use Rattle.sr_parse.proofs.Triggers.{variable_of, variable_to, variable_back, named_sample, typed_sample}
use Rattle.sr_parse.proofs.creating.variable.Goals as goal

pub returns-in_err-keyword-clause-reads : goal.returns-in_err-keyword-clause-reads
returns-in_err-keyword-clause-reads c =
    handed _ (recast IsVariable variable_of variable_to variable_back (first_fails _ _ (λ b y a h q. tt) named_sample c.in_err-keyword.ensures.reads)) (search rules)

pub returns-in_err-name-clause-reads : goal.returns-in_err-name-clause-reads
returns-in_err-name-clause-reads c =
    handed _ (recast IsVariable variable_of variable_to variable_back (then (λ b y a h q. tt) c.in_ok-keyword.ensures.reads (first_fails _ _ (λ b y a h q. tt) typed_sample c.in_err-name.ensures.reads))) (search rules)

pub returns-in_err-kind-clause-reads : goal.returns-in_err-kind-clause-reads
returns-in_err-kind-clause-reads c =
    handed _ (recast IsVariable variable_of variable_to variable_back (then (λ b y a h q. tt) c.in_ok-keyword.ensures.reads (then (λ b y a h q. tt) c.in_ok-name.ensures.reads (first_fails _ _ (λ b y a h q. tt) (sign_sample mark.Semicolon) c.in_err-kind.ensures.reads)))) (search rules)

pub returns-in_err-sign-clause-reads : goal.returns-in_err-sign-clause-reads
returns-in_err-sign-clause-reads c =
    handed _ (recast IsVariable variable_of variable_to variable_back (then (λ b y a h q. tt) c.in_ok-keyword.ensures.reads (then (λ b y a h q. tt) c.in_ok-name.ensures.reads (then (λ b y a h q. tt) c.in_ok-kind.ensures.reads c.in_err-sign.ensures.reads)))) (search rules)

pub returns-clause-reads : goal.returns-clause-reads
returns-clause-reads c =
    recast IsVariable variable_of variable_to variable_back (then (λ b y a h q. tt) c.in_ok-keyword.ensures.reads (then (λ b y a h q. tt) c.in_ok-name.ensures.reads (then (λ b y a h q. tt) c.in_ok-kind.ensures.reads c.in_ok-sign.ensures.reads)))
