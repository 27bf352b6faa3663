use Rattle.std.proofs.Common.{rules}
use Rattle.sr_parse_grammar.specs.declared.symbol.Sign.TheVariants as mark
use Rattle.sr_parse.proofs.Grants.{given_none, given_read}
use Rattle.sr_parse_reader.proofs.Parts.{then, first_fails, handed}
use Rattle.sr_parse_reader.proofs.Starts.{sign_read, sign_sample}
use Rattle.sr_parse.proofs.creating.given_value.Goals as goal

pub returns-then-not-takes_sign-clause-reads : goal.returns-then-not-takes_sign-clause-reads
returns-then-not-takes_sign-clause-reads c = given_none (c.takes_sign.ensures.kept (search rules)) (c.takes_sign.ensures.absent (search rules))

pub returns-in_err-value-clause-reads : goal.returns-in_err-value-clause-reads
returns-in_err-value-clause-reads c = handed _ (given_read (c.takes_sign.ensures.found (search rules)) (then (λ b y a h q. tt) (sign_read (c.takes_sign.ensures.found (search rules))) (first_fails _ _ (λ b y a h q. tt) (sign_sample mark.Close) c.in_err-value.ensures.reads))) (search rules)

pub returns-in_err-sign-clause-reads : goal.returns-in_err-sign-clause-reads
returns-in_err-sign-clause-reads c = handed _ (given_read (c.takes_sign.ensures.found (search rules)) (then (λ b y a h q. tt) (sign_read (c.takes_sign.ensures.found (search rules))) (then (λ b y a h q. tt) c.in_ok-value.ensures.reads c.in_err-sign.ensures.reads))) (search rules)

pub returns-clause-reads : goal.returns-clause-reads
returns-clause-reads c = given_read (c.takes_sign.ensures.found (search rules)) (then (λ b y a h q. tt) (sign_read (c.takes_sign.ensures.found (search rules))) (then (λ b y a h q. tt) c.in_ok-value.ensures.reads c.in_ok-sign.ensures.reads))
