use Rattle.std.proofs.Common.{rules, refl}
use Rattle.sr_parse_grammar.specs.Scripts.{IsPassthrough}
use Rattle.sr_parse_grammar.specs.Inner.Going.{is_comma, Ends}
use Rattle.sr_parse_grammar.proofs.Lists.{Ends-stop}
use Rattle.sr_parse_reader.proofs.Parts.{then, first_fails, narrow, recast, handed}
use Rattle.sr_parse_reader.proofs.Carrying.{carried_of, carried_to, carried_back}
use Rattle.sr_parse_reader.proofs.Names.{names_sample}
use Rattle.sr_parse_reader.proofs.querying.passthrough.Goals as goal

pub returns-in_err-keyword-clause-reads : goal.returns-in_err-keyword-clause-reads
returns-in_err-keyword-clause-reads c = handed _ (recast IsPassthrough carried_of carried_to carried_back (then (λ b y a h q. (h.0, h.1)) c.only-only.ensures.reads (first_fails _ _ (λ b y a h q. tt) names_sample c.in_err-keyword.ensures.reads))) (search rules)

pub returns-in_err-users-clause-reads : goal.returns-in_err-users-clause-reads
returns-in_err-users-clause-reads c = handed _ (recast IsPassthrough carried_of carried_to carried_back (then (λ b y a h q. (h.0, h.1)) c.only-only.ensures.reads (then (λ b y a h q. tt) c.in_ok-keyword.ensures.reads (narrow Ends (λ a q. Ends-stop is_comma a refl q) c.in_err-users.ensures.reads)))) (search rules)

pub returns-clause-reads : goal.returns-clause-reads
returns-clause-reads c = recast IsPassthrough carried_of carried_to carried_back (then (λ b y a h q. (h.0, h.1)) c.only-only.ensures.reads (then (λ b y a h q. tt) c.in_ok-keyword.ensures.reads (narrow Ends (λ a q. Ends-stop is_comma a refl q) c.in_ok-users.ensures.reads)))
