use Rattle.std.proofs.Common.{rules}
use Rattle.sr_parse_reader.specs.Inner.Productions.{Assigned}
use Rattle.sr_parse_reader.proofs.Parts.{then, first_fails, recast, handed}
use Rattle.sr_parse_reader.proofs.Starts.{expr_sample}
use Rattle.sr_parse.proofs.Acted.{assigned_of, assigned_to, assigned_back, before_equal, equal_sample}
use Rattle.sr_parse.proofs.acting.assigned.Goals as goal

pub returns-in_err-alias-clause-reads : goal.returns-in_err-alias-clause-reads
returns-in_err-alias-clause-reads c = handed _ (recast Assigned assigned_of assigned_to assigned_back (first_fails _ _ before_equal equal_sample c.in_err-alias.ensures.reads)) (search rules)

pub returns-in_err-sign-clause-reads : goal.returns-in_err-sign-clause-reads
returns-in_err-sign-clause-reads c = handed _ (recast Assigned assigned_of assigned_to assigned_back (then before_equal c.in_ok-alias.ensures.reads (first_fails _ _ (λ b y a h q. tt) expr_sample c.in_err-sign.ensures.reads))) (search rules)

pub returns-in_err-value-clause-reads : goal.returns-in_err-value-clause-reads
returns-in_err-value-clause-reads c = handed _ (recast Assigned assigned_of assigned_to assigned_back (then before_equal c.in_ok-alias.ensures.reads (then (λ b y a h q. tt) c.in_ok-sign.ensures.reads c.in_err-value.ensures.reads))) (search rules)

pub returns-clause-reads : goal.returns-clause-reads
returns-clause-reads c = recast Assigned assigned_of assigned_to assigned_back (then before_equal c.in_ok-alias.ensures.reads (then (λ b y a h q. tt) c.in_ok-sign.ensures.reads c.in_ok-value.ensures.reads))
