use Rattle.std.proofs.Common.{rules}
use Rattle.sr_parse.proofs.Grants.{consolidated_read, grant_sample}
use Rattle.sr_parse_reader.proofs.Parts.{then, first_fails, handed}
use Rattle.sr_parse.proofs.creating.consolidated.Goals as goal

pub returns-in_err-keyword-clause-reads : goal.returns-in_err-keyword-clause-reads
returns-in_err-keyword-clause-reads c = handed _ (consolidated_read (first_fails _ _ (λ b y a h q. tt) grant_sample c.in_err-keyword.ensures.reads)) (search rules)

pub returns-in_err-grant-clause-reads : goal.returns-in_err-grant-clause-reads
returns-in_err-grant-clause-reads c = handed _ (consolidated_read (then (λ b y a h q. tt) c.in_ok-keyword.ensures.reads c.in_err-grant.ensures.reads)) (search rules)

pub returns-clause-reads : goal.returns-clause-reads
returns-clause-reads c = consolidated_read (then (λ b y a h q. tt) c.in_ok-keyword.ensures.reads c.in_ok-grant.ensures.reads)
