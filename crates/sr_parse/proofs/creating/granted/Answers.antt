use Rattle.std.proofs.Common.{rules}
use Rattle.sr_parse_grammar.proofs.Granted.{address_proper, user_proper}
use Rattle.sr_parse.proofs.Grants.{grant_read}
use Rattle.sr_parse_reader.proofs.Parts.{then_on, ends_at, spelled, handed}
use Rattle.sr_parse_reader.proofs.Optionals.{behind_word, behind_ends}
use Rattle.sr_parse.proofs.creating.granted.Goals as goal

pub returns-in_err-keyword-clause-reads : goal.returns-in_err-keyword-clause-reads
returns-in_err-keyword-clause-reads c = handed _ (grant_read (behind_ends user_proper c.in_err-keyword.ensures.reads)) (search rules)

pub returns-in_err-user-clause-reads : goal.returns-in_err-user-clause-reads
returns-in_err-user-clause-reads c = handed _ (grant_read (behind_word (spelled c.in_ok-keyword.ensures.reads) (ends_at address_proper c.in_err-user.ensures.reads))) (search rules)

pub returns-in_err-address-clause-reads : goal.returns-in_err-address-clause-reads
returns-in_err-address-clause-reads c = handed _ (grant_read (behind_word (spelled c.in_ok-keyword.ensures.reads) (then_on c.in_ok-user.ensures.reads c.in_err-address.ensures.reads))) (search rules)

pub returns-clause-reads : goal.returns-clause-reads
returns-clause-reads c = grant_read (behind_word (spelled c.in_ok-keyword.ensures.reads) (then_on c.in_ok-user.ensures.reads c.in_ok-address.ensures.reads))
