use Rattle.std.proofs.Common.{rules, refl}
use Rattle.sr_parse.proofs.Grants.{literal_read, signed_read, negative_read, negative_missed}
use Rattle.sr_parse_reader.proofs.Parts.{then, handed}
use Rattle.sr_parse_reader.proofs.Starts.{sign_read}
use Rattle.sr_parse.proofs.creating.signed_literal.Goals as goal

pub returns-in_err-value-clause-reads : goal.returns-in_err-value-clause-reads
returns-in_err-value-clause-reads c = handed _ (literal_read (c.takes_sign.ensures.kept (search rules)) (c.takes_sign.ensures.absent (search rules)) c.in_err-value.ensures.reads) (search rules)

pub returns-then-not-takes_sign-clause-reads : goal.returns-then-not-takes_sign-clause-reads
returns-then-not-takes_sign-clause-reads c = literal_read (c.takes_sign.ensures.kept (search rules)) (c.takes_sign.ensures.absent (search rules)) c.in_ok-value.ensures.reads

pub returns-in-Some-clause-reads : goal.returns-in-Some-clause-reads
returns-in-Some-clause-reads c = signed_read (c.takes_sign.ensures.found (search rules)) (then (λ b y a h q. tt) (sign_read (c.takes_sign.ensures.found (search rules))) (negative_read (search rules)))

pub returns-in-None-clause-reads : goal.returns-in-None-clause-reads
returns-in-None-clause-reads c = signed_read (c.takes_sign.ensures.found (search rules)) (then (λ b y a h q. tt) (sign_read (c.takes_sign.ensures.found (search rules))) (negative_missed refl (λ v rest h. search rules)))
