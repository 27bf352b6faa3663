use Rattle.std.proofs.Common.{rules}
use Rattle.sr_parse_reader.proofs.Parts.{then, first_fails, handed}
use Rattle.sr_parse_reader.proofs.Starts.{word_read, expr_sample}
use Rattle.sr_parse.proofs.Articles.{subscribed_none, subscribed_read}
use Rattle.sr_parse.proofs.creating.subscribed_by.Goals as goal

pub returns-then-not-takes-clause-reads : goal.returns-then-not-takes-clause-reads
returns-then-not-takes-clause-reads c = subscribed_none (c.takes.ensures.kept (search rules)) (c.takes.ensures.absent (search rules))

pub returns-in_err-keyword-clause-reads : goal.returns-in_err-keyword-clause-reads
returns-in_err-keyword-clause-reads c = handed _ (subscribed_read (c.takes.ensures.found (search rules)) (then (λ b y a h q. tt) (word_read (c.takes.ensures.found (search rules))) (first_fails _ _ (λ b y a h q. tt) expr_sample c.in_err-keyword.ensures.reads))) (search rules)

pub returns-in_err-by-clause-reads : goal.returns-in_err-by-clause-reads
returns-in_err-by-clause-reads c = handed _ (subscribed_read (c.takes.ensures.found (search rules)) (then (λ b y a h q. tt) (word_read (c.takes.ensures.found (search rules))) (then (λ b y a h q. tt) c.in_ok-keyword.ensures.reads c.in_err-by.ensures.reads))) (search rules)

pub returns-clause-reads : goal.returns-clause-reads
returns-clause-reads c = subscribed_read (c.takes.ensures.found (search rules)) (then (λ b y a h q. tt) (word_read (c.takes.ensures.found (search rules))) (then (λ b y a h q. tt) c.in_ok-keyword.ensures.reads c.in_ok-by.ensures.reads))
