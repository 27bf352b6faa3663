use Rattle.std.proofs.Common.{rules}
use Rattle.sr_parse_reader.proofs.Parts.{then, cast, handed}
use Rattle.sr_parse_reader.proofs.Starts.{word_read}
use Rattle.sr_parse.proofs.Triggers.{of_cast, of_absent}
use Rattle.sr_parse.proofs.creating.of_columns.Goals as goal

pub returns-in_err-names-clause-reads : goal.returns-in_err-names-clause-reads
returns-in_err-names-clause-reads c = handed _ (cast (of_cast (c.takes.ensures.found (search rules))) (then (λ b y a h q. tt) (word_read (c.takes.ensures.found (search rules))) c.in_err-names.ensures.reads)) (search rules)

pub returns-then-takes-clause-reads : goal.returns-then-takes-clause-reads
returns-then-takes-clause-reads c = cast (of_cast (c.takes.ensures.found (search rules))) (then (λ b y a h q. tt) (word_read (c.takes.ensures.found (search rules))) c.in_ok-names.ensures.reads)

pub returns-clause-reads : goal.returns-clause-reads
returns-clause-reads c = of_absent (c.takes.ensures.kept (search rules)) (c.takes.ensures.absent (search rules)) (search rules)
