use Rattle.std.proofs.Common.{rules}
use Rattle.sr_parse_grammar.specs.Inner.Going.{Ends}
use Rattle.sr_parse_reader.proofs.Parts.{handed, narrow}
use Rattle.sr_parse_reader.proofs.Orders.{ordering_read, ordering_absent, order_ends, by_missed}
use Rattle.sr_parse_reader.proofs.Optionals.{behind_word}
use Rattle.sr_parse_reader.proofs.Parts.{spelled}
use Rattle.sr_parse_reader.proofs.querying.order.Goals as goal

pub returns-then-not-takes-clause-reads : goal.returns-then-not-takes-clause-reads
returns-then-not-takes-clause-reads c = ordering_absent (search rules) (c.takes.ensures.kept (search rules)) (c.takes.ensures.absent (search rules))

pub returns-in_err-keyword-clause-reads : goal.returns-in_err-keyword-clause-reads
returns-in_err-keyword-clause-reads c = handed _ (ordering_read (c.takes.ensures.found (search rules)) (by_missed c.in_err-keyword.ensures.reads)) (search rules)

pub returns-in_err-order-clause-reads : goal.returns-in_err-order-clause-reads
returns-in_err-order-clause-reads c = handed _ (ordering_read (c.takes.ensures.found (search rules)) (behind_word (spelled c.in_ok-keyword.ensures.reads) (narrow Ends order_ends c.in_err-order.ensures.reads))) (search rules)

pub returns-clause-reads : goal.returns-clause-reads
returns-clause-reads c = ordering_read (c.takes.ensures.found (search rules)) (behind_word (spelled c.in_ok-keyword.ensures.reads) (narrow Ends order_ends c.in_ok-order.ensures.reads))
