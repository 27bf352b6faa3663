use Rattle.std.proofs.Common.{rules}
use Rattle.sr_parse_grammar.specs.Writing.{IsOrder}
use Rattle.sr_parse_grammar.proofs.Selecting.{direction_stops}
use Rattle.sr_parse_reader.proofs.Parts.{then, first_fails, recast, handed}
use Rattle.sr_parse_reader.proofs.Samples.{direction_sample}
use Rattle.sr_parse_reader.proofs.Orders.{order_of, order_to, order_back}
use Rattle.sr_parse_reader.proofs.Names.{dotted, undotted, referred, unreferred}
use Rattle.sr_parse_reader.proofs.querying.order_by.Goals as goal

pub returns-in_err-first-clause-reads : goal.returns-in_err-first-clause-reads
returns-in_err-first-clause-reads c = handed _ (recast IsOrder order_of order_to order_back (first_fails _ _ direction_stops direction_sample (unreferred c.in_err-first.ensures.reads))) (search rules)

pub returns-in_err-column-clause-reads : goal.returns-in_err-column-clause-reads
returns-in_err-column-clause-reads c = handed _ (recast IsOrder order_of order_to order_back (first_fails _ _ direction_stops direction_sample (referred c.in_ok-first.ensures.reads (dotted (c.takes_sign.ensures.found (search rules)) c.in_err-column.ensures.reads)))) (search rules)

pub returns-then-takes_sign-clause-reads : goal.returns-then-takes_sign-clause-reads
returns-then-takes_sign-clause-reads c = recast IsOrder order_of order_to order_back (then direction_stops (referred c.in_ok-first.ensures.reads (dotted (c.takes_sign.ensures.found (search rules)) c.in_ok-column.ensures.reads)) c.is_descending-descending.ensures.reads)

pub returns-clause-reads : goal.returns-clause-reads
returns-clause-reads c = recast IsOrder order_of order_to order_back (then direction_stops (referred c.in_ok-first.ensures.reads (undotted (c.takes_sign.ensures.kept (search rules)) (c.takes_sign.ensures.absent (search rules)))) c.is_descending-descending-2.ensures.reads)
