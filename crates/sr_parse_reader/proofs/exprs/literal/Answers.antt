use Rattle.std.proofs.Common.{rules, refl, arith}
use Rattle.std.proofs.lemmas.Grind.{common_steps}
use Rattle.sr_parse_reader.proofs.Parts.{then, cast, handed}
use Rattle.sr_parse_reader.proofs.Starts.{word_read}
use Rattle.sr_parse_reader.proofs.Constants.{stayed, number_read, single_read, date_behind, text_left}
use Rattle.sr_parse_reader.proofs.exprs.literal.Goals as goal

pub returns-in-Some-Number-clause-reads : goal.returns-in-Some-Number-clause-reads
returns-in-Some-Number-clause-reads c = number_read c.in-Some-Number.number (search rules) (search rules) (grind (arith, common_steps))

pub returns-then-takes-clause-reads : goal.returns-then-takes-clause-reads
returns-then-takes-clause-reads c = single_read _ refl (c.takes.ensures.found (search rules))

pub returns-in_err-day-clause-reads : goal.returns-in_err-day-clause-reads
returns-in_err-day-clause-reads c =
    let kept = c.takes.ensures.kept (search rules) in let found = c.takes-2.ensures.found (search rules) in
    handed _ (stayed kept (cast (date_behind found) (then (λ b y a h q. tt) (word_read found) c.in_err-day.ensures.reads))) (search rules)

pub returns-then-takes-2-clause-reads : goal.returns-then-takes-2-clause-reads
returns-then-takes-2-clause-reads c =
    let kept = c.takes.ensures.kept (search rules) in let found = c.takes-2.ensures.found (search rules) in
    stayed kept (cast (date_behind found) (then (λ b y a h q. tt) (word_read found) c.in_ok-day.ensures.reads))

pub returns-in_err-text-clause-reads : goal.returns-in_err-text-clause-reads
returns-in_err-text-clause-reads c = handed _ (cast (text_left (λ n e. search rules) (λ rest h. search rules) (λ rest h. search rules)) (stayed (search rules) c.in_err-text.ensures.reads)) (search rules)

pub returns-clause-reads : goal.returns-clause-reads
returns-clause-reads c = cast (text_left (λ n e. search rules) (λ rest h. search rules) (λ rest h. search rules)) (stayed (search rules) c.in_ok-text.ensures.reads)
