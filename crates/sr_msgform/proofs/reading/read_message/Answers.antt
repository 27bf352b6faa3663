use Rattle.std.proofs.Common.{◌≡◌, length, ap, ◌∙◌, arith}
use Rattle.sr_msgform.proofs.Whole.{length-message, found_message, inside_is}
use Rattle.sr_msgform.proofs.reading.read_message.Goals as goal

pub returns-then-bytes-gt-LONGEST_FILE-clause-only : goal.returns-then-bytes-gt-LONGEST_FILE-clause-only
returns-then-bytes-gt-LONGEST_FILE-clause-only c = λ m h e.
    let size = ap length e ∙ length-message m in
    absurd (omega (arith, size, h.file))

pub returns-in-Some-clause-found : goal.returns-in-Some-clause-found
returns-in-Some-clause-found c = found_message c.message_in.result c.args.bytes.now c.in-Some.rest.now (omega arith) c.in-Some.ensures.found c.message_in.ensures.found

pub returns-in-Some-clause-only : goal.returns-in-Some-clause-only
returns-in-Some-clause-only c = λ m h e. c.message_in.ensures.only m h.ranges h.rules (inside_is c.args.bytes.now c.in-Some.rest.now m c.in-Some.ensures.found e)
