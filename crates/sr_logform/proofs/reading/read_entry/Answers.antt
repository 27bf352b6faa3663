use Rattle.std.proofs.Common.{arith}
use Rattle.sr_logform.proofs.Whole.{whole_is, none_breaks, rest_breaks, entry_breaks}
use Rattle.sr_logform.proofs.reading.read_entry.Goals as goal

pub returns-then-taken-bytes-clause-only : goal.returns-then-taken-bytes-clause-only
returns-then-taken-bytes-clause-only c =
    λ entry h e. let whole = whole_is c.args.bytes.now c.in-Ok.entry entry c.in-Ok.taken c.in-Ok.ensures.only h e in
    absurd (omega (arith, whole.1, c.if-taken-bytes.true))

pub returns-then-taken-bytes-clause-place : goal.returns-then-taken-bytes-clause-place
returns-then-taken-bytes-clause-place c =
    rest_breaks c.args.bytes.now c.in-Ok.entry c.in-Ok.taken c.in-Ok.ensures.found.0 c.in-Ok.ensures.found.1 c.if-taken-bytes.true

pub returns-in-Err-clause-only : goal.returns-in-Err-clause-only
returns-in-Err-clause-only c = none_breaks c.args.bytes.now c.in-Err.bad c.in-Err.ensures.only

pub returns-in-Err-clause-place : goal.returns-in-Err-clause-place
returns-in-Err-clause-place c = entry_breaks c.args.bytes.now _ c.in-Err.bad c.in-Err.ensures.place
