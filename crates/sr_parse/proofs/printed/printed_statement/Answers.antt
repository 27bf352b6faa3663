use Rattle.std.proofs.Common.{refl}
use Rattle.sr_parse.proofs.Prints.{refused-none, script-none, other-none, stmt-prints}
use Rattle.sr_parse.proofs.printed.printed_statement.Goals as goal

pub returns-in-Some-clause-found : goal.returns-in-Some-clause-found
returns-in-Some-clause-found c =
    stmt-prints c.args.text.now c.in-Ok.script c.as_slice.result.now c.in-Some.stmt.now c.in_ok-found-in-Some.found c.in-Ok.ensures.sound c.as_slice.ensures.items
    c.in-Some.ensures.one c.in_ok-found-in-Some.ensures.found c.in_ok-found-in-Some.ensures.prints

pub returns-in-Some-clause-none : goal.returns-in-Some-clause-none
returns-in-Some-clause-none c = λ is.
    other-none c.args.text.now c.in-Ok.script c.as_slice.result.now c.in-Some.stmt.now c.in-Ok.ensures.read c.as_slice.ensures.items
    c.in-Some.ensures.one (c.in_ok-found-in-Some.ensures.none is)

pub returns-in-Ok-clause-none : goal.returns-in-Ok-clause-none
returns-in-Ok-clause-none c = λ _.
    script-none c.args.text.now c.in-Ok.script c.as_slice.result.now c.in-Ok.ensures.read c.as_slice.ensures.items (c.in-None.ensures.none refl)

pub returns-in-Err-Refused-clause-none : goal.returns-in-Err-Refused-clause-none
returns-in-Err-Refused-clause-none c = λ _.
    refused-none c.args.text.now c.in-Err-Refused.field-0 c.in-Err-Refused.field-0-0 c.in-Err-Refused.ensures.read c.in-Err-Refused.field-0-is
