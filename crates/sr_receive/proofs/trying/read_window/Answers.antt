use Rattle.sr_receive.proofs.Leading.{not_read_answer}
use Rattle.sr_receive.proofs.trying.read_window.Goals as goal

pub returns-in-Some-clause-none : goal.returns-in-Some-clause-none
returns-in-Some-clause-none c =
    not_read_answer c.args.pairs.now c.args.window c.as_slice.result.now c.read_spelled-read.result
    (rw c.as_slice.ensures.value (rw c.in-Some.is at c.in_ok-assemble.ensures.found))
    c.read_spelled-read.ensures.none
