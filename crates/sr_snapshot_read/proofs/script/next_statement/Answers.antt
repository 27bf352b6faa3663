use Rattle.sr_snapshot_read.proofs.ScriptRead.{is_false, never_none, next_found, next_none, next_other}
use Rattle.sr_snapshot_read.proofs.script.next_statement.Goals as goal

pub returns-then-accepted-clause-found : goal.returns-then-accepted-clause-found
returns-then-accepted-clause-found c =
    next_found c.args.catalog.now c.args.text.now c.in_ok-stmt.field-0 c.in-Some.stmt c.in_ok-stmt.ensures.found c.in-Some.is (c.in_ok-accepted-in-Some.ensures.accepted.0 c.if-accepted.true)

pub returns-else-accepted-clause-none : goal.returns-else-accepted-clause-none
returns-else-accepted-clause-none c = λ none.
    next_other c.args.catalog.now c.args.text.now c.in_ok-stmt.field-0 c.in-Some.stmt c.in_ok-stmt.ensures.found c.in-Some.is (λ taken. is_false c.in_ok-accepted-in-Some.accepted (c.in_ok-accepted-in-Some.ensures.accepted.1 taken) c.if-accepted.false)

pub returns-in-None-clause-none : goal.returns-in-None-clause-none
returns-in-None-clause-none c = λ none. next_none c.args.catalog.now c.args.text.now (c.in_ok-stmt.ensures.none c.in-None.is)

pub returns-then-accepted-clause-none : goal.returns-then-accepted-clause-none
returns-then-accepted-clause-none c = λ none. absurd (never_none c.in-Some.stmt none)

pub returns-else-accepted-clause-found : goal.returns-else-accepted-clause-found
returns-else-accepted-clause-found c = tt

pub returns-in-None-clause-found : goal.returns-in-None-clause-found
returns-in-None-clause-found c = tt
