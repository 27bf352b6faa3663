use Rattle.std.proofs.Common.{refl}
use Rattle.sr_snapshot_read.proofs.ScriptRead.{change_next}
use Rattle.sr_snapshot_read.proofs.script.statement_at.Goals as goal

pub returns-in-Some-clause-next : goal.returns-in-Some-clause-next
returns-in-Some-clause-next c = change_next c.args.catalog.now c.args.text.now c.in_ok-stmt.field-0 c.in-Some.stmt c.in_ok-stmt.ensures.found c.in-Some.is

pub returns-in-None-clause-cause : goal.returns-in-None-clause-cause
returns-in-None-clause-cause c = (refl, c.in_ok-stmt.ensures.none c.in-None.is)
