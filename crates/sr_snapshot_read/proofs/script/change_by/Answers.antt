use Rattle.sr_snapshot_read.proofs.script.change_by.Goals as goal

pub apply-done-requires : goal.apply-done-requires
apply-done-requires c = record { normal = c.in_ok-stmt.ensures.next.prints.normal; accepted = c.in_ok-stmt.ensures.next.accepted }

pub returns-clause-makes : goal.returns-clause-makes
returns-clause-makes c = (c.in_ok-stmt.stmt, c.in_ok-stmt.ensures.next, c.in_ok-done.ensures.ok)
