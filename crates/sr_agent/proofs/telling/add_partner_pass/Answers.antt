use Rattle.sr_agent.proofs.Additions.{added_on, part_on, whatever}
use Rattle.sr_agent.proofs.telling.add_partner_pass.Goals as goal

pub returns-in_err-add_reports-2-clause-failed : goal.returns-in_err-add_reports-2-clause-failed
returns-in_err-add_reports-2-clause-failed g c =
    whatever _ c.from_residual-in_err-add_reports-2.result
    (part_on _ _ _ _ _ _ _ (added_on _ _ _ _ _ _ _ _ c.in_ok-add_reports.ensures.added c.in_ok-add_received.ensures.added) c.in_err-add_reports-2.ensures.failed)

pub returns-clause-added : goal.returns-clause-added
returns-clause-added g c = added_on _ _ _ _ _ _ _ _ (added_on _ _ _ _ _ _ _ _ c.in_ok-add_reports.ensures.added c.in_ok-add_received.ensures.added) c.in_ok-add_reports-2.ensures.added
