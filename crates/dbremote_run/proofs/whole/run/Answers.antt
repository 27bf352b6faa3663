use Rattle.dbremote_run.proofs.Partners.{decided_kept, good_kept, partners_kept, puts_true, steps_made}
use Rattle.dbremote_run.proofs.whole.run.Goals as goal

pub returns-clause-partners : goal.returns-clause-partners
returns-clause-partners g c = λ publisher user us told stored. partners_kept _ _ _ _ c.done.ensures.ran c.done.ensures.stays (g.S.Held.read_is_image c.args.site.now told) publisher user us told stored

pub returns-clause-puts : goal.returns-clause-puts
returns-clause-puts g c = λ publisher told. puts_true _ _ _ _ c.done.ensures.ran c.done.ensures.stays (g.S.Held.read_is_image c.args.site.now told) publisher told

pub returns-clause-decided : goal.returns-clause-decided
returns-clause-decided g c = λ publisher told. decided_kept _ _ _ _ c.done.ensures.ran c.done.ensures.stays (g.S.Held.read_is_image c.args.site.now told) publisher told

pub returns-clause-good : goal.returns-clause-good
returns-clause-good g c = λ publisher told. good_kept _ _ _ _ c.done.ensures.ran c.done.ensures.stays (g.S.Held.read_is_image c.args.site.now told) publisher told

pub returns-clause-steps : goal.returns-clause-steps
returns-clause-steps g c = λ w publisher told. steps_made _ _ _ _ c.done.ensures.ran c.done.ensures.stays (g.S.Held.read_is_image c.args.site.now told) w publisher told
