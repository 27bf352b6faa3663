use Rattle.std.proofs.Common.{rules}
use Rattle.sr_world_steps.proofs.Found.{passed_more}
use Rattle.sr_world_steps.proofs.places.found.Goals as goal

pub histories-preserved : goal.histories-preserved
histories-preserved c =
    passed_more c.args.name.now c.args.histories.now c.histories.left.now c.in-Some.rest.now c.histories.place c.in-Some.history.now c.histories.invariant (search rules) (λ e. search rules)
