use Rattle.sr_world_steps.specs.Inner.Shown.{Shown}
use Rattle.sr_world_steps.proofs.Stepping.{fresh_shown, shows_fresh}
use Rattle.sr_world_steps.proofs.world.World.fresh.Goals as goal

pub invariant_of-result : goal.invariant_of-result
invariant_of-result c =
    let shown : Shown = record { histories = c.in_ok-histories.histories.items; messages = c.new.result.items } in
    fresh_shown c.args.names.now shown c.in_ok-histories.ensures.empty c.new.ensures.items

pub returns : goal.returns
returns c =
    let shown : Shown = record { histories = c.in_ok-histories.histories.items; messages = c.new.result.items } in
    record { fresh = shows_fresh c.args.names.now shown c.in_ok-histories.ensures.empty c.new.ensures.items }
