use Rattle.sr_world_steps.proofs.Found.{set_entry}
use Rattle.sr_world_steps.proofs.places.push_entry.Goals as goal

pub returns-in-Ok-clause-ok : goal.returns-in-Ok-clause-ok
returns-in-Ok-clause-ok c =
    set_entry c.args.histories.now.items c.args.place c.args.item c.index_mut.result.now _ c.requires.within c.index_mut.ensures.value (λ i. (c.index_mut.result.now.0, c.in-Ok.ensures.ok i))
