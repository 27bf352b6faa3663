use Rattle.sr_world.specs.Real.{layers}
use Rattle.sr_world.proofs.Keeping.{real_laws}
use Rattle.sr_world.proofs.windows.windows_are_taken.Goals as goal

pub returns-clause-allowed : goal.returns-clause-allowed
returns-clause-allowed c = c.window_taken.ensures.allowed layers

pub returns-clause-taken : goal.returns-clause-taken
returns-clause-taken c = c.window_taken.ensures.taken layers

pub returns-clause-covers : goal.returns-clause-covers
returns-clause-covers c = c.chain_covers.ensures.covers layers real_laws
