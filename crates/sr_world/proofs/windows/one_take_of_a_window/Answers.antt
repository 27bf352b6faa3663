use Rattle.sr_world.specs.Real.{layers}
use Rattle.sr_world.proofs.Keeping.{real_laws}
use Rattle.sr_world.proofs.windows.one_take_of_a_window.Goals as goal

pub returns : goal.returns
returns c = c.one_take.ensures layers real_laws
