use Rattle.std.proofs.Common.{ap, arith}
use Rattle.sr_snapshot_read.specs.Inner.Views.{View}
use Rattle.sr_snapshot_read.proofs.window.Window.held.Goals as goal

pub returns-clause-short : goal.returns-clause-short
returns-clause-short c = let size = ap (λ (v : View). v.size) c.self.view_is in omega (arith, size, c.self.invariant.short)
