use Rattle.std.proofs.Common.{◌-◌, ◌*◌}
use Rattle.dbremote_demo.proofs.Counted.{AreRun}
use Rattle.dbremote_demo.proofs.blocks.run_blocks.Given as goal

-- so many blocks were run
abbrev pub invariant-runs : goal.invariant-runs
invariant-runs l = AreRun l.fn.draws l.count l.fn.demo_sites l.blocks l.draws l.demo_sites l.lost

abbrev pub decreases-runs : goal.decreases-runs
decreases-runs l = l.count - 100 * l.blocks
