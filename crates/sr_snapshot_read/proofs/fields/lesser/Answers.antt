use Rattle.std.proofs.Common.{◌+◌, arith}
use Rattle.std.proofs.Math.Nat.{max-add-min, sub-add-eq-max}
use Rattle.sr_snapshot_read.proofs.fields.lesser.Goals as goal

pub returns-then-past-skip : goal.returns-then-past-skip
returns-then-past-skip c = omega (arith, sub-add-eq-max c.args.at (c.args.place + c.args.skip), max-add-min c.args.at (c.args.place + c.args.skip))

pub returns : goal.returns
returns c = omega (arith, sub-add-eq-max c.args.at (c.args.place + c.args.skip), max-add-min c.args.at (c.args.place + c.args.skip))
