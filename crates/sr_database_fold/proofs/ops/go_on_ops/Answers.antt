use Rattle.sr_database_fold.specs.Inner.Readings.{state_in}
use Rattle.sr_database_fold.proofs.Taking.{ops_stuck}
use Rattle.sr_database_fold.proofs.ops.go_on_ops.Goals as goal

pub returns-then-not-branch-clause-told : goal.returns-then-not-branch-clause-told
returns-then-not-branch-clause-told c =
    ops_stuck (state_in c.args.catalog.now c.args.rows.now) (state_in c.ops.catalog c.ops.rows) (state_in c.go_on_op.new.catalog c.go_on_op.new.rows)
    (state_in c.go_on_op.new.catalog c.go_on_op.new.rows) c.args.ops.now c.ops.left.now c.in-Some.rest.now c.in-Some.field-0-0.now.0 c.in-Some.field-0-0.now.1 _
    c.ops.invariant.more c.in_ok-go_on_op.ensures.told c.if-not-branch.true c.in-Some.ensures.cases.0
