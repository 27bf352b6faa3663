use Rattle.std.proofs.Common.{◌∙◌}
use Rattle.sr_rows.proofs.Going.{GoesOn-then}
use Rattle.sr_database_fold.specs.Inner.Readings.{state_in}
use Rattle.sr_database_fold.proofs.Behind.{first_fits, rest_fits, reached_keeps, reach_on, first_runs_not, rest_runs_not}
use Rattle.sr_database_fold.proofs.steps.do_each.Goals as goal

pub do_op-requires-clause-fits : goal.do_op-requires-clause-fits
do_op-requires-clause-fits c =
    first_fits (state_in c.ops.catalog c.ops.rows) c.ops.left.now c.in-Some.rest.now c.in-Some.field-0-0.now.0 c.in-Some.field-0-0.now.1 c.ops.invariant.fits
    c.in-Some.ensures.cases.0

pub ops-preserved : goal.ops-preserved
ops-preserved c =
    let old = state_in c.args.catalog.now c.args.rows.now in
    let now = state_in c.ops.catalog c.ops.rows in
    let after = state_in c.do_op.new.catalog c.do_op.new.rows in
    let left = c.ops.left.now in
    let rest = c.in-Some.rest.now in
    let op = c.in-Some.field-0-0.now.0 in
    let outcome = c.in-Some.field-0-0.now.1 in
    let i = c.ops.invariant in
    let split = c.in-Some.ensures.cases.0 in
    let e = c.in_ok-do_op.ensures in
    record {
      rows = reached_keeps c.ops.catalog c.do_op.new.catalog c.ops.rows c.do_op.new.rows left rest op outcome i.rows i.fits e.effect split;
      fits = rest_fits now after left rest op outcome i.fits e.effect split;
      more = reach_on old now after c.args.ops.now left rest op outcome i.more e.effect split;
      on = GoesOn-then c.args.rows.now c.ops.rows c.do_op.new.rows i.on e.on;
      quiet = λ h. (e.quiet (first_runs_not left rest op outcome (i.quiet h).1 split) ∙ (i.quiet h).0, rest_runs_not left rest op outcome (i.quiet h).1 split);
    }
