use Rattle.sr_ast.specs.Statements.{is_carried}
use Rattle.sr_database_fold.proofs.Behind.{run_accepted, run_reached}
use Rattle.sr_database_fold.proofs.Told.{found_text}
use Rattle.sr_database_fold.proofs.steps.do_run.Goals as goal

pub returns-clause-effect : goal.returns-clause-effect
returns-clause-effect c =
    run_reached c.args.catalog.now c.args.rows.now _ c.do_both-done.new.rows c.args.text.now c.args.changes.now c.in-Some.stmt c.do_both-done.result
    (found_text is_carried c.args.text.now c.in_ok-stmt.field-0 c.in-Some.stmt c.in_ok-stmt.ensures.found c.in-Some.is) c.do_both-done.ensures.effect

pub do_both-done-requires-clause-accepted : goal.do_both-done-requires-clause-accepted
do_both-done-requires-clause-accepted c =
    run_accepted c.args.catalog.now c.args.rows.now c.args.text.now c.args.changes.now c.in-Some.stmt c.requires.fits
    (found_text is_carried c.args.text.now c.in_ok-stmt.field-0 c.in-Some.stmt c.in_ok-stmt.ensures.found c.in-Some.is)
