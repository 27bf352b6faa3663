use Rattle.sr_ast.specs.Statements.{is_carried}
use Rattle.sr_database_fold.proofs.Behind.{pass_accepted, run_passed}
use Rattle.sr_database_fold.proofs.Told.{found_text}
use Rattle.sr_database_fold.proofs.effects.take_pass.Goals as goal

pub returns-clause-effect : goal.returns-clause-effect
returns-clause-effect c = λ users.
    run_passed c.args.catalog.now c.args.rows.now _ c.take_run-done.new.rows users c.args.only c.args.text.now c.args.changes.now c.in-Some.stmt
    c.take_run-done.result c.if-only.false
    (found_text is_carried c.args.text.now c.in_ok-stmt.field-0 c.in-Some.stmt c.in_ok-stmt.ensures.found c.in-Some.is) c.take_run-done.ensures.ok

pub take_run-done-requires-clause-accepted : goal.take_run-done-requires-clause-accepted
take_run-done-requires-clause-accepted c =
    pass_accepted c.args.catalog.now c.args.rows.now c.args.only c.args.text.now c.args.changes.now c.in-Some.stmt c.if-only.false c.requires.fits
    (found_text is_carried c.args.text.now c.in_ok-stmt.field-0 c.in-Some.stmt c.in_ok-stmt.ensures.found c.in-Some.is)
