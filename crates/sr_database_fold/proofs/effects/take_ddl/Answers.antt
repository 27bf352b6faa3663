use Rattle.sr_ast.specs.Statements.{is_ddl}
use Rattle.sr_database_fold.proofs.Behind.{ddl_accepted, ddl_reached}
use Rattle.sr_database_fold.proofs.Told.{found_text}
use Rattle.sr_database_fold.proofs.effects.take_ddl.Goals as goal

pub returns-clause-effect : goal.returns-clause-effect
returns-clause-effect c =
    ddl_reached c.args.catalog.now c.args.rows.now _ c.do_statement-done.new.rows c.args.text.now c.in-Some.stmt c.do_statement-done.result
    (found_text is_ddl c.args.text.now c.in_ok-stmt.field-0 c.in-Some.stmt c.in_ok-stmt.ensures.found c.in-Some.is) c.do_statement-done.ensures.ok

pub do_statement-done-requires-clause-accepted : goal.do_statement-done-requires-clause-accepted
do_statement-done-requires-clause-accepted c =
    ddl_accepted c.args.catalog.now c.args.rows.now c.args.text.now c.in-Some.stmt c.requires.fits
    (found_text is_ddl c.args.text.now c.in_ok-stmt.field-0 c.in-Some.stmt c.in_ok-stmt.ensures.found c.in-Some.is)
