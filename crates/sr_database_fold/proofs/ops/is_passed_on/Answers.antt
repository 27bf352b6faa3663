use Rattle.sr_ast.specs.Statements.{is_carried}
use Rattle.sr_database_fold.proofs.Told.{found_text, passed_alone}
use Rattle.sr_database_fold.proofs.ops.is_passed_on.Goals as goal

pub returns : goal.returns
returns c = record {
  told =
      passed_alone c.args.text.now c.args.changes.now c.in-Some.stmt c.if-not-is_empty.ensures
      (found_text is_carried c.args.text.now c.in_ok-stmt.field-0 c.in-Some.stmt c.in_ok-stmt.ensures.found c.in-Some.is);
}
