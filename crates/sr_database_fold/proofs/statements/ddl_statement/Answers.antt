use Rattle.std.proofs.Common.{sym, ◌∙◌}
use Rattle.sr_ast.specs.Statements.{is_ddl}
use Rattle.sr_database_fold.proofs.Told.{other_kind}
use Rattle.sr_database_fold.proofs.statements.ddl_statement.Goals as goal

pub returns-else-is_ddl-clause-found : goal.returns-else-is_ddl-clause-found
returns-else-is_ddl-clause-found c =
    other_kind is_ddl c.args.text.now c.in_ok-stmt.field-0 c.in-Some.stmt c.in_ok-stmt.ensures.found c.in-Some.is
    (sym c.is_ddl.ensures ∙ c.if-is_ddl.false)
