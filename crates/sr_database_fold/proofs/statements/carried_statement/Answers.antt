use Rattle.std.proofs.Common.{sym, ◌∙◌}
use Rattle.sr_ast.specs.Statements.{is_carried}
use Rattle.sr_database_fold.proofs.Told.{other_kind}
use Rattle.sr_database_fold.proofs.statements.carried_statement.Goals as goal

pub returns-else-is_carried-clause-found : goal.returns-else-is_carried-clause-found
returns-else-is_carried-clause-found c =
    other_kind is_carried c.args.text.now c.in_ok-stmt.field-0 c.in-Some.stmt c.in_ok-stmt.ensures.found c.in-Some.is
    (sym c.is_carried.ensures ∙ c.if-is_carried.false)
