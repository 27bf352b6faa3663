use Rattle.sr_ast.proofs.Utf8.{name_utf8}
use Rattle.sr_ast_print.proofs.page.name_str.Goals as goal

pub unreachable-requires : goal.unreachable-requires
unreachable-requires c = c.in-Err.ensures.cases.0 (name_utf8 c.bytes.result.now c.bytes.ensures.name)
