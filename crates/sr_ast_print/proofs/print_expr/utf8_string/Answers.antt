use Rattle.std.proofs.lemmas.Bool.{false≢true}
use Rattle.sr_ast_print.proofs.print_expr.utf8_string.Goals as goal

pub unreachable-requires : goal.unreachable-requires
unreachable-requires c = false≢true (c.in-Err.ensures.succeeds c.requires)
