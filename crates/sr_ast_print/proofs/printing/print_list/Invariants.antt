use Rattle.std.proofs.Common.{◌≡◌, length}
use Rattle.sr_ast.specs.Pages.{put_all, listed, more_listed}
use Rattle.sr_ast_print.proofs.printing.print_list.Given as goal

abbrev pub invariant-items : goal.invariant-items
invariant-items g l = put_all l.page (more_listed g.T.Printed.pieces l.rest) ≡ put_all l.fn.page (listed g.T.Printed.pieces l.items)

abbrev pub decreases-items : goal.decreases-items
decreases-items g l = length l.rest
