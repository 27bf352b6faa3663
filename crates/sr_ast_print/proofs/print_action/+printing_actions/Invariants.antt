use Rattle.std.proofs.Common.{◌≡◌, ◌+◌, ◌*◌, [], ◌∷◌, drop}
use Rattle.sr_ast.specs.Inner.Chains.{chain_size}
use Rattle.sr_ast.specs.Actions.{chain_of}
use Rattle.sr_ast.specs.Pages.{put_all}
use Rattle.sr_ast.specs.Printing.{chain_pieces}
use Rattle.sr_ast.proofs.Sizes.{size_of}
use Rattle.sr_ast_print.proofs.print_action.+printing_actions.Given as goal

abbrev pub decreases-print_action : goal.decreases-print_action
decreases-print_action l = 2 * size_of (l.action.now ∷ [])

abbrev pub decreases-print_actions : goal.decreases-print_actions
decreases-print_actions l = 2 * chain_size l.actions.now + 1

abbrev pub invariant-print_actions-actions : goal.invariant-print_actions-actions
invariant-print_actions-actions l = put_all l.page (chain_pieces (chain_of (drop l.action-index l.action-items))) ≡ put_all l.fn.page (chain_pieces l.actions)
