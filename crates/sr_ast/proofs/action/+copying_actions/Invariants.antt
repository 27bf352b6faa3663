use Rattle.std.proofs.Common.{◌≡◌, ◌+◌, ◌*◌, [], ◌∷◌, take}
use Rattle.sr_ast.specs.Inner.Chains.{chain_size}
use Rattle.sr_ast.proofs.Sizes.{size_of}
use Rattle.sr_ast.proofs.action.+copying_actions.Given as goal

abbrev pub decreases-copy_action : goal.decreases-copy_action
decreases-copy_action l = 2 * size_of (l.action.now ∷ [])

abbrev pub decreases-copy_actions : goal.decreases-copy_actions
decreases-copy_actions l = 2 * chain_size l.actions.now + 1

abbrev pub invariant-copy_actions-actions : goal.invariant-copy_actions-actions
invariant-copy_actions-actions l = l.copies.items ≡ take l.action-index l.action-items
