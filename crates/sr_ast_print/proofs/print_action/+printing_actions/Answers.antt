use Rattle.std.proofs.Common.{◌≡◌, ◌≤◌, [], ◌∷◌, ap, sym, subst, arith}
use Rattle.sr_ast.specs.Inner.Chains.{chain_size}
use Rattle.sr_ast.specs.declared.action.Action.{Action}
use Rattle.sr_ast.proofs.Sizes.{size_of, item-le}
use Rattle.sr_ast_print.proofs.print_action.+printing_actions.Goals as goal

pub print_actions-print_action-requires : goal.print_actions-print_action-requires
print_actions-print_action-requires t c =
    let items = c.as_slice-action-items.result.now in
    let whole : size_of items ≡ chain_size c.args.actions.now = ap chain_size c.as_slice-action-items.ensures.chain in
    let at = item-le items c.actions.action-index c.action-item.result c.actions-test.true in
    let least : size_of (c.action-item.result ∷ []) ≤ size_of items =
    subst (λ (a : Action). size_of (a ∷ []) ≤ size_of items) (sym c.action-item.is) at in
    (omega arith, tt)
