use Rattle.std.proofs.Common.{◌≡◌, ◌+◌, ◌*◌, [], ◌∷◌, drop}
use Rattle.sr_ast.specs.Inner.Chains.{chain_size}
use Rattle.sr_ast.specs.Actions.{chain_of}
use Rattle.sr_catalog_triggers.specs.Triggers.{first_in}
use Rattle.sr_catalog_triggers.proofs.looking.+looking.Given as goal

abbrev pub decreases-first_at : goal.decreases-first_at
decreases-first_at g l = 2 * chain_size (chain_of (l.action.now ∷ []))

abbrev pub decreases-first_in : goal.decreases-first_in
decreases-first_in g l = 2 * chain_size l.actions.now + 1

abbrev pub invariant-first_in-actions : goal.invariant-first_in-actions
invariant-first_in-actions g l = first_in (g.L.Look.finds l.look) (chain_of (drop l.action-index l.action-items)) ≡ first_in (g.L.Look.finds l.look) l.actions
