-- The actions in an IF are fewer than those that it stands among.
use Rattle.std.specs.Prelude.{◌≤◌, max, List, [], ◌∷◌}
use Rattle.std.proofs.Common.{arith}
use denote.Param.Weighed.{most}
use Rattle.sr_ast.specs.Inner.Chains.{chain_size}
use Rattle.sr_ast.specs.Actions.{chain_of}
use Rattle.sr_ast.specs.declared.action.Actions.TheDeep.{deep-Action}
use Rattle.sr_ast.specs.declared.action.Action.{Action}
use Rattle.sr_ast.specs.declared.action.Action.TheVariants.{Set, Insert, If, IfElse}

pub actions_fall : (actions : List Action) → max (most deep-Action actions) 0 ≤ chain_size (chain_of actions)
actions_fall [] = omega arith
actions_fall (Set t n v ∷ rest) = omega (arith, actions_fall rest)
actions_fall (Insert t cs vs ∷ rest) = omega (arith, actions_fall rest)
actions_fall (If c taken ∷ rest) = omega (arith, actions_fall rest)
actions_fall (IfElse c taken other ∷ rest) = omega (arith, actions_fall rest)
