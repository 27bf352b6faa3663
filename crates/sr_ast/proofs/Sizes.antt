-- An action is no larger than the actions that it stands among.
use Rattle.std.proofs.Common.{◌≡◌, ℕ, zero, suc, ◌+◌, ◌<◌, ◌≤◌, List, [], ◌∷◌, length, get_or, arith}
use Rattle.sr_ast.specs.Inner.Chains.{chain_size}
use Rattle.sr_ast.specs.Actions.{chain_of}
use Rattle.sr_ast.specs.declared.action.Action.{Action}
use Rattle.sr_ast.specs.declared.action.Action.TheVariants.{Set, Insert, If, IfElse}

-- the size of actions in order
abbrev pub size_of : List Action → ℕ
size_of actions = chain_size (chain_of actions)

size-some : (actions : List Action) → 1 ≤ size_of actions
size-some [] = omega arith
size-some (Set t n v ∷ rest) = omega arith
size-some (Insert t cs vs ∷ rest) = omega arith
size-some (If c taken ∷ rest) = omega arith
size-some (IfElse c taken other ∷ rest) = omega arith

size-cons : (action : Action) (rest : List Action) → size_of (action ∷ rest) + 1 ≡ size_of (action ∷ []) + size_of rest
size-cons (Set t n v) rest = omega arith
size-cons (Insert t cs vs) rest = omega arith
size-cons (If c taken) rest = omega arith
size-cons (IfElse c taken other) rest = omega arith

pub item-le : (actions : List Action) (i : ℕ) (d : Action) → i < length actions → size_of (get_or actions i d ∷ []) ≤ size_of actions
item-le [] i d h = absurd (omega arith)
item-le (action ∷ rest) zero d h = omega (arith, size-cons action rest, size-some rest)
item-le (action ∷ rest) (suc i) d h = omega (arith, size-cons action rest, size-some (action ∷ []), item-le rest i d (omega arith))
