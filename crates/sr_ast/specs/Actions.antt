-- Actions of the program, as chains.
use Rattle.std.specs.Prelude.{List, [], ◌∷◌, map}
use Rattle.sr_ast.specs.Chains.{Chain}
use Rattle.sr_ast.specs.Chains.Chain.{done, set, insert, when, choose}
use Rattle.sr_ast.specs.Exprs.{term_of}
use Rattle.sr_ast.specs.declared.action.Action.{Action}
use Rattle.sr_ast.specs.declared.action.Action.TheVariants.{Set, Insert, If, IfElse}

-- the chain that actions in order are
abbrev pub chain_of : List Action → Chain
chain_of [] = done
chain_of (Set t n v ∷ rest) = set t n (term_of v) (chain_of rest)
chain_of (Insert t cs vs ∷ rest) = insert t cs (map term_of vs) (chain_of rest)
chain_of (If c taken ∷ rest) = when (term_of c) taken (chain_of rest)
chain_of (IfElse c taken other ∷ rest) = choose (term_of c) taken other (chain_of rest)
