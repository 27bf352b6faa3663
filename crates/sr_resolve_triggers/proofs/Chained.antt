-- Actions, one more.
use Rattle.std.proofs.Common.{◌≡◌, [], ◌∷◌, map, List, Option, Some, None, refl, sym, ap}
use Rattle.std.specs.Option.{option_and_then}
use Rattle.sr_ast.specs.Actions.{chain_of}
use Rattle.sr_ast.specs.declared.action.Action.{Action}
use Rattle.sr_ast.specs.declared.action.Action.TheVariants.{Set, Insert, If, IfElse}
use Rattle.sr_ast.specs.declared.create.CreateTrigger.{CreateTrigger}
use Rattle.sr_ast.specs.Exprs.{term_of}
use Rattle.sr_resolve_triggers.specs.Actions.{acted, after_set, after_insert, branch, value_in, truth_in}
use Rattle.sr_resolve_triggers.specs.Bindings.{UpdateConflict, Bindings}

pub nothing_more : {A : Type 0} (o : Option A) → option_and_then (λ x. Some x) o ≡ o
nothing_more None = refl
nothing_more (Some x) = refl

-- the actions behind the first go on from the bindings that it leaves
pub one_by_one : (base : UpdateConflict) (trigger : CreateTrigger) (a : Action) (rest : List Action) (bindings : Bindings)
    → acted base trigger (chain_of (a ∷ rest)) bindings ≡ option_and_then (acted base trigger (chain_of rest)) (acted base trigger (chain_of (a ∷ [])) bindings)
one_by_one base trigger (Set alias name e) rest bindings =
    sym (ap (option_and_then (acted base trigger (chain_of rest))) (nothing_more (after_set base trigger alias name (value_in base trigger bindings
    (term_of e)) bindings)))
one_by_one base trigger (Insert table columns es) rest bindings =
    sym (ap (option_and_then (acted base trigger (chain_of rest))) (nothing_more (after_insert base trigger table columns (map term_of es) bindings)))
one_by_one base trigger (If e taken) rest bindings =
    sym (ap (option_and_then (acted base trigger (chain_of rest))) (nothing_more (branch (truth_in base trigger bindings (term_of e))
    (acted base trigger taken bindings) (Some bindings))))
one_by_one base trigger (IfElse e taken other) rest bindings =
    sym (ap (option_and_then (acted base trigger (chain_of rest)))
    (nothing_more (branch (truth_in base trigger bindings (term_of e)) (acted base trigger taken bindings) (acted base trigger other bindings))))

pub ruleset alone = (nothing_more)
