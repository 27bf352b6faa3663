-- A script under way.
use Rattle.std.specs.Prelude.{Bool, cond, List, [], ◌∷◌, ◌++◌, Option, None, bytes_eq}
use Rattle.std.specs.List.{list_any}
use Rattle.sr_ast.specs.declared.stmt.Passthrough.{Passthrough}
use Rattle.sr_book.specs.Entries.{Name}
use Rattle.sr_database_history.specs.Folds.{State, with_changes, next}
use Rattle.sr_database_history.specs.Recorded.{Recorded}
use Rattle.sr_logform.specs.declared.change.Change.{Change}

pub record Work : Type 0 where
  -- what the committed entries come to
  pub state : State
  -- the changes of the open transaction, one statement's after the other
  pub pending : List Change
  -- the passthrough region: whether its statements are for the users only, and the users
  pub region : Option Passthrough

-- at a script's beginning
abbrev pub at_beginning : State → Work
at_beginning s = record { state = s; pending = []; region = None }

-- what a statement sees: the open transaction's changes too
abbrev pub visible : Work → State
visible w = with_changes w.pending w.state

-- with the open transaction committed: nothing is open then
abbrev pub closed : Work → Work
closed w = record w { state = visible w; pending = [] }

-- with the open transaction rolled back
abbrev pub undone : Work → Work
undone w = record w { pending = [] }

-- with an entry committed: nothing is open then
abbrev pub behind : Recorded → Work → Work
behind r w = record w { state = next w.state r; pending = [] }

-- whether a name is among others
abbrev pub is_among : Name → List Name → Bool
is_among name others = list_any (λ other. bytes_eq name other) others

-- the names that are not among some, of each the first
abbrev pub once_behind : List Name → List Name → List Name
once_behind before [] = []
once_behind before (name ∷ names) = cond (is_among name before) (once_behind before names) (name ∷ once_behind (before ++ name ∷ []) names)

-- inside the region that a PASSTHROUGH FOR begins: of each of its users the first
abbrev pub region_of : Passthrough → Passthrough
region_of p = record p { users = once_behind [] p.users }
