-- What a script does, statement by statement.
use Rattle.std.specs.Prelude.{ℕ, ◌+◌, List, [], ◌∷◌, ◌++◌}
use Rattle.sr_ast.specs.declared.stmt.Stmt.{Stmt}
use Rattle.sr_database_history.specs.Folds.{State}
use Rattle.sr_logform.specs.declared.change.Change.{Change}
use Rattle.sr_session_script.specs.Acts.{ScriptAct, rolled_back}
use Rattle.sr_session_script.specs.Meaning.{Stepped, goes, stops, done_by}
use Rattle.sr_session_script.specs.Works.{Work, at_beginning}
use Rattle.sr_session_script.specs.declared.refusal.Refusal.{Refusal}

-- how a script ends: with its last statement, or with the one of this number, which is refused
pub data End : Type 0 where
  finished : End
  refused : ℕ → Refusal → End

-- what a script does, and how it ends
pub record ScriptRun : Type 0 where
  pub acts : List ScriptAct
  pub end : End

-- the act of a script's end: a transaction that is open is rolled back
abbrev pub last_acts : List Change → List ScriptAct
last_acts [] = []
last_acts (c ∷ changes) = rolled_back ∷ []

-- with acts that come first
abbrev pub led : List ScriptAct → ScriptRun → ScriptRun
led acts r = record r { acts = acts ++ r.acts }

-- after the statement of a number: what follows where the script goes on
abbrev pub going_on : ℕ → (Work → ScriptRun) → Stepped → ScriptRun
going_on number rest (goes acts w) = led acts (rest w)
going_on number rest (stops acts fault) = record { acts = acts; end = refused number fault }

-- what the statements behind the first so many do
abbrev pub ran_from : ℕ → Work → List Stmt → ScriptRun
ran_from count w [] = record { acts = last_acts w.pending; end = finished }
ran_from count w (s ∷ statements) = going_on (count + 1) (λ after. ran_from (count + 1) after statements) (done_by w s)

-- what a script does on a state
abbrev pub ran : State → List Stmt → ScriptRun
ran s statements = ran_from 0 (at_beginning s) statements
