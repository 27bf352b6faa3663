-- The ops of a transaction, judged one after the other, each on the state that the one before has left.
-- Here is what no contract of the program says by itself.
use Rattle.std.specs.Prelude.{Bool, List, [], ◌∷◌, Option}
use Rattle.sr_ast.specs.declared.stmt.Stmt.{Stmt}
use Rattle.sr_database_history.specs.Folds.{State, after_done}
use Rattle.sr_database_history.specs.Recorded.{Done}
use Rattle.sr_logform.specs.declared.op.Op.{Op}
use Rattle.sr_resolve.specs.Judging.{IsStatementOf}
use Rattle.sr_resolve.specs.Taking.{done_judged}

-- ---- the ops of a transaction

-- an op that is asked for, with the statement that it carries
abbrev pub Asked : Type 0
Asked = Op × Option Stmt

abbrev pub IsAsked : Asked → Type 0
IsAsked a = IsStatementOf a.1 a.0

-- what is done with ops one after the other
abbrev pub judged_all : State → Bool → List Asked → List Done
judged_all s above [] = []
judged_all s above (a ∷ asked) = done_judged s above a.0 a.1 ∷ judged_all (after_done (done_judged s above a.0 a.1) s) above asked

-- the state that judging leaves. Outcomes that are stored are not read
abbrev pub after_judged : State → Bool → List Asked → State
after_judged s above [] = s
after_judged s above (a ∷ asked) = after_judged (after_done (done_judged s above a.0 a.1) s) above asked
