-- One op that is judged on a state, and what stands behind it.
use Rattle.std.specs.Prelude.{◌≡◌, Bool, false, List, [], ◌∷◌, ◌++◌}
use Rattle.sr_database_history.specs.Fitting.{DoneFits}
use Rattle.sr_database_history.specs.Folds.{State, after_done}
use Rattle.sr_database_history.specs.Recorded.{Done, done_of, IsLawfulDone}
use Rattle.sr_logform.specs.Outcomes.{IsShortOutcome}
use Rattle.sr_logform.specs.declared.op.Op.{Op}
use Rattle.sr_logform.specs.declared.outcome.Outcome.{Outcome}
use Rattle.sr_database.specs.Views.{View}
use Rattle.sr_database.specs.Inner.Views.{present}
use Rattle.sr_resolve.specs.Taking.{IsDoneJudged}
use Rattle.sr_receive_judged.specs.Judged.{IsJudgedShort}
use Rattle.sr_receive_judged.specs.Inner.Judged.{is_exec}

-- the op with its outcome in the state
pub record IsPairOf (s : State) (above : Bool) (op : Op) (pair : Op × Outcome) : Type 0 where
  pub op_is : pair.0 ≡ op
  pub judged : IsJudgedShort s above op pair.1

-- this was done with an op of this outcome, and it is what judging does in the state
pub record IsOne (s : State) (above : Bool) (op : Op) (outcome : Outcome) (d : Done) : Type 0 where
  pub is : done_of d ≡ (op, outcome)
  pub meant : IsLawfulDone d
  pub fits : DoneFits s d
  pub judging : IsDoneJudged s above d

-- behind others an op stands with its outcome
pub record IsBehind (s : State) (above : Bool) (op : Op) (judged judged' : List (Op × Outcome)) (d : Done) : Type 0 where
  pub outcome : Outcome
  pub is : judged' ≡ judged ++ (op, outcome) ∷ []
  pub one : IsOne s above op outcome d
  pub short : IsShortOutcome outcome

-- its changes are pending: of an op that is no statement they make the state behind it
pub record PendingMore (old new : View) (above : Bool) (op : Op) (judged judged' : List (Op × Outcome)) : Type 0 where
  pub done : Done
  pub behind : IsBehind (present old) above op judged judged' done
  pub leaves : is_exec op ≡ false → present new ≡ after_done done (present old)

-- the state is the one behind it
pub record ScratchMore (s s' : State) (above : Bool) (op : Op) (judged judged' : List (Op × Outcome)) : Type 0 where
  pub done : Done
  pub behind : IsBehind s above op judged judged' done
  pub leaves : s' ≡ after_done done s
