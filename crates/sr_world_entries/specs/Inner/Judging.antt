-- Ops that are judged one after the other, each on the state that those before it leave.
use Rattle.std.specs.Prelude.{◌≡◌, Bool, List, [], ◌∷◌, ◌++◌, map}
use Rattle.std.specs.List.{AllByRecursion}
use Rattle.sr_database_history.specs.Fitting.{DoneFits, DonesFit}
use Rattle.sr_database_history.specs.Folds.{State, after_done, after_dones}
use Rattle.sr_database_history.specs.Recorded.{Done, done_of, IsLawfulDone}
use Rattle.sr_logform.specs.declared.op.Op.{Op}
use Rattle.sr_logform.specs.declared.outcome.Outcome.{Outcome}
use Rattle.sr_resolve.specs.Judging.{IsJudged}
use Rattle.sr_resolve.specs.Taking.{AreJudged, IsDoneJudged, op_of}

-- an op with its outcome in the state
pub record IsPairOf (s : State) (above : Bool) (op : Op) (pair : Op × Outcome) : Type 0 where
  pub op_is : pair.0 ≡ op
  pub judged : IsJudged s.catalog s.rows above op pair.1

-- this was done with it, and it is what judging does in the state
pub record IsOne (s : State) (above : Bool) (op : Op) (pair : Op × Outcome) (d : Done) : Type 0 where
  pub is : done_of d ≡ pair
  pub op_is : op_of d ≡ op
  pub meant : IsLawfulDone d
  pub fits : DoneFits s d
  pub judging : IsDoneJudged s above d

-- behind others an op stands with its outcome, and the state is the one behind it
pub record IsOneMore (s s' : State) (above : Bool) (op : Op) (judged judged' : List (Op × Outcome)) : Type 0 where
  pub pair : Op × Outcome
  pub is : judged' ≡ judged ++ pair ∷ []
  pub done : Done
  pub one : IsOne s above op pair done
  pub after : s' ≡ after_done done s

-- ops with their outcomes, as an entry has them: those of what judging does with these ops in the state, one after the other, which leaves another one
pub record AreJudgedAs (s s' : State) (above : Bool) (asked : List Op) (ops : List (Op × Outcome)) : Type 0 where
  pub dones : List Done
  pub are : ops ≡ map done_of dones
  pub ops_are : map op_of dones ≡ asked
  pub judged : AreJudged s above dones
  pub after : s' ≡ after_dones dones s
  pub meant : AllByRecursion IsLawfulDone dones
  pub fit : DonesFit s dones
