-- Ops that were taken, with their outcomes: what was done, and whether it fits the state.
use Rattle.std.specs.Prelude.{◌≡◌, List, map}
use Rattle.std.specs.List.{AllByRecursion}
use Rattle.sr_database_history.specs.Fitting.{DoneFits, DonesFit}
use Rattle.sr_database_history.specs.Folds.{State}
use Rattle.sr_database_history.specs.Recorded.{Done, done_of, IsLawfulDone}
use Rattle.sr_logform.specs.declared.op.Op.{Op}
use Rattle.sr_logform.specs.declared.outcome.Outcome.{Outcome}

-- the op and its outcome are those of this done thing, which fits the state
pub record DoesFit (s : State) (op : Op) (outcome : Outcome) (d : Done) : Type 0 where
  pub is : done_of d ≡ (op, outcome)
  pub meant : IsLawfulDone d
  pub fits : DoneFits s d

-- so of one after the other
pub record DoFit (s : State) (ops : List (Op × Outcome)) (dones : List Done) : Type 0 where
  pub are : map done_of dones ≡ ops
  pub meant : AllByRecursion IsLawfulDone dones
  pub fit : DonesFit s dones
