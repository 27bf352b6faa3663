-- What taking a transaction does.
use Rattle.std.specs.Prelude.{◌≡◌, ◌<◌, ◌^◌, Bool, length, List, [], map}
use Rattle.std.specs.List.{AllByRecursion}
use Rattle.sr_book.specs.Entries.{Name}
use Rattle.sr_database_history.specs.Fitting.{DonesFit}
use Rattle.sr_database_history.specs.Folds.{State, after_dones}
use Rattle.sr_database_history.specs.Recorded.{Done, done_of, IsLawfulDone}
use Rattle.sr_logform.specs.declared.entry.Entry.{Entry}
use Rattle.sr_logform.specs.declared.entry.Entry.TheVariants.{From}
use Rattle.sr_logform.specs.declared.op.Op.{Op}
use Rattle.sr_logform.specs.declared.op.Op.TheVariants as ops
use Rattle.sr_logform.specs.declared.op.Transaction.{Transaction}
use Rattle.sr_logform.specs.declared.outcome.Outcome.{Outcome}
use Rattle.sr_logform.specs.Ops.{IsShortOp}
use Rattle.sr_logform.specs.Outcomes.{IsShortOutcome}
use Rattle.sr_resolve.specs.Judging.{IsJudged}
use Rattle.sr_resolve.specs.Taking.{AreJudged, is_above, op_of}

-- what was done with ops that came from above or from below is what judging does in the state, one after the other
pub record AreDone (s : State) (above : Bool) (asked : List Op) (dones : List Done) : Type 0 where
  pub judged : AreJudged s above dones
  pub ops_are : map op_of dones ≡ asked

-- ops with their outcomes, as an entry has them: those of what was done with these ops in the state, which leaves another one
pub record AreJudgedAs (s s' : State) (above : Bool) (asked : List Op) (ops : List (Op × Outcome)) : Type 0 where
  pub dones : List Done
  pub are : ops ≡ map done_of dones
  pub done : AreDone s above asked dones
  pub after : s' ≡ after_dones dones s
  pub meant : AllByRecursion IsLawfulDone dones
  pub fit : DonesFit s dones
  pub short : AllByRecursion (λ p. IsShortOp p.0 × IsShortOutcome p.1) ops

-- it is not empty, and has fewer than 2^32 items
pub record IsCount {A : Type 0} (items : List A) : Type 0 where
  pub few : length items < 2 ^ 32
  pub filled : ¬ (items ≡ [])

-- the entry of a transaction that is taken
pub record IsEntryOf (s : State) (user : Name) (t : Transaction) (entry : Entry) : Type 0 where
  pub ops : List (Op × Outcome)
  pub is : entry ≡ From user t.at ops
  pub after : State
  pub judged : AreJudgedAs s after (is_above s user) t.ops ops
  pub few : IsCount ops

-- an op was judged
pub record IsJudgedShort (s : State) (above : Bool) (op : Op) (outcome : Outcome) : Type 0 where
  pub judged : IsJudged s.catalog s.rows above op outcome
  pub short : IsShortOutcome outcome
