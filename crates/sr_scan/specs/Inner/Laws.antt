-- What holds of what a history gives.
use Rattle.std.specs.Prelude.{◌≡◌, ℕ, ◌<◌, ◌^◌, false, List, Option, length}
use Rattle.std.specs.List.{AllByRecursion}
use Rattle.std.specs.Ordering.{eq_by_cmp}
use Rattle.sr_base.specs.Order.{value_cmp}
use Rattle.sr_base.specs.declared.value.Value.{Value}
use Rattle.sr_base.specs.declared.offset.Offset.{Offset}
use Rattle.sr_logform.specs.declared.op.Op.{Op}
use Rattle.sr_logform.specs.declared.op.Transaction.{Transaction}
use Rattle.sr_logform.specs.Ops.{IsOp}
use Rattle.sr_database_history.specs.Folds.{State, next}
use Rattle.sr_database_history.specs.Recorded.{Recorded}
use Rattle.sr_scan.specs.Given.{gives}
use Rattle.sr_scan.specs.Inner.Scanners.{Scan, transaction_of}

-- each op has a spelling, and there are fewer than 2 ^ 32
pub record HaveSpellings (ops : List Op) : Type 0 where
  pub each : AllByRecursion IsOp ops
  pub few : length ops < 2 ^ 32

-- a scanner answers, to an entry that ends at an offset, what the history gives its user there, and goes on with the catalog behind the entry
abbrev pub AnswersAsGiven : State → Recorded → Scan → Offset → Option Transaction → Scan → Type 0
AnswersAsGiven s r old at found new = (found ≡ transaction_of at (gives s r old.user)) × (new.catalog ≡ (next s r).catalog) × (new.user ≡ old.user)

-- a column's value before and the one after are two
abbrev pub IsOfTwoValues : List ℕ × Value × Value → Type 0
IsOfTwoValues u = eq_by_cmp value_cmp u.1 u.2 ≡ false
