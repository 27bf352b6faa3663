-- Bodies: transactions one after the other, with rising offsets.
use Rattle.std.specs.Prelude.{ℕ, ◌<◌, ⊤, List, [], ◌∷◌, length, Option, Some, None, nat_lt, if◌then◌else◌}
use Rattle.std.specs.List.{flat_map, AllByRecursion}
use Rattle.sr_base.specs.declared.offset.Offset.{Offset}
use Rattle.sr_logform.specs.declared.op.Transaction.{Transaction}
use Rattle.sr_logform.specs.Limits.{longest_transaction}
use Rattle.sr_logform.specs.Ops.{transaction_spelling, IsTransaction}

-- the bytes of a body
abbrev pub body_spelling : List Transaction → List ℕ
body_spelling transactions = flat_map transaction_spelling transactions

-- the first offset lies past this one, and each further one past the one before it
abbrev pub RisesPast : ℕ → List Transaction → Type 0
RisesPast low [] = ⊤
RisesPast low (t ∷ ts) = (low < t.at.0) × RisesPast t.at.0 ts

-- each offset lies past the one before it
abbrev pub AreRising : List Transaction → Type 0
AreRising [] = ⊤
AreRising (t ∷ ts) = RisesPast t.at.0 ts

-- what has a spelling
pub record IsBody (transactions : List Transaction) : Type 0 where
  pub each : AllByRecursion IsTransaction transactions
  pub rising : AreRising transactions

-- the offset of the last transaction, or this one where there is none
abbrev pub last_at : Offset → List Transaction → Offset
last_at offset [] = offset
last_at offset (t ∷ ts) = last_at t.at ts

-- the offset of the last transaction, if there is one
abbrev pub last_offset : List Transaction → Option Offset
last_offset [] = None
last_offset (t ∷ ts) = Some (last_at t.at ts)

-- the length of the first encoding that is longer
abbrev pub first_long : List Transaction → Option ℕ
first_long [] = None
first_long (t ∷ ts) = if nat_lt longest_transaction (length (transaction_spelling t)) then Some (length (transaction_spelling t)) else first_long ts
