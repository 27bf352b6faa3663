-- What a user has not been sent of what a history gives him.
use Rattle.std.specs.Prelude.{ℕ, List, map, filter, nat_lt}
use Rattle.sr_base.specs.Values.{offset_from}
use Rattle.sr_book.specs.Entries.{Name}
use Rattle.sr_database_history.specs.Recorded.{Recorded}
use Rattle.sr_logform.specs.declared.op.Op.{Op}
use Rattle.sr_logform.specs.declared.op.Transaction.{Transaction}
use Rattle.sr_scan.specs.Given.{given_of}

-- a transaction that is given, as a body holds it
abbrev pub as_transaction : ℕ × List Op → Transaction
as_transaction tx = record { at = offset_from tx.0; ops = tx.1 }

-- those that lie past an offset
abbrev pub past : ℕ → List (ℕ × List Op) → List Transaction
past sent txs = map as_transaction (filter (λ tx. nat_lt sent tx.0) txs)

-- those that a history gives a user past the offset up to which it was sent to him
abbrev pub unsent : Name → List Recorded → Name → ℕ → List Transaction
unsent publisher es user sent = past sent (given_of publisher es user)
