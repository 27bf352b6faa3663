-- What a history gives a user in a window, as a log shows it.
use Rattle.std.specs.Prelude.{◌≡◌, ℕ, ◌&&◌, nat_lt, nat_le, Bool, cond, List, [], ◌∷◌, map, filter, Option, Some, None}
use Rattle.sr_base.specs.Values.{offset_from}
use Rattle.sr_book.specs.Entries.{Name}
use Rattle.sr_database_history.specs.Recorded.{Recorded}
use Rattle.sr_logform.specs.declared.op.Op.{Op}
use Rattle.sr_logform.specs.declared.op.Transaction.{Transaction}
use Rattle.sr_scan.specs.Given.{given_of}
use Rattle.sr_world_steps.specs.Inner.Logs.{IsLog}
use Rattle.sr_world_steps.specs.Inner.Places.{Log}

-- whether an offset lies in a window
abbrev pub is_within : ℕ → ℕ → ℕ → Bool
is_within prev upto place = nat_lt prev place && nat_le place upto

-- a transaction that lies in a window, if there is one
abbrev pub kept : ℕ → ℕ → Option Transaction → List Transaction
kept prev upto None = []
kept prev upto (Some t) = cond (is_within prev upto t.at.0) (t ∷ []) []

-- a transaction that ends at a place
abbrev pub transaction_in : ℕ × List Op → Transaction
transaction_in tx = record { at = offset_from tx.0; ops = tx.1 }

-- the transactions of a window
abbrev pub in_window : ℕ → ℕ → List (ℕ × List Op) → List Transaction
in_window prev upto txs = map transaction_in (filter (λ tx. is_within prev upto tx.0) txs)

-- these are the transactions that the history gives the user in a window
unfoldable pub AreGiven : Name → Name → ℕ → ℕ → Log → List Transaction → Type 0
AreGiven d user prev upto log found = (rs : List Recorded) → IsLog d rs log → found ≡ in_window prev upto (given_of d rs user)
