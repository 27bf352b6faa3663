-- What of a log partners still need, and whether a log that begins at a base keeps it.
use Rattle.std.specs.Prelude.{◌≤◌, ◌<◌, ℕ, min, List, ◌+◌, Bool, true, false, cond, nat_lt, ◌&&◌, [], ◌∷◌, map, max}
use Rattle.std.specs.List.{AllByRecursion}
use Rattle.sr_book.specs.Entries.{Name}
use Rattle.sr_catalog_schema.specs.Members.{user_name}
use Rattle.sr_database_history.specs.Folds.{books_of, State, fresh, next, size, state_of, end_of}
use Rattle.sr_database_history.specs.Recorded.{Recorded}
use Rattle.sr_logform.specs.declared.op.Op.{Op}
use Rattle.sr_scan.specs.Given.{given_of, gives}

-- a transaction that lies past what is confirmed lies past a base
abbrev pub IsKept : ℕ → ℕ → ℕ × List Op → Type 0
IsKept base confirmed tx = confirmed < tx.0 → base < tx.0

-- to no user more was confirmed than was sent
abbrev pub AreOrdered : List Recorded → Type 0
AreOrdered es = (user : Name) → (books_of user es).confirm_sent ≤ (books_of user es).log_sent

-- of what a history gives each user all that he has not confirmed lies past a base, and no more is confirmed than was sent
pub record KeepsNeeds (publisher : Name) (es : List Recorded) (base : ℕ) : Type 0 where
  pub needed : (user : Name) → AllByRecursion (IsKept base (books_of user es).confirm_sent) (given_of publisher es user)
  pub ordered : AreOrdered es

-- there are ops
abbrev pub any_ops : List Op → Bool
any_ops [] = false
any_ops (op ∷ ops) = true

-- the place before the first of entries, which go on from a state and a place, that gives a user something past an offset; their end where none does
abbrev pub end_before : ℕ → State → ℕ → List Recorded → Name → ℕ
end_before sent s place [] user = place
end_before sent s place (r ∷ rs) user =
    cond (any_ops (gives s r user) && nat_lt sent (place + (size r + 5))) place (end_before sent (next s r) (place + (size r + 5)) rs user)

-- the need of a user of a log with a base: the place before the first entry past it that gives him something that he has not confirmed
abbrev pub need_of : Name → List Recorded → ℕ → Name → ℕ
need_of publisher es base user = end_before (max base (books_of user es).confirm_sent) (fresh publisher) 0 es user

-- the least need of some users; the end of the history where there is none
abbrev pub least_from : Name → List Recorded → ℕ → List Name → ℕ
least_from publisher es base [] = end_of es
least_from publisher es base (user ∷ users) = min (need_of publisher es base user) (least_from publisher es base users)

-- the least need of all who are granted, in order of grant
abbrev pub least_need : Name → List Recorded → ℕ → ℕ
least_need publisher es base = least_from publisher es base (map user_name (state_of publisher es).catalog.users)
