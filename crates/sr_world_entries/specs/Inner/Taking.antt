-- The entry that takes a transaction of a partner, and where it ends.
use Rattle.std.specs.Prelude.{◌≡◌, ℕ, ◌+◌, Option, Some, None}
use Rattle.sr_book.specs.Entries.{Name, from_user}
use Rattle.sr_database_history.specs.Folds.{State, size, sees}
use Rattle.sr_database_history.specs.Recorded.{Recorded, entry_of}
use Rattle.sr_logform.specs.declared.entry.Entry.{Entry}
use Rattle.sr_logform.specs.declared.op.Transaction.{Transaction}
use Rattle.sr_world.specs.Lawful.{IsLawful}
use Rattle.sr_world_entries.specs.Inner.Ends.{IsEndOf}

-- of all entries that fit, one is this and ends here; or none fits
abbrev pub EndsWith : (Recorded → Type 0) → ℕ → Option (ℕ × Entry) → Type 0
EndsWith Fits place None = (r : Recorded) → ¬ (Fits r)
EndsWith Fits place (Some found) = (r : Recorded) × Fits r × (entry_of r ≡ found.1) × (found.0 ≡ place + (size r + 5))

-- an entry takes the transaction of a user, and keeps every rule
pub record MayTake (s : State) (place : ℕ) (user : Name) (t : Transaction) (r : Recorded) : Type 0 where
  pub taken : sees r ≡ from_user user t.at.0 t.ops
  pub lawful : IsLawful s place r

-- which entry does, and where it ends
unfoldable pub TakeEndsIn : State → ℕ → Name → Transaction → Option (ℕ × Entry) → Type 0
TakeEndsIn s place user t found = EndsWith (MayTake s place user t) place found

-- an entry with the offset at which it ends; nothing where it may not stand
abbrev pub IsEndWith : ℕ → Entry → Option (ℕ × Entry) → Type 0
IsEndWith place entry None = IsEndOf place entry None
IsEndWith place entry (Some found) = (found.1 ≡ entry) × IsEndOf place entry (Some found.0)
