-- Whether an entry has room.
use Rattle.std.proofs.Common.{◌≡◌, ◌↔◌, ℕ, Bool, true, false, Option, Some, None, IsTrue, subst}
use Rattle.sr_database_history.specs.Fitting.{Fits}
use Rattle.sr_database_history.specs.Folds.{State, size}
use Rattle.sr_database_history.specs.Recorded.{Recorded, entry_of}
use Rattle.sr_logform.specs.Entries.{IsEntry}
use Rattle.sr_logform.specs.Inner.Entries.{IsShortEntry}
use Rattle.sr_logform.specs.declared.entry.Entry.{Entry}
use Rattle.sr_logform.proofs.Shorter.{short_entry}
use Rattle.sr_world_entries.specs.Inner.Ends.{HasRoom, IsEndOf}

-- what cannot be written has no room
pub not_short : (place : ℕ) (entry : Entry) (short : Bool) → (IsTrue short ↔ IsShortEntry entry) → short ≡ false → IsEndOf place entry None
unfolding IsEndOf
not_short place entry short h never = λ room. let surely : short ≡ true = h.1 (short_entry entry room.spelled) in absurd (cc)

-- what ends somewhere has a spelling
pub spelled_where : (place : ℕ) (entry : Entry) (found : Option ℕ) (end : ℕ) → IsEndOf place entry found → found ≡ Some end → IsEntry entry
unfolding IsEndOf
spelled_where place entry None end h is = absurd (cc)
spelled_where place entry (Some e) end h is = h.0.spelled

-- an entry that fits has room
pub has_room : (s : State) (place : ℕ) (r : Recorded) (entry : Entry) → Fits s place r → entry_of r ≡ entry → HasRoom place entry
unfolding size
has_room s place r entry fits is = subst (HasRoom place) is (record { spelled = fits.spelled; short = fits.short; ends = fits.ends })
