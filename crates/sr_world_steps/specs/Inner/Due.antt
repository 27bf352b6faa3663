-- An entry that a database may append, and where it stands in what is shown.
use Rattle.std.specs.Prelude.{◌≡◌, ℕ, ◌+◌, Bool, true, false, Option, Some, None}
use Rattle.sr_book.specs.Entries.{Name}
use Rattle.sr_database_history.specs.Folds.{size, end_of}
use Rattle.sr_database_history.specs.Recorded.{Recorded, entry_of}
use Rattle.sr_logform.specs.declared.entry.Entry.{Entry}
use Rattle.sr_msgform.specs.Messages.{IsMessage}
use Rattle.sr_msgform.specs.declared.message.Message.{Message}
use Rattle.sr_world.specs.Inner.Real.{IsStep}
use Rattle.sr_world_model.specs.Steps.{append, put}
use Rattle.sr_world_model.specs.Worlds.{World, history}
use Rattle.sr_world_steps.specs.declared.step.WorldStep.{WorldStep}
use Rattle.sr_world_steps.specs.declared.step.WorldStep.TheVariants.{Put, Take}
use Rattle.sr_world_steps.specs.Inner.Acts.{by, HasStepped, IsAsked, IsNoStep}
use Rattle.sr_world_steps.specs.Inner.Places.{Log, StandsAt}
use Rattle.sr_world_steps.specs.Inner.Shown.{Shown, Shows}

-- the world allows a database to append this entry, whose log stands at a place, and which ends at an offset
pub record Appends (w : World Recorded) (shown : Shown) (d : Name) (entry : Entry) (place end : ℕ) (r : Recorded) : Type 0 where
  pub log : Log
  pub stands : StandsAt d shown.histories place log
  pub allowed : IsStep w (by d (append r))
  pub is : entry_of r ≡ entry
  pub ends : end ≡ end_of (history w d) + (size r + 5)

-- in some world that is shown so a database may append it
pub record IsDue (shown : Shown) (entry : Entry) (place end : ℕ) : Type 0 where
  pub world : World Recorded
  pub shows : Shows world shown
  pub owner : Name
  pub recorded : Recorded
  pub appends : Appends world shown owner entry place end recorded

-- a step asks for an entry that the world allows, whose log stands at a place, and which ends at an offset
pub record HasFound (w : World Recorded) (shown : Shown) (step : WorldStep) (d : Name) (entry : Entry) (place end : ℕ) : Type 0 where
  pub recorded : Recorded
  pub asked : IsAsked w step (by d (append recorded))
  pub appends : Appends w shown d entry place end recorded

-- the place and the end of the entry that a step asks for; or the world does not allow the step
abbrev pub IsFound : World Recorded → Shown → WorldStep → Name → Entry → Option (ℕ × ℕ) → Type 0
IsFound w shown step d entry None = IsNoStep w step
IsFound w shown step d entry (Some f) = HasFound w shown step d entry f.0 f.1

-- whichever world is shown so
unfoldable pub IsFoundIn : Shown → WorldStep → Name → Entry → Option (ℕ × ℕ) → Type 0
IsFoundIn shown step d entry found = (w : World Recorded) → Shows w shown → IsFound w shown step d entry found

-- the place, the end and the entry of a take; or the world does not allow it
abbrev pub IsTook : World Recorded → Shown → Name → Name → Option (ℕ × ℕ × Entry) → Type 0
IsTook w shown d user None = IsNoStep w (Take d user)
IsTook w shown d user (Some f) = HasFound w shown (Take d user) d f.2 f.0 f.1

-- whichever world is shown so
unfoldable pub IsTookIn : Shown → Name → Name → Option (ℕ × ℕ × Entry) → Type 0
IsTookIn shown d user found = (w : World Recorded) → Shows w shown → IsTook w shown d user found

-- a step was made, or the world does not allow it
abbrev pub IsMade : World Recorded → WorldStep → Shown → Bool → Type 0
IsMade w step now true = HasStepped w step now
IsMade w step now false = IsNoStep w step

-- whichever world was shown so
unfoldable pub IsMadeIn : Shown → WorldStep → Shown → Bool → Type 0
IsMadeIn shown step now made = (w : World Recorded) → Shows w shown → IsMade w step now made

-- the world allows a put of a message that has a spelling; or it does not allow the put
abbrev pub IsAllowedPut : World Recorded → Name → Message → Bool → Type 0
IsAllowedPut w d m true = IsMessage m × IsStep w (by d (put m))
IsAllowedPut w d m false = IsNoStep w (Put d m)

-- whichever world is shown so
unfoldable pub TellsPutIn : Shown → Name → Message → Bool → Type 0
TellsPutIn shown d m may = (w : World Recorded) → Shows w shown → IsAllowedPut w d m may

-- in some world that is shown so the put is allowed
pub record IsPutDue (shown : Shown) (d : Name) (m : Message) : Type 0 where
  pub world : World Recorded
  pub shows : Shows world shown
  pub allowed : IsStep world (by d (put m))
