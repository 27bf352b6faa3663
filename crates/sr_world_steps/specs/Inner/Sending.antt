-- When messages may be noted as sent.
use Rattle.std.specs.Prelude.{◌≡◌, ◌↔◌, ◌<◌, ◌⊎◌, ◌==◌, ◌||◌, ℕ, Bool, false, List, [], ◌∷◌, Option, Contains, IsTrue}
use Rattle.sr_book.specs.Entries.{Name}
use Rattle.sr_book.specs.Rising.{offsets}
use Rattle.sr_book.specs.declared.note.Note.{Note}
use Rattle.sr_book.specs.declared.note.Note.TheVariants.{Confirmed, Asked, Raised, Sent}
use Rattle.sr_database_history.specs.Folds.{state_of, end_of}
use Rattle.sr_database_history.specs.Recorded.{Recorded}
use Rattle.sr_logform.specs.declared.op.Op.{Op}
use Rattle.sr_logform.specs.declared.op.Transaction.{Transaction}
use Rattle.sr_msgform.specs.declared.message.Message.{Message}
use Rattle.sr_scan.specs.Given.{given_of}
use Rattle.sr_world.specs.Real.{layers}
use Rattle.sr_world_model.specs.Steps.{HasSent}
use Rattle.sr_world_steps.specs.Inner.Logs.{EndsOne, IsLog}
use Rattle.sr_world_steps.specs.Inner.Noted.{StandsNoted}
use Rattle.sr_world_steps.specs.Inner.Places.{Log}

-- whether one of these transactions ends at an offset
abbrev pub ends_at : List Transaction → ℕ → Bool
ends_at [] place = false
ends_at (t ∷ ts) place = (t.at.0 == place) || ends_at ts place

-- an offset is what was sent up to, or a later one at which a transaction ends
abbrev pub IsGivenEnd : ℕ → ℕ → List (ℕ × List Op) → Type 0
IsGivenEnd sent end txs = (end ≡ sent) ⊎ ((sent < end) × Contains (offsets txs) end)

-- it is a note of messages that were sent, and these are among the messages
abbrev pub WasSent : List Message → Name → List Recorded → Name → Note → Type 0
WasSent messages d rs user (Confirmed place) = ⊥
WasSent messages d rs user (Asked count place) = ⊥
WasSent messages d rs user Raised = ⊥
WasSent messages d rs user (Sent end count confirm) = HasSent layers messages d rs user end.0 count confirm.0

-- such a note, which may stand in the log
pub record MayBeSent (messages : List Message) (d : Name) (rs : List Recorded) (user : Name) (what : Note) (r : Recorded) : Type 0 where
  pub sent : WasSent messages d rs user what
  pub stands : StandsNoted (state_of d rs) (end_of rs) user what r

-- it was found out whether an offset is such an end of what the history that a log shows gives a user
unfoldable pub TellsEnd : Name → Log → Name → ℕ → ℕ → Bool → Type 0
TellsEnd d log user sent end given = (rs : List Recorded) → IsLog d rs log → (IsTrue given ↔ IsGivenEnd sent end (given_of d rs user))

-- and whether messages were sent
unfoldable pub TellsSent : List Message → Name → Log → Name → Note → Bool → Type 0
TellsSent messages d log user what sent = (rs : List Recorded) → IsLog d rs log → (IsTrue sent ↔ WasSent messages d rs user what)

-- where the note of them would end
unfoldable pub SentEnds : List Message → Name → Log → Name → Note → Option ℕ → Type 0
SentEnds messages d log user what end = (rs : List Recorded) → IsLog d rs log → EndsOne (MayBeSent messages d rs user what) (end_of rs) end
