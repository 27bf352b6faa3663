-- What an entry is that is added to a history: by a run of the agent, or by the database itself.
use Rattle.std.proofs.Common.{◌≡◌, ◌<◌, ◌≤◌, List, [], ◌∷◌, ◌++◌, refl, ◌∙◌}
use Rattle.std.specs.Prelude.{⊤, max}
use Rattle.sr_base.specs.declared.offset.Offset.{Offset}
use Rattle.sr_book.specs.Books.{with_note, with_taken}
use Rattle.sr_book.specs.Entries.{Name, booked, local}
use Rattle.sr_book.specs.declared.note.Note.{Note}
use Rattle.sr_book.specs.declared.note.Note.TheVariants.{Confirmed, Asked, Raised, Sent}
use Rattle.sr_book.proofs.Folds.{book_more, same_name}
use Rattle.sr_database_history.specs.Folds.{books_of, end_of, sees, state_of}
use Rattle.sr_database_history.specs.Recorded.{Recorded, Done, own, taken, ddl, sync, pass, note}
use Rattle.sr_database_history.proofs.Joined.{end_from-append, le-end_from}
use Rattle.sr_resolve.specs.Taking.{AreJudged, is_above}
use Rattle.sr_world.specs.Lawful.{SaysSo}

-- a note goes with the history before it: what it confirms or asks for lies within that, and an ask is a new one; what was sent goes on from the book's
-- place, up to what lies within the history, and confirms what was received
abbrev pub GoesWith : List Recorded → Name → Note → Type 0
GoesWith es whose (Confirmed place) = place.0 ≤ end_of es
GoesWith es whose (Asked count place) = (place.0 ≤ end_of es) × ((books_of whose es).resend_count < count)
GoesWith es whose Raised = ⊤
GoesWith es whose (Sent end count confirm) = ((books_of whose es).log_sent ≤ end.0) × (end.0 ≤ max (books_of whose es).log_sent (end_of es))
    × (confirm.0 ≡ (books_of whose es).log_received)

-- an entry of a run of the agent: a note that goes with the history, or a transaction from past what was received, as judging has it
abbrev pub IsRunStep : Name → List Recorded → Recorded → Type 0
IsRunStep publisher es (own changes) = ⊥
IsRunStep publisher es (taken whose at dones) = AreJudged (state_of publisher es) (is_above (state_of publisher es) whose) dones × ((books_of whose es).log_received < at.0)
IsRunStep publisher es (ddl statement) = ⊥
IsRunStep publisher es (sync whose tables) = ⊥
IsRunStep publisher es (pass users only statement changes) = ⊥
IsRunStep publisher es (note whose what) = GoesWith es whose what

-- an entry of the database's own that says what is so
abbrev pub IsOwnStep : Name → List Recorded → Recorded → Type 0
IsOwnStep publisher es r = (sees r ≡ local) × SaysSo (state_of publisher es) r

-- ---- what an entry leaves

-- a longer history ends no earlier
pub ends_later : (es more : List Recorded) → end_of es ≤ end_of (es ++ more)
ends_later es more = rw (end_from-append 0 es more) (le-end_from (end_of es) more)

pub book_noted : (es : List Recorded) (whose : Name) (what : Note) → books_of whose (es ++ note whose what ∷ []) ≡ with_note (books_of whose es) what
book_noted es whose what =
    let one : booked whose (books_of whose es) (sees (note whose what)) ≡ with_note (books_of whose es) what = rw (same_name whose) refl in
    book_more sees whose es (note whose what) ∙ one

pub book_taken : (es : List Recorded) (whose : Name) (at : Offset) (dones : List Done) → books_of whose (es ++ taken whose at dones ∷ []) ≡ with_taken (books_of whose es) at.0
book_taken es whose at dones =
    let one : booked whose (books_of whose es) (sees (taken whose at dones)) ≡ with_taken (books_of whose es) at.0 = rw (same_name whose) refl in
    book_more sees whose es (taken whose at dones) ∙ one
